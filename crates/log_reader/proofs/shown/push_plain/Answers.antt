use Rattle.std.specs.Prelude.{string_bytes}
use Rattle.log_reader.proofs.ShownLaws.{pushed_shown}
use Rattle.log_reader.proofs.shown.push_plain.Goals as goal

pub returns-clause-shown : goal.returns-clause-shown
returns-clause-shown c = pushed_shown c.push.result (string_bytes c.args.text.now) (string_bytes c.push.new.self) c.args.c c.push.ensures.bytes c.requires

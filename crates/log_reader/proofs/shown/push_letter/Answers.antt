use Rattle.std.specs.Prelude.{string_bytes}
use Rattle.log_reader.proofs.SpellLaws.{letter_added}
use Rattle.log_reader.proofs.shown.push_letter.Goals as goal

pub returns-clause-added : goal.returns-clause-added
returns-clause-added c =
    letter_added c.push_plain.result c.args.c (string_bytes c.args.text.now) (string_bytes c.push_plain.new.text) c.requires.high c.push_plain.ensures.added

use Rattle.std.specs.Prelude.{string_bytes}
use Rattle.log_reader.specs.Shown.{StaysShown}
use Rattle.log_reader.proofs.shown.push_json.Given as goal

abbrev pub invariant-loop-c : goal.invariant-loop-c
invariant-loop-c l = StaysShown (string_bytes l.initial.text) (string_bytes l.text)

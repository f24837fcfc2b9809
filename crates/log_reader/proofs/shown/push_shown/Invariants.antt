use Rattle.std.specs.Prelude.{encode_utf8_all, string_bytes}
use Rattle.log_reader.specs.Shown.{StaysShown}
use Rattle.log_reader.specs.Spelling.{AddsSpelled}
use Rattle.log_reader.proofs.shown.push_shown.Given as goal

-- the characters so far
abbrev pub invariant-loop-c : goal.invariant-loop-c
invariant-loop-c l =
    StaysShown (string_bytes l.initial.text) (string_bytes l.text) × AddsSpelled (encode_utf8_all l.yielded) (string_bytes l.initial.text) (string_bytes l.text)

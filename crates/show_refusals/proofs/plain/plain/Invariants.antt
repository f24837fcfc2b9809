use Rattle.std.specs.Prelude.{string_bytes}
use Rattle.show_refusals.specs.Lines.{IsPlain}
use Rattle.show_refusals.proofs.plain.plain.Given as goal

-- what was written so far is printed
abbrev pub invariant-loop-byte : goal.invariant-loop-byte
invariant-loop-byte l = IsPlain (string_bytes l.plain)

use Rattle.json_tokens.proofs.FewDigits.{AreDigitsOf}
use Rattle.json_tokens.proofs.digits.number_of_few.Given as goal

-- the number that the digits so far write
abbrev pub invariant-loop-byte : goal.invariant-loop-byte
invariant-loop-byte l = AreDigitsOf l.bytes l.byte-index l.number

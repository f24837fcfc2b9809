-- The numbers of refusals.
use Rattle.std.specs.Prelude.{ℕ}
use Rattle.log_reader.specs.declared.refusal.Reason.{Reason}
use Rattle.log_reader.specs.declared.refusal.Reason.TheVariants.{NotJson, TooLong}

abbrev pub code_of : Reason → ℕ
code_of NotJson = 1
code_of TooLong = 9
code_of reason = 30

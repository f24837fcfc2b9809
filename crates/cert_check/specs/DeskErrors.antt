-- The refusals of a desk, and their numbers.
use Rattle.std.specs.Prelude.{ℕ}
use Rattle.cert_check.specs.declared.desk_error.DeskError.{DeskError}
use Rattle.cert_check.specs.declared.desk_error.DeskError.TheVariants.{Memory, BadWorkers, ShapeMismatch, Full, NotThatPattern, Doubled, Stranger, NoSuch}

abbrev pub number_of : DeskError → ℕ
number_of Memory = 8
number_of BadWorkers = 10
number_of ShapeMismatch = 21
number_of Full = 22
number_of NotThatPattern = 23
number_of Doubled = 24
number_of Stranger = 25
number_of NoSuch = 26

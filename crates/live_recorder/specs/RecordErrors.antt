-- The refusals of a recorder, and their numbers.
use Rattle.std.specs.Prelude.{ℕ}
use Rattle.live_recorder.specs.declared.record_error.RecordError.{RecordError}
use Rattle.live_recorder.specs.declared.record_error.RecordError.TheVariants.{Memory, BadLimits, LaneFull, StillPending, CellGaveBack, NothingPending, WrongReturn}

abbrev pub number_of : RecordError → ℕ
number_of Memory = 8
number_of BadLimits = 10
number_of LaneFull = 11
number_of StillPending = 12
number_of CellGaveBack = 13
number_of NothingPending = 14
number_of WrongReturn = 17

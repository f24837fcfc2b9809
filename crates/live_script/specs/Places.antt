-- The places in the form of a script: where the elements of a list are, and how many of them are read, one more than the form
-- can have. The steps are read apart.
use Rattle.std.specs.Prelude.{ℕ, ◌+◌, ◌==◌, if◌then◌else◌, Option, Some}
use Rattle.json_histories.specs.declared.history_place.HistoryPlace.TheVariants as histories
use Rattle.json_histories.specs.Places as history_places
use Rattle.live_script.specs.declared.script_place.TheConstants.{SCRIPT_PARTS}
use Rattle.live_script.specs.declared.script_place.ScriptPlace.{ScriptPlace}
use Rattle.live_script.specs.declared.script_place.ScriptPlace.TheVariants.{Whole, Start, Scalar}

abbrev pub limit_of : ScriptPlace → Option ℕ
limit_of Whole = Some (SCRIPT_PARTS + 1)
limit_of (Start place) = history_places.limit_of place
limit_of Scalar = Some 0

-- a script has its start after its steps
abbrev pub inside_of : ScriptPlace → ℕ → ScriptPlace
inside_of Whole index = if index == 3 then Start histories.Start else Scalar
inside_of (Start place) index = Start (history_places.inside_of place index)
inside_of Scalar index = Scalar

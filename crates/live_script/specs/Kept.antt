-- Values that are kept whole where a reader of scripts cuts them.
use Rattle.std.specs.Prelude.{⊤, List, [], ◌∷◌}
use Rattle.serde_json.specs.Data.{Data}
use Rattle.json_bounded.specs.Cut.{IsKept}
use Rattle.json_histories.specs.declared.history_place.HistoryPlace.TheVariants as histories
use Rattle.json_histories.specs.Places as history_places
use Rattle.live_script.specs.declared.script_place.ScriptPlace.TheVariants.{Start}
use Rattle.live_script.specs.Places.{inside_of, limit_of}

-- a call or a return of a step
abbrev pub IsWholeOperation : Data → Type 0
IsWholeOperation = IsKept history_places.limit_of history_places.inside_of histories.Operation

-- the values after the steps
abbrev pub AreWholeStarts : List Data → Type 0
AreWholeStarts [] = ⊤
AreWholeStarts (d ∷ ds) = IsKept limit_of inside_of (Start histories.Start) d × AreWholeStarts ds

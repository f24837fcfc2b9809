-- What is read of a script, and what is seen of the values after its steps.
use Rattle.std.specs.Prelude.{◌≡◌, List, map}
use Rattle.serde_json.specs.Data.{Data}
use Rattle.json_bounded.specs.Cut.{cut}
use Rattle.json_histories.specs.declared.history_place.HistoryPlace.TheVariants as histories
use Rattle.live_script.specs.declared.any_script.AnyScript.{AnyScript}
use Rattle.live_script.specs.declared.script_place.ScriptPlace.TheVariants.{Start}
use Rattle.live_script.specs.AnyScriptForm.{parts_of, IsAnyScript}
use Rattle.live_script.specs.Places.{inside_of, limit_of}
use Rattle.live_script.specs.ScriptForm.{Parts, ScriptValue, IsScript}
use Rattle.live_script.specs.Shortened.{any_kept, kept_of}
use Rattle.live_script.specs.StepForm.{written_form}

-- the values after the steps, as they are seen
abbrev pub rest_seen : List Data → List Data
rest_seen rest = map (cut limit_of inside_of (Start histories.Start)) rest

-- a script has these parts, and this is kept of it
module _ {S C R : Type 0} (call_form : C → Data) (return_form : R → Data) (is_call : C → Type 0) (start_form : S → List Data) (is_start has_form : S → Type 0) where
  pub record IsKeptScript (p : Parts) (kept : ScriptValue S C R) : Type 0 where
    pub script : ScriptValue S C R
    pub is : IsScript is_call is_start has_form script
    pub sessions : p.sessions ≡ script.sessions
    pub steps : p.steps ≡ map (written_form call_form return_form) script.steps
    pub rest : p.rest ≡ start_form script.start
    pub kept_is : kept ≡ kept_of script

abbrev pub IsAnyKept : Parts → AnyScript → Type 0
IsAnyKept p kept = (script : AnyScript) × IsAnyScript script × (p ≡ parts_of script) × (kept ≡ any_kept script)

-- What is taken of the steps of a script, one after the other.
use Rattle.std.specs.Prelude.{◌≡◌, ◌≢◌, ⊤, ℕ, ◌+◌, List, [], ◌∷◌, ◌++◌, length, map, Option, Some, None}
use Rattle.serde_json.specs.Data.{Data}
use Rattle.json_histories.specs.Json.{list}
use Rattle.json_histories.specs.Reads.{number_form}
use Rattle.live_script.specs.declared.script.TheConstants.{MAX_STEPS}
use Rattle.live_script.specs.declared.script_error.ScriptError.{ScriptError}
use Rattle.live_script.specs.declared.script_error.ScriptError.TheVariants.{BadStep, TooManySteps, Memory}
use Rattle.live_script.specs.declared.script_steps.Passed.{Passed}
use Rattle.live_script.specs.declared.script_steps.Passed.TheVariants as passed
use Rattle.live_script.specs.declared.steps_taken.StepsTaken.{StepsTaken}
use Rattle.live_script.specs.declared.steps_taken.StepsTaken.TheVariants.{Fine, Refused}
use Rattle.live_script.specs.declared.written_step.WrittenStep.{WrittenStep}
use Rattle.live_script.specs.ScriptForm.{AreForms, AreTooMany, IsBadAt, IsFew}
use Rattle.live_script.specs.Shortened.{kept_written}
use Rattle.live_script.specs.StepForm.{written_out}

-- the second of these elements is no number, or the third no list
abbrev pub AreNoScript : List Data → Type 0
AreNoScript ds = (a : Data) (n : ℕ) (cs more : List Data) → ds ≢ a ∷ number_form n ∷ list cs ∷ more

module _ {C R : Type 0} (call_form : C → Data) (return_form : R → Data) (is_call : C → Type 0) (k : ℕ) where
  -- why steps are refused
  abbrev pub IsStepsRefusal : List Data → ScriptError → Type 0
  IsStepsRefusal ds (BadStep i) = IsBadAt call_form return_form is_call k ds i
  IsStepsRefusal ds TooManySteps = AreTooMany call_form return_form is_call k ds
  IsStepsRefusal ds Memory = ⊤
  IsStepsRefusal ds _ = ⊥

  -- these elements are the forms of steps, of which these are kept and which leave room for so many more; or they are refused, whatever
  -- comes after them
  abbrev pub AreTaken : StepsTaken C R → List Data → Type 0
  AreTaken (Fine kept room) ds =
      (steps : List (WrittenStep C R)) × AreForms call_form return_form is_call k ds steps × (kept.items ≡ map kept_written steps)
      × (room + length (written_out k steps) ≡ MAX_STEPS)
  AreTaken (Refused e) ds = (more : List Data) → IsStepsRefusal (ds ++ more) e

  -- the same of a value, which may be no list
  abbrev pub IsTakenList : Option (StepsTaken C R) → Option (List Data) → Type 0
  IsTakenList None ds = ds ≡ None
  IsTakenList (Some taken) None = ⊥
  IsTakenList (Some taken) (Some ds) = AreTaken taken ds

  -- these elements are the forms of steps that are not too many, of which these are kept
  abbrev pub AreSteps : List Data → List (WrittenStep C R) → Type 0
  AreSteps ds kept = (steps : List (WrittenStep C R)) × AreForms call_form return_form is_call k ds steps × IsFew k steps × (kept ≡ map kept_written steps)

module _ {C R : Type 0} (call_form : C → Data) (return_form : R → Data) (is_call : C → Type 0) where
  -- these elements of a script were passed, and from the third its steps were taken, for as many sessions as the second says
  abbrev pub ArePassed : Passed C R → List Data → Type 0
  ArePassed passed.Nothing ds = ds ≡ []
  ArePassed passed.Name ds = (a : Data) × (ds ≡ a ∷ [])
  ArePassed (passed.Sessions k) ds = (a : Data) × (ds ≡ a ∷ number_form k ∷ [])
  ArePassed (passed.Steps k taken) ds =
      (a : Data) × (cs : List Data) × (more : List Data) × (ds ≡ a ∷ number_form k ∷ list cs ∷ more) × AreTaken call_form return_form is_call k taken cs

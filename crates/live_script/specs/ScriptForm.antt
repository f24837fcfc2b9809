-- The JSON form of a script: `[name, k, steps]`, or `[name, k, steps, start]` where the start is not the plain one; and which
-- refusal comes first where a value has no such form (this project's profile).
use Rattle.std.specs.Prelude.{◌≡◌, ◌≢◌, ⊤, ℕ, ◌<◌, ◌≤◌, List, [], ◌∷◌, All, length, map, take, Some, slice_get}
use Rattle.model_history.specs.declared.limits.TheConstants.{MAX_SESSIONS}
use Rattle.serde_json.specs.Data.{Data, string}
use Rattle.json_histories.specs.Json.{list}
use Rattle.json_histories.specs.Reads.{number_form}
use Rattle.live_script.specs.StepForm.{written_form, written_out, IsWritten}
use Rattle.live_script.specs.declared.script.TheConstants.{MAX_STEPS}
use Rattle.live_script.specs.declared.script_error.ScriptError.{ScriptError}
use Rattle.live_script.specs.declared.script_error.ScriptError.TheVariants.{BadStep, TooManySteps, BadInitial, Memory}
use Rattle.live_script.specs.declared.written_step.WrittenStep.{WrittenStep}

-- a script: the number of sessions, the start of their object, and the steps as they are written
pub record ScriptValue (S C R : Type 0) : Type 0 where
  pub sessions : ℕ
  pub start : S
  pub steps : List (WrittenStep C R)

-- a world has from 1 to 16 sessions
abbrev pub IsNumberOfSessions : ℕ → Type 0
IsNumberOfSessions k = (1 ≤ k) × (k ≤ MAX_SESSIONS)

-- steps of a script of k sessions that are not too many, where those that represent several count as what they represent
abbrev pub IsFew : {C R : Type 0} → ℕ → List (WrittenStep C R) → Type 0
IsFew k steps = length (written_out k steps) ≤ MAX_STEPS

-- the parts of the form of a script: a name, a number, the forms of steps, and perhaps one more list
pub record Parts : Type 0 where
  pub name : List ℕ
  pub sessions : ℕ
  pub steps : List Data
  pub rest : List Data

abbrev pub parts_form : Parts → Data
parts_form p = list (string p.name ∷ number_form p.sessions ∷ list p.steps ∷ p.rest)

-- nothing, or one list
abbrev pub IsRest : List Data → Type 0
IsRest [] = ⊤
IsRest (d ∷ []) = (ds : List Data) × (d ≡ list ds)
IsRest (d ∷ e ∷ ds) = ⊥

-- at most one list comes after the forms of the steps
abbrev pub AreParts : Parts → Type 0
AreParts p = IsRest p.rest

module _ {S C R : Type 0} (call_form : C → Data) (return_form : R → Data) (start_form : S → List Data) where
  -- the parts of the form of a script, for an object of this name
  abbrev pub script_parts : List ℕ → ScriptValue S C R → Parts
  script_parts name script = record {
    name = name;
    sessions = script.sessions;
    steps = map (written_form call_form return_form) script.steps;
    rest = start_form script.start;
  }

-- a script of calls and starts of their types
pub record IsScript {S C R : Type 0} (is_call : C → Type 0) (is_start has_form : S → Type 0) (script : ScriptValue S C R) : Type 0 where
  pub sessions : IsNumberOfSessions script.sessions
  pub start : is_start script.start
  pub start_form : has_form script.start
  pub each : All (IsWritten is_call script.sessions) script.steps
  pub few : IsFew script.sessions script.steps

module _ {C R : Type 0} (call_form : C → Data) (return_form : R → Data) (is_call : C → Type 0) (k : ℕ) where
  -- these values are the forms of these steps
  abbrev pub AreForms : List Data → List (WrittenStep C R) → Type 0
  AreForms ds steps = (ds ≡ map (written_form call_form return_form) steps) × All (IsWritten is_call k) steps

  -- a value is the form of no step
  abbrev pub IsNoForm : Data → Type 0
  IsNoForm d = (step : WrittenStep C R) → IsWritten is_call k step → d ≢ written_form call_form return_form step

  -- a step has no form, and those before it have one and are not too many
  abbrev pub IsBadAt : List Data → ℕ → Type 0
  IsBadAt ds i = (steps : List (WrittenStep C R)) × (d : Data) × AreForms (take i ds) steps × IsFew k steps × (slice_get ds i ≡ Some d) × IsNoForm d

  -- some first steps have forms and are too many
  abbrev pub AreTooMany : List Data → Type 0
  AreTooMany ds = (n : ℕ) × (steps : List (WrittenStep C R)) × AreForms (take n ds) steps × (MAX_STEPS < length (written_out k steps))

  -- all steps have forms and are not too many
  abbrev pub AreFine : List Data → Type 0
  AreFine ds = (steps : List (WrittenStep C R)) × AreForms ds steps × IsFew k steps

  -- why the steps and the start of a script of k sessions are refused, or memory ran out
  abbrev pub IsRefusalOf : {S : Type 0} → (S → List Data) → (is_start has_form : S → Type 0) → List Data → List Data → ScriptError → Type 0
  IsRefusalOf start_form is_start has_form ds rest (BadStep i) = IsBadAt ds i
  IsRefusalOf start_form is_start has_form ds rest TooManySteps = AreTooMany ds
  IsRefusalOf {S} start_form is_start has_form ds rest BadInitial = AreFine ds × ((start : S) → is_start start → has_form start → rest ≢ start_form start)
  IsRefusalOf start_form is_start has_form ds rest Memory = ⊤
  IsRefusalOf start_form is_start has_form ds rest _ = ⊥

-- What is read of a script of one object, by its parts.
use Rattle.std.proofs.Common.{◌≡◌, ◌≢◌, ℕ, List, Option, Some, None, ap, sym, ◌∙◌}
use Rattle.serde_json.specs.Data.{Data}
use Rattle.live_script.specs.declared.any_script.AnyScript.{AnyScript}
use Rattle.live_script.specs.declared.script_error.ScriptError.{ScriptError}
use Rattle.live_script.specs.declared.script_error.ScriptError.TheVariants.{NotJson, BadShape, UnknownObject, BadLimits, BadStep, TooManySteps, BadInitial, Memory}
use Rattle.live_script.specs.declared.written_step.WrittenStep.{WrittenStep}
use Rattle.live_script.specs.AnyScriptForm.{parts_of, IsAnyScript}
use Rattle.live_script.specs.Kept.{AreWholeStarts}
use Rattle.live_script.specs.ScriptForm.{Parts, IsNumberOfSessions, IsRefusalOf, IsScript, ScriptValue, script_parts}
use Rattle.live_script.specs.Shortened.{any_kept, kept_of}
use Rattle.live_script.specs.Steps.ScriptsRead.{IsAnyKept, IsKeptScript, rest_seen}
use Rattle.live_script.specs.Steps.StepsTaken.{AreSteps, IsStepsRefusal}
use Rattle.live_script.proofs.CutScripts.{start_alone, start_kept}

module _ {S C R : Type 0} (call_form : C → Data) (return_form : R → Data) (is_call : C → Type 0) (start_form : S → List Data) (is_start has_form : S → Type 0) where
  -- why steps are refused is why the script is
  pub steps_refused : (k : ℕ) (steps rest : List Data) (e : ScriptError) → IsStepsRefusal call_form return_form is_call k steps e
      → IsRefusalOf call_form return_form is_call k start_form is_start has_form steps rest e
  steps_refused k steps rest NotJson refused = refused
  steps_refused k steps rest BadShape refused = refused
  steps_refused k steps rest UnknownObject refused = refused
  steps_refused k steps rest BadLimits refused = refused
  steps_refused k steps rest (BadStep i) refused = refused
  steps_refused k steps rest TooManySteps refused = refused
  steps_refused k steps rest BadInitial refused = absurd refused
  steps_refused k steps rest Memory refused = refused

  module _ (start_at : List Data → Option S)
      (start_read : (ds : List Data) (s : S) → start_at ds ≡ Some s → (ds ≡ start_form s) × is_start s × has_form s)
      (start_again : (s : S) → is_start s → has_form s → start_at (start_form s) ≡ Some s)
      (whole : (s : S) → is_start s → AreWholeStarts (start_form s)) (p : Parts) (rest : List Data) (after : rest ≡ rest_seen p.rest) where
    -- where no start is seen, there is none
    pub no_start : start_at rest ≡ None → (s : S) → is_start s → has_form s → p.rest ≢ start_form s
    no_start none s is has same =
        let seen : rest ≡ start_form s = after ∙ ap rest_seen same ∙ start_kept (start_form s) (whole s is) in
        let e : ◌≡◌ {A = Option S} None (Some s) = sym none ∙ ap start_at seen ∙ start_again s is has in absurd cc

    pub start_there : (s : S) → start_at rest ≡ Some s → (p.rest ≡ start_form s) × is_start s × has_form s
    start_there s found =
        let read = start_read rest s found in
        (start_alone p.rest (start_form s) (whole s read.1) (sym after ∙ read.0), read.1, read.2)

    pub bad_initial : (k : ℕ) (kept : List (WrittenStep C R)) → AreSteps call_form return_form is_call k p.steps kept → start_at rest ≡ None
        → IsRefusalOf call_form return_form is_call k start_form is_start has_form p.steps p.rest BadInitial
    bad_initial k kept are none = ((are.0, are.1, are.2), no_start none)

    pub script_kept : (k : ℕ) → IsNumberOfSessions k → p.sessions ≡ k → (kept : List (WrittenStep C R)) → AreSteps call_form return_form is_call k p.steps kept
        → (s : S) → start_at rest ≡ Some s → (value : ScriptValue S C R) → value ≡ record { sessions = k; start = s; steps = kept }
        → IsKeptScript call_form return_form is_call start_form is_start has_form p value
    script_kept k is many kept are s found value made =
        let start = start_there s found in
        record {
          script = record { sessions = k; start = s; steps = are.0 };
          is = record { sessions = is; start = start.1; start_form = start.2; each = are.1.1; few = are.2 };
          sessions = many;
          steps = are.1.0;
          rest = start.0;
          kept_is = made ∙ (λ i. record { sessions = k; start = s; steps = are.3 i });
        }

-- what is kept of a script of one object is kept of a script of any
module _ {S C R : Type 0} (call_form : C → Data) (return_form : R → Data) (is_call : C → Type 0) (start_form : S → List Data) (is_start has_form : S → Type 0)
    (make : ScriptValue S C R → AnyScript) (name : List ℕ) (parts : (s : ScriptValue S C R) → parts_of (make s) ≡ script_parts call_form return_form start_form name s)
    (is_any : (s : ScriptValue S C R) → IsScript is_call is_start has_form s → IsAnyScript (make s)) (keeps : (s : ScriptValue S C R) → any_kept (make s) ≡ make (kept_of s)) where
  pub any_kept_of : (p : Parts) → p.name ≡ name → (kept : ScriptValue S C R) → IsKeptScript call_form return_form is_call start_form is_start has_form p kept → IsAnyKept p (make kept)
  any_kept_of p named kept k = (
    make k.script,
    is_any k.script k.is,
    (λ i. record { name = named i; sessions = k.sessions i; steps = k.steps i; rest = k.rest i }) ∙ sym (parts k.script),
    ap make k.kept_is ∙ sym (keeps k.script),
  )

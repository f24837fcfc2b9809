-- Replays of what is kept of a script are replays of the script.
use Rattle.std.proofs.Common.{◌≡◌, ℕ, zero, suc, ◌≤◌, List, [], ◌∷◌, ◌++◌, length, map, refl, sym, ◌∙◌, ap, ap₂, subst}
use Rattle.std.specs.Prelude.{Bool, Option, replicate}
use Rattle.std.specs.List.{zip}
use Rattle.std.proofs.lemmas.List.{length-map, map-append}
use Rattle.serde_json.specs.Data.{Data}
use Rattle.model_history.specs.History.{HistoryValue}
use Rattle.cert_check.specs.declared.criterion.Criterion.{Criterion}
use Rattle.pattern_check.specs.declared.pattern.Pattern.{Pattern}
use Rattle.live_simulation.specs.declared.step.StepOf.{StepOf}
use Rattle.live_simulation.specs.declared.step.StepOf.TheVariants.{Look}
use Rattle.live_simulation.specs.Runs.{IsRun}
use Rattle.live_script.specs.declared.any_script.AnyScript.{AnyScript}
use Rattle.live_script.specs.declared.any_script.AnyScript.TheVariants as scripts
use Rattle.live_script.specs.declared.written_step.WrittenStep.{WrittenStep}
use Rattle.live_script.specs.declared.written_step.WrittenStep.TheVariants.{Once, StartUntold, Looks}
use Rattle.live_script.specs.AnyScriptForm.{IsAnyScript}
use Rattle.live_script.specs.Replays.{IsReplay, IsReplayOf}
use Rattle.live_script.specs.ScriptForm.{ScriptValue}
use Rattle.live_script.specs.Shortened.{any_kept, kept_of, kept_step, kept_written}
use Rattle.live_script.specs.StepForm.{steps_of, written_out}
use Rattle.live_script.proofs.KeptRuns.{of_kept_run}

-- ---- what is kept expands to as many steps

module _ {C R : Type 0} where
  kept_looks : (z n : ℕ) → replicate {A = StepOf C R} n (Look z) ≡ map kept_step (replicate n (Look z))
  kept_looks z zero = refl
  kept_looks z (suc n) = ap {B = List (StepOf C R)} (λ steps. Look z ∷ steps) (kept_looks z n)

  kept_steps_of : (k : ℕ) (step : WrittenStep C R) → steps_of k (kept_written step) ≡ map kept_step (steps_of k step)
  kept_steps_of k (Once step) = refl
  kept_steps_of k StartUntold = refl
  kept_steps_of k (Looks z n) = kept_looks z n

pub kept_written_out : {C R : Type 0} (k : ℕ) (steps : List (WrittenStep C R))
    → written_out k (map kept_written steps) ≡ map kept_step (written_out k steps)
kept_written_out k [] = refl
kept_written_out k (step ∷ steps) =
    ap₂ ◌++◌ (kept_steps_of k step) (kept_written_out k steps) ∙ sym (map-append kept_step (steps_of k step) (written_out k steps))

-- ---- replays

pub of_kept_replay : {S C R : Type 0} (fits : C → R → Bool) (answer : S → List C → C → R)
    (passes : HistoryValue S C R → Criterion → Pattern → Type 0) (name : List ℕ) (operation_form : C → Option R → Data)
    (start_form : S → List Data) (script : ScriptValue S C R) (text : List ℕ)
    → script.sessions ≤ 16 → IsReplayOf fits answer passes name operation_form start_form (kept_of script) text
    → IsReplayOf fits answer passes name operation_form start_form script text
of_kept_replay {S} {C} {R} fits answer passes name operation_form start_form script text few replay =
    let k : ℕ = script.sessions in
    let steps : List (StepOf C R) = written_out k script.steps in
    let same : written_out k (map kept_written script.steps) ≡ map kept_step steps = kept_written_out k script.steps in
    record {
      replies = replay.replies;
      many = replay.many ∙ (ap length same ∙ length-map steps kept_step);
      run = of_kept_run fits answer passes script.start k few steps replay.replies
          (subst (λ (kept : List (StepOf C R)). IsRun fits answer passes script.start k (zip kept replay.replies)) same replay.run);
      lines = replay.lines;
    }

pub any_kept_replay : (script : AnyScript) → IsAnyScript script → (text : List ℕ) → IsReplay (any_kept script) text → IsReplay script text
any_kept_replay (scripts.Register s) is text replay = of_kept_replay _ _ _ _ _ _ s text is.sessions.1 replay
any_kept_replay (scripts.Counter s) is text replay = of_kept_replay _ _ _ _ _ _ s text is.sessions.1 replay
any_kept_replay (scripts.Set s) is text replay = of_kept_replay _ _ _ _ _ _ s text is.sessions.1 replay
any_kept_replay (scripts.Queue s) is text replay = of_kept_replay _ _ _ _ _ _ s text is.sessions.1 replay
any_kept_replay (scripts.Memory s) is text replay = of_kept_replay _ _ _ _ _ _ s text is.sessions.1 replay
any_kept_replay (scripts.Counters s) is text replay = of_kept_replay _ _ _ _ _ _ s text is.sessions.1 replay
any_kept_replay (scripts.Sets s) is text replay = of_kept_replay _ _ _ _ _ _ s text is.sessions.1 replay
any_kept_replay (scripts.Queues s) is text replay = of_kept_replay _ _ _ _ _ _ s text is.sessions.1 replay

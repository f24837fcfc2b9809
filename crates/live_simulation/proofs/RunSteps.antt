-- Runs are made step by step.
use Rattle.std.proofs.Common.{◌≡◌, ℕ, zero, suc, ◌<◌, inl, inr, List, [], ◌∷◌, ◌++◌, length, take, refl, sym, arith, subst}
use Rattle.std.specs.Prelude.{Bool}
use Rattle.std.proofs.lemmas.List.{take-append-le, take_at}
use Rattle.std.proofs.lemmas.Option.{slice_get_within}
use Rattle.model_history.specs.History.{HistoryValue}
use Rattle.cert_check.specs.declared.criterion.Criterion.{Criterion}
use Rattle.pattern_check.specs.declared.pattern.Pattern.{Pattern}
use Rattle.live_recorder.proofs.Telling.{get_pushed, get_push_cases}
use Rattle.live_simulation.specs.declared.step.StepOf.{StepOf}
use Rattle.live_simulation.specs.declared.reply.ReplyOf.{ReplyOf}
use Rattle.live_simulation.specs.Runs.{Replied, IsReply, IsRun}
use Rattle.live_simulation.proofs.RunsRecorded.{run_front}

module _ {S C R : Type 0} (fits : C → R → Bool) (answer : S → List C → C → R) (passes : HistoryValue S C R → Criterion → Pattern → Type 0) (start : S) (k : ℕ) where
  pub run_none : IsRun fits answer passes start k []
  run_none zero step reply at = absurd (cc)
  run_none (suc i) step reply at = absurd (cc)

  module _ (es : List (Replied S C R)) (step : StepOf C R) (reply : ReplyOf (HistoryValue S C R)) where
    -- what holds of the last step of a longer run holds of a step at some place of it
    at_place : IsReply fits answer passes start k es step reply → (i : ℕ) (step' : StepOf C R) (reply' : ReplyOf (HistoryValue S C R)) → i ≡ length es
        → ◌≡◌ {A = Replied S C R} (step, reply) (step', reply') → IsReply fits answer passes start k (take i (es ++ (step, reply) ∷ [])) step' reply'
    at_place here i step' reply' e same =
        subst (λ (before : List (Replied S C R)). IsReply fits answer passes start k before step' reply') (sym (take_at es ((step, reply) ∷ []) i (sym e)))
        (subst (λ (x : Replied S C R). IsReply fits answer passes start k es x.0 x.1) same here)

    pub run_more : IsRun fits answer passes start k es → IsReply fits answer passes start k es step reply → IsRun fits answer passes start k (es ++ (step, reply) ∷ [])
    run_more run here i step' reply' at = elim (get_push_cases es (step, reply) i (step', reply') at) [
      | inl h ↦
          let within : i < length es = slice_get_within es i (step', reply') h in
          subst (λ (before : List (Replied S C R)). IsReply fits answer passes start k before step' reply') (sym (take-append-le i es ((step, reply) ∷ []) (omega arith))) (run i step' reply' h)
      | inr h ↦ at_place here i step' reply' h.0 h.1
    ]

    pub run_last : IsRun fits answer passes start k (es ++ (step, reply) ∷ []) → IsRun fits answer passes start k es × IsReply fits answer passes start k es step reply
    run_last run = (
      subst (λ (front : List (Replied S C R)). IsRun fits answer passes start k front) (take_at es ((step, reply) ∷ []) (length es) refl)
          (run_front fits answer passes start k (es ++ (step, reply) ∷ []) (length es) run),
      subst (λ (before : List (Replied S C R)). IsReply fits answer passes start k before step reply) (take_at es ((step, reply) ∷ []) (length es) refl)
          (run (length es) step reply (get_pushed es (step, reply))),
    )

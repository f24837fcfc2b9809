-- The history of a log by a choice meets what its history meets by each choice that has more of the reads and says the same of these.
use Rattle.std.proofs.Common.{◌≡◌, ℕ, true, false, Bool, List, refl, sym, subst, ◌∙◌, inl, inr, arith}
use Rattle.std.specs.Prelude.{◌⊎◌, if◌then◌else◌, Option, Some, None, option_map, slice_get}
use Rattle.order_memory.specs.Memory.{MemoryHistory, memory_answer}
use Rattle.cert_check.specs.declared.criterion.Criterion.{Criterion}
use Rattle.cert_check.specs.Criteria.{Meets}
use Rattle.log_events.specs.declared.event.ClientCall.{ClientCall}
use Rattle.log_events.specs.declared.event.ClientCall.TheVariants.{WriteTo, ReadOf, DeleteOf}
use Rattle.log_events.specs.declared.event.Ending.{Ending}
use Rattle.log_events.specs.declared.event.Ending.TheVariants.{Answered, Got, GotNothing, Failed, Lost}
use Rattle.log_events.specs.declared.event.Event.{Event}
use Rattle.log_events.specs.Events.{IsEnded, IsAllowed, Call, run_calls}
use Rattle.log_events.specs.Histories.{is_deleted, history_of}
use Rattle.log_events.proofs.CallPlaces.{calls-from, ended-from}
use Rattle.log_choices.specs.Choices.{Choice, IsNullRead, IsPartOf}
use Rattle.log_choices.specs.ChosenHistories.{history_by}
use Rattle.log_choices.proofs.RenamedCriteria.{meets-renamed, renamed-meets}
use Rattle.log_choices.proofs.ResolvedEvents.{resolved-allowed}
use Rattle.log_choices.proofs.ResolvedHistories.{spread, spread-once, resolved, nothing_begun, run-from, run-to, undeleted, start-resolved, history-resolved}
use Rattle.log_choices.proofs.ResolvedLogs.{resolved_call, resolved_miss, resolved_ending, resolved_call_of}
use Rattle.log_choices.proofs.ThinnerLogs.{IsAlike, IsThinner, thinner-meets}

-- the resolved log meets what the history by the choice meets
module _ (es : List Event) (f : Choice) (allowed : IsAllowed es) where
  pub to-resolved : (criterion : Criterion) → Meets memory_answer (history_by es f) criterion → Meets memory_answer (history_of (resolved es f)) criterion
  to-resolved criterion met =
      subst (λ (h : MemoryHistory). Meets memory_answer h criterion) (sym (history-resolved es f allowed))
      (meets-renamed spread (history_by es f) refl spread-once criterion met)

  pub from-resolved : (criterion : Criterion) → Meets memory_answer (history_of (resolved es f)) criterion → Meets memory_answer (history_by es f) criterion
  from-resolved criterion met =
      renamed-meets spread (history_by es f) refl spread-once criterion
      (subst (λ (h : MemoryHistory). Meets memory_answer h criterion) (history-resolved es f allowed) met)

module _ (es : List Event) (g f : Choice) (allowed : IsAllowed es) (part : IsPartOf es g f) where
  ending-alike : (a : Call) (k : ℕ) → slice_get (run_calls es) k ≡ Some a → IsAlike (resolved_call_of es g a) (resolved_call_of es f a)
  ending-alike a k at = record { client = refl; place = refl; call = refl; ending = by_call a.call a.ending refl refl }
    where
      IsKept : ClientCall → Option Ending → Type 0
      IsKept call ending =
          (option_map (resolved_ending es g (a.place, call)) ending ≡ option_map (resolved_ending es f (a.place, call)) ending)
          ⊎ ((x : ℕ) × (resolved_call a.place call ≡ ReadOf x) × (option_map (resolved_ending es g (a.place, call)) ending ≡ Some Lost))

      null-read : (x : ℕ) → a.call ≡ ReadOf x → a.ending ≡ Some GotNothing → is_deleted es x ≡ true → (j : ℕ) × IsNullRead es a.client x a.place j
      null-read x called ended named =
          let (i, place, here) = calls-from 0 es k a at in
          let (j, end) = ended-from es i a GotNothing here ended in
          let same : i ≡ a.place = omega arith in (
            j,
            record {
              ended = subst (λ (n : ℕ). IsEnded es a.client (ReadOf x) n j GotNothing) same
                  (subst (λ (c : ClientCall). IsEnded es a.client c i j GotNothing) called end);
              named = named;
            },
          )

      missed : (x : ℕ) → a.call ≡ ReadOf x → a.ending ≡ Some GotNothing → (b : Bool) → is_deleted es x ≡ b → (o : Option (Option ℕ)) → g a.place ≡ o
          → IsKept (ReadOf x) (Some GotNothing)
      missed x called ended false unnamed o is =
          inl ((λ i. Some (resolved_miss (if unnamed i then g a.place else Some None))) ∙ sym (λ i. Some (resolved_miss (if unnamed i then f a.place else Some None))))
      missed x called ended true named None is = inr (x, refl, λ i. Some (resolved_miss (if named i then is i else Some None)))
      missed x called ended true named (Some c) is =
          let (j, null) = null-read x called ended named in
          let more = part a.client x a.place j c null is in
          inl ((λ i. Some (resolved_miss (if named i then is i else Some None))) ∙ sym (λ i. Some (resolved_miss (if named i then more i else Some None))))

      by_call : (call : ClientCall) (ending : Option Ending) → a.call ≡ call → a.ending ≡ ending → IsKept call ending
      by_call call None called ended = inl refl
      by_call (WriteTo x v) (Some Answered) called ended = inl refl
      by_call (WriteTo x v) (Some (Got u)) called ended = inl refl
      by_call (WriteTo x v) (Some GotNothing) called ended = inl refl
      by_call (WriteTo x v) (Some Failed) called ended = inl refl
      by_call (WriteTo x v) (Some Lost) called ended = inl refl
      by_call (DeleteOf x) (Some Answered) called ended = inl refl
      by_call (DeleteOf x) (Some (Got u)) called ended = inl refl
      by_call (DeleteOf x) (Some GotNothing) called ended = inl refl
      by_call (DeleteOf x) (Some Failed) called ended = inl refl
      by_call (DeleteOf x) (Some Lost) called ended = inl refl
      by_call (ReadOf x) (Some Answered) called ended = inl refl
      by_call (ReadOf x) (Some (Got u)) called ended = inl refl
      by_call (ReadOf x) (Some GotNothing) called ended = missed x called ended (is_deleted es x) refl (g a.place) refl
      by_call (ReadOf x) (Some Failed) called ended = inl refl
      by_call (ReadOf x) (Some Lost) called ended = inl refl

  part-thinner : IsThinner (resolved es g) (resolved es f)
  part-thinner = record {
    starts = start-resolved es g allowed (nothing_begun es g) 0 es ∙ sym (start-resolved es f allowed (nothing_begun es f) 0 es);
    forth = λ k b at.
        let (a, there, same) = run-from es g allowed k b at in
        (resolved_call_of es f a, run-to es f allowed k a there, subst (λ (c : Call). IsAlike c (resolved_call_of es f a)) same (ending-alike a k there));
    back = λ k b at.
        let (a, there, same) = run-from es f allowed k b at in
        (resolved_call_of es g a, run-to es g allowed k a there, subst (λ (c : Call). IsAlike (resolved_call_of es g a) c) same (ending-alike a k there));
    thin_undeleted = undeleted es g allowed;
    whole_undeleted = undeleted es f allowed;
  }

  pub part-meets : (criterion : Criterion) → Meets memory_answer (history_by es f) criterion → Meets memory_answer (history_by es g) criterion
  part-meets criterion met =
      from-resolved es g allowed criterion
      (thinner-meets (resolved es g) (resolved es f) part-thinner (resolved-allowed es g allowed) criterion (to-resolved es f allowed criterion met))

-- The calls that are pending at the end of events are those of the run that have no ending.
use Rattle.std.proofs.Common.{◌≡◌, ℕ, zero, suc, ◌+◌, ◌-◌, true, false, List, [], ◌∷◌, length, drop, refl, ap, sym, subst, ◌∙◌, arith}
use Rattle.std.specs.Prelude.{◌==◌, if◌then◌else◌, Some, None, slice_get}
use Rattle.std.proofs.lemmas.Option.{same_Some, slice_get_within}
use Rattle.std.proofs.lemmas.Bool.{eqb-false}
use Rattle.log_events.specs.declared.event.ClientCall.{ClientCall}
use Rattle.log_events.specs.declared.event.Ending.{Ending}
use Rattle.log_events.specs.declared.event.Event.{Event}
use Rattle.log_events.specs.declared.event.Event.TheVariants.{Starts, Begins, Ends}
use Rattle.log_events.specs.Events.{IsAt, IsOpen, Call, ending_in, run_calls}
use Rattle.log_events.proofs.ListPlaces.{slice_get-drop}
use Rattle.log_events.proofs.CallPlaces.{ending_in-from, calls-from, calls-to, call_at}

none_after : (c : ℕ) (es : List Event) → ending_in c es ≡ None → (k : ℕ) (ending : Ending) → ¬ IsAt es k (Ends c ending)
none_after c [] none k ending at = absurd cc
none_after c (Starts x v ∷ es) none zero ending at = absurd cc
none_after c (Starts x v ∷ es) none (suc k) ending at = none_after c es none k ending at
none_after c (Begins d call ∷ es) none zero ending at = absurd cc
none_after c (Begins d call ∷ es) none (suc k) ending at = none_after c es none k ending at
none_after c (Ends d first ∷ es) none k ending at =
    elim (d == c) as (λ b. (d == c) ≡ b → (if b then Some first else ending_in c es) ≡ None → ⊥) [
      | true ↦ λ _ some. absurd cc
      | false ↦ λ apart rest. other apart (λ m. none_after c es rest m ending) k at
    ] refl none
  where
    other : (d == c) ≡ false → ((m : ℕ) → ¬ IsAt es m (Ends c ending)) → (k : ℕ) → IsAt (Ends d first ∷ es) k (Ends c ending) → ⊥
    other apart later zero here = let same = same_Some _ _ here in let client : d ≡ c = cc in eqb-false d c apart client
    other apart later (suc k) there = later k there

none_from : (c : ℕ) (es : List Event) → ((k : ℕ) (ending : Ending) → ¬ IsAt es k (Ends c ending)) → ending_in c es ≡ None
none_from c es none =
    elim (ending_in c es) as (λ o. ending_in c es ≡ o → o ≡ None) [
      | None ↦ λ _. refl
      | Some ending ↦ λ some. let r = ending_in-from c es ending some in absurd (none r.0 ending r.1.ends)
    ] refl

-- a call of the run that has no ending is pending
pub open-from : (es : List Event) (k : ℕ) (a : Call) → slice_get (run_calls es) k ≡ Some a → a.ending ≡ None
    → IsOpen es a.client a.call a.place (length es)
open-from es k a at is_open =
    let r = calls-from 0 es k a at in
    let place_is = r.1 in
    let place : r.0 ≡ a.place = omega arith in
    subst (λ (i : ℕ). IsOpen es a.client a.call i (length es)) place (record {
      begun = r.2.begun;
      earlier = slice_get_within es r.0 (Begins a.client a.call) r.2.begun;
      unended = λ k ending above below end.
          let same : suc r.0 + (k - suc r.0) ≡ k = omega arith in
          none_after a.client (drop (suc r.0) es) (sym r.2.ended ∙ is_open) (k - suc r.0) ending
          (slice_get-drop (suc r.0) es (k - suc r.0) ∙ ap (slice_get es) same ∙ end);
    })

-- the call of the run that a pending call is
pub record IsOpenCall (es : List Event) (c : ℕ) (call : ClientCall) (k : ℕ) (a : Call) : Type 0 where
  pub at : slice_get (run_calls es) k ≡ Some a
  pub client : a.client ≡ c
  pub called : a.call ≡ call
  pub open_still : a.ending ≡ None

pub open-to : (es : List Event) (c : ℕ) (call : ClientCall) (i : ℕ) → IsOpen es c call i (length es) → (k : ℕ) × (a : Call) × IsOpenCall es c call k a
open-to es c call i is_open =
    let r = calls-to 0 es i c call is_open.begun in (
      r.0,
      call_at 0 i es c call,
      record {
        at = r.1;
        client = refl;
        called = refl;
        open_still = none_from c (drop (suc i) es) (λ k ending at.
            let end : IsAt es (suc i + k) (Ends c ending) = sym (slice_get-drop (suc i) es k) ∙ at in
            is_open.unended (suc i + k) ending (omega arith) (slice_get_within es (suc i + k) (Ends c ending) end) end);
      },
    )

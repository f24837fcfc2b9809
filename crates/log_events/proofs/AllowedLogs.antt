-- What holds of the calls of a log: a client has at most one call pending, an ending fits its call, and each key starts once at most.
use Rattle.std.proofs.Common.{◌≡◌, ℕ, suc, ◌+◌, ◌-◌, ◌<◌, ◌≤◌, List, drop, refl, ap, sym, subst, ◌∙◌, ⊎_elim, arith}
use Rattle.std.specs.Prelude.{Option, Some, None, slice_get}
use Rattle.std.proofs.lemmas.Bool.{cases_lt}
use Rattle.log_events.specs.declared.event.ClientCall.{ClientCall}
use Rattle.log_events.specs.declared.event.Ending.{Ending}
use Rattle.log_events.specs.declared.event.Event.{Event}
use Rattle.log_events.specs.declared.event.Event.TheVariants.{Starts, Begins, Ends}
use Rattle.log_events.specs.Events.{Fits, IsAt, IsOpen, IsEnded, IsAllowed, ending_in}
use Rattle.log_events.proofs.CallPlaces.{ending_in-from}
use Rattle.log_events.proofs.CutCalls.{TakesTurns, unended}
use Rattle.log_events.proofs.ListPlaces.{slice_get-drop}

module _ (es : List Event) (allowed : IsAllowed es) where
  -- no client begins a call while one of its calls is pending
  begins-alone : (c : ℕ) (call other : ClientCall) (i k j : ℕ) → i < k → k < j → IsAt es k (Begins c other) → ¬ IsOpen es c call i j
  begins-alone c call other i k j below inside begins pending = allowed k (Begins c other) begins i call (record {
    begun = pending.begun;
    earlier = below;
    unended = λ m ending above under. pending.unended m ending above (omega arith);
  })

  -- so it has one pending call at most
  pub open-one : (c : ℕ) (call other : ClientCall) (i k j : ℕ) → IsOpen es c call i j → IsOpen es c other k j → i ≡ k
  open-one c call other i k j first second = ⊎_elim
      (λ (below : i < k). absurd (begins-alone c call other i k j below second.earlier second.begun first))
      (λ (up_to : k ≤ i). ⊎_elim
      (λ (below : k < i). absurd (begins-alone c other call k i j below first.earlier first.begun second))
      (λ (over : i ≤ k). omega arith)
      (cases_lt k i))
      (cases_lt i k)

  -- an ending fits its call
  pub ended-fits : (c : ℕ) (call : ClientCall) (i j : ℕ) (ending : Ending) → IsEnded es c call i j ending → Fits call ending
  ended-fits c call i j ending end =
      let (k, other, pending, fits) = allowed j (Ends c ending) end.ends in
      let same : k ≡ i = open-one c other call k i j pending end.was_open in
      let begun : IsAt es i (Begins c other) = subst (λ (m : ℕ). IsAt es m (Begins c other)) same pending.begun in
      let event : Begins c other ≡ Begins c call = cc in
      let one : other ≡ call = cc in
      subst (λ (d : ClientCall). Fits d ending) one fits

  pub first-start : (k x v : ℕ) → IsAt es k (Starts x v) → (m u : ℕ) → m < k → ¬ IsAt es m (Starts x u)
  first-start k x v at m u below there = let less = (allowed k (Starts x v) at).1 m x u below there in omega arith

  -- a client begins no call before its last one ended
  pub allowed-turns : (c : ℕ) → TakesTurns c es
  allowed-turns c i k call other below first second =
      elim (ending_in c (drop (suc i) es)) as (λ (o : Option Ending). ending_in c (drop (suc i) es) ≡ o
      → (j : ℕ) × (ending : Ending) × (i < j) × (j < k) × IsAt es j (Ends c ending)) [
        | None ↦ λ none. absurd (allowed k (Begins c other) second i call (record {
          begun = first;
          earlier = below;
          unended = λ m ending above under at.
              let same : suc i + (m - suc i) ≡ m = omega arith in
              unended c (drop (suc i) es) none (m - suc i) ending (slice_get-drop (suc i) es (m - suc i) ∙ ap (slice_get es) same ∙ at);
        }))
        | Some ending ↦ λ some. let end = ending_in-from c (drop (suc i) es) ending some in
            ⊎_elim
            (λ (under : suc i + end.0 < k). (suc i + end.0, ending, omega arith, under, sym (slice_get-drop (suc i) es end.0) ∙ end.1.ends))
            (λ (over : k ≤ suc i + end.0). absurd (allowed k (Begins c other) second i call (record {
              begun = first;
              earlier = below;
              unended = λ m another above under at.
                  let same : suc i + (m - suc i) ≡ m = omega arith in
                  end.1.none_before (m - suc i) another (omega arith) (slice_get-drop (suc i) es (m - suc i) ∙ ap (slice_get es) same ∙ at);
            })))
            (cases_lt (suc i + end.0) k)
      ] refl

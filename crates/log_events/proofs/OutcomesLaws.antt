-- What decides which operations calls represent.
use Rattle.std.proofs.Common.{◌≡◌, ℕ, Bool, true, false, List, length, refl, ap, sym, subst, ◌∙◌}
use Rattle.std.specs.Prelude.{◌↔◌, if◌then◌else◌, All, Contains, IsTrue, Option, Some, filter, unwrap_or}
use Rattle.std.specs.List.Sorted.{IsStrictlyIncreasing}
use Rattle.std.proofs.lemmas.List.Elements.{All-contains}
use Rattle.model_objects.specs.Table.{value_at}
use Rattle.log_events.specs.declared.event.ClientCall.TheVariants.{WriteTo}
use Rattle.log_events.specs.declared.event.Ending.TheVariants.{Lost}
use Rattle.log_events.specs.declared.event.Event.{Event}
use Rattle.log_events.specs.Events.{Call, run_calls}
use Rattle.log_events.specs.Histories.{is_deleted}
use Rattle.log_events.proofs.ListPlaces.{filter_map-to}
use Rattle.log_events.specs.Kept.{IsSmallCall}
use Rattle.log_events.specs.LeftOut.{AreLeftOut, finds_nothing}
use Rattle.log_events.specs.Steps.CallKinds.{lost_pair, lost_pairs, got_pairs, deleted_keys, missed_keys}
use Rattle.log_events.specs.Steps.Outcomes.{AreOutcomes, AreSorted}
use Rattle.log_events.specs.Steps.Tallies.{IsTally}
use Rattle.log_events.proofs.CallKindsLaws.{Contains-place, place-Contains, got_pairs-any, deleted_keys-any, count-missed}

-- tests that agree are equal
pub same_tests : (a b : Bool) → IsTrue a ↔ IsTrue b → a ≡ b
same_tests true true same = refl
same_tests true false same = sym (same.0 refl)
same_tests false true same = same.1 refl
same_tests false false same = refl

pub outcomes-made : (es : List Event) (calls : List Call) (returned : List (ℕ × ℕ)) (deleted : List ℕ) → calls ≡ run_calls es → All IsSmallCall calls
    → AreSorted returned
    → ((x v : ℕ) → Contains (lost_pairs calls) (x, v) → Contains returned (x, v) ↔ Contains (got_pairs calls) (x, v))
    → IsStrictlyIncreasing deleted → ((x : ℕ) → Contains deleted x ↔ Contains (deleted_keys calls) x) → AreOutcomes es returned deleted
outcomes-made es calls returned deleted same small sorted got rising gone = record {
  sorted = sorted;
  returned_are = λ x v lost.
      let here = got x v (subst (λ (l : List Call). Contains (lost_pairs l) (x, v)) (sym same) lost) in
      let any = got_pairs-any (run_calls es) x v in (
        λ h. any.0 (subst (λ (l : List Call). Contains (got_pairs l) (x, v)) same (here.0 h)),
        λ h. here.1 (subst (λ (l : List Call). Contains (got_pairs l) (x, v)) (sym same) (any.1 h)),
      );
  rising = rising;
  deleted_are = λ x.
      let here = gone x in
      let any = deleted_keys-any (run_calls es) x in (
        λ h. any.0 (subst (λ (l : List Call). Contains (deleted_keys l) x) same (here.0 h)),
        λ h. here.1 (subst (λ (l : List Call). Contains (deleted_keys l) x) (sym same) (any.1 h)),
      );
  small = subst (All IsSmallCall) same small;
}

-- a call of the log is within the limits
pub call-small : (es fs : List Event) (a : Call) → es ≡ fs → All IsSmallCall (run_calls es) → Contains (run_calls fs) a → IsSmallCall a
call-small es fs a same small inside = All-contains IsSmallCall (run_calls fs) a (subst (λ (l : List Event). All IsSmallCall (run_calls l)) same small) inside

-- a lost write of the log is among them
pub lost-listed : (calls : List Call) (a : Call) (x v : ℕ) → Contains calls a → a.call ≡ WriteTo x v → a.ending ≡ Some Lost → Contains (lost_pairs calls) (x, v)
lost-listed calls a x v inside called ends =
    let p = Contains-place calls a inside in
    let is : lost_pair a.call a.ending ≡ Some (x, v) = λ i. lost_pair (called i) (ends i) in
    let r = filter_map-to (λ (b : Call). lost_pair b.call b.ending) calls p.0 a (x, v) p.1 is in
    place-Contains (lost_pairs calls) r.0 (x, v) r.1

-- the reads that are left out
pub left_out-from : (es fs : List Event) (calls : List Call) (returned : List (ℕ × ℕ)) (deleted : List ℕ) (tally : List (ℕ × ℕ)) → es ≡ fs
    → AreOutcomes es returned deleted → calls ≡ run_calls fs → IsTally (missed_keys calls) deleted tally → AreLeftOut fs tally
left_out-from es fs calls returned deleted tally same outcomes calls_are is_tally = record {
  rising = is_tally.rising;
  positive = is_tally.positive;
  exact = λ x.
      let gone = subst (λ (l : List Event). Contains deleted x ↔ IsTrue (is_deleted l x)) same (outcomes.deleted_are x) in
      elim (is_deleted fs x) as (λ b. is_deleted fs x ≡ b → unwrap_or (value_at tally x) 0
      ≡ (if b then length (filter (λ (a : Call). finds_nothing x a.call a.ending) (run_calls fs)) else 0)) [
        | true ↦ λ yes. is_tally.listed x (gone.1 yes) ∙ count-missed x calls
            ∙ ap (λ (l : List Call). length (filter (λ (a : Call). finds_nothing x a.call a.ending) l)) calls_are
        | false ↦ λ no. ap (λ (o : Option ℕ). unwrap_or o 0) (is_tally.other x (λ inside. let yes = gone.0 inside in let wrong = sym yes ∙ no in absurd cc))
      ] refl;
}

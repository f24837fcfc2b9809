-- The deletes of a log that did not fail, as a list by key.
use Rattle.std.proofs.Common.{◌≡◌, ℕ, zero, suc, ◌+◌, ◌-◌, ◌<◌, ◌≤◌, true, false, [], ◌∷◌, length, get_or, take, drop, map, refl, ap, sym, subst, ◌∙◌, ⊎_elim, arith, length-drop}
use Rattle.std.specs.Prelude.{◌≢◌, Contains, List, Option, Some, option_map, filter_map, slice_get, IsPermutation, IsSortedByKey}
use Rattle.std.specs.List.Sorted.{IsPartitionPoint}
use Rattle.std.specs.Ordering.{nat_cmp}
use Rattle.std.proofs.lemmas.Bool.{cases_lt, ltb-true, ltb-false, leb-true, leb-false}
use Rattle.std.proofs.lemmas.List.{get_or-take, get_or-drop, length-take}
use Rattle.std.proofs.lemmas.List.Elements.{Contains-get_or}
use Rattle.std.proofs.lemmas.List.Sorted.{Contains-permutation, IsPermutation-sym}
use Rattle.std.proofs.lemmas.Option.{same_Some}
use Rattle.log_events.specs.declared.event.ClientCall.{ClientCall}
use Rattle.log_events.specs.declared.event.ClientCall.TheVariants.{WriteTo, ReadOf, DeleteOf}
use Rattle.log_events.specs.declared.event.Ending.{Ending}
use Rattle.log_events.specs.declared.event.Ending.TheVariants.{Failed}
use Rattle.log_events.specs.declared.event.Event.{Event}
use Rattle.log_events.specs.declared.event.Event.TheVariants.{Begins}
use Rattle.log_events.specs.Events.{Call, IsEnded, run_calls}
use Rattle.log_events.specs.Steps.CallKinds.{deleted_key}
use Rattle.log_events.proofs.CallKindsLaws.{Contains-place, place-Contains}
use Rattle.log_events.proofs.CallPlaces.{call_at, calls-to, ended-from}
use Rattle.log_events.proofs.ListPlaces.{filter_map-from, filter_map-to}
use Rattle.log_choices.specs.Choices.{BeginsKeptDelete}
use Rattle.log_choices.specs.ForcedSteps.{AreDeletes, deleted_spot, spot_of}
use Rattle.log_choices.specs.declared.forced_kept.Delete.{Delete}
use Rattle.log_choices.proofs.ForcedCalls.{call-placed, call-unended}
use lib.Dec.{ltb, leb}

-- the part of a list by key that has one key
module _ (xs : List Delete) (x from to : ℕ)
    (low : IsPartitionPoint (λ (d : Delete). ltb d.key x ≡ true) (λ (d : Delete). ltb d.key x ≡ false) xs from)
    (high : IsPartitionPoint (λ (d : Delete). leb d.key x ≡ true) (λ (d : Delete). leb d.key x ≡ false) xs to)
    (inside : to ≤ length xs) where
  pub within-from : from ≤ to → (d : Delete) → Contains (take (to - from) (drop from xs)) d → Contains xs d × (d.key ≡ x)
  within-from ordered d (i, below, is) =
      let short : i < to - from = omega (arith, length-take (to - from) (drop from xs)) in
      let at : get_or xs (from + i) d ≡ d = sym (get_or-drop from xs i d) ∙ sym (get_or-take (to - from) (drop from xs) i d short) ∙ is in
      let k : ℕ = (get_or xs (from + i) d).key in
      let above : x ≤ k = ltb-false k x (low.1 (from + i) d (omega arith) (omega arith)) in
      let under : k ≤ x = leb-true k x (high.0 (from + i) d (omega arith) (omega arith)) in
      let key : k ≡ x = omega arith in ((from + i, omega arith, at), subst (λ (e : Delete). e.key ≡ x) at key)

  not-below : (d : Delete) (k : ℕ) → (get_or xs k d).key ≡ x → from ≤ k
  not-below d k key = ⊎_elim
      {C = from ≤ k}
      (λ (under : k < from). let less = ltb-true (get_or xs k d).key x (low.0 k d (omega arith) under) in absurd (omega arith))
      (λ (above : from ≤ k). above)
      (cases_lt k from)

  not-above : (d : Delete) (k : ℕ) → k < length xs → (get_or xs k d).key ≡ x → k < to
  not-above d k within key = ⊎_elim
      {C = k < to}
      (λ (under : k < to). under)
      (λ (above : to ≤ k). let more = leb-false (get_or xs k d).key x (high.1 k d above within) in absurd (omega arith))
      (cases_lt k to)

  pub within-to : (d : Delete) → Contains xs d × (d.key ≡ x) → (from ≤ to) × Contains (take (to - from) (drop from xs)) d
  within-to d ((k, below, is), key) =
      let here : (get_or xs k d).key ≡ x = subst (λ (e : Delete). e.key ≡ x) (sym is) key in
      let first : from ≤ k = not-below d k here in
      let last : k < to = not-above d k below here in
      let short : k - from < to - from = omega arith in
      let same : from + (k - from) ≡ k = omega arith in
      let within : k - from < length (take (to - from) (drop from xs)) =
      omega (arith, length-take (to - from) (drop from xs), length-drop from xs) in (
        omega arith,
        (
          k - from,
          within,
          get_or-take (to - from) (drop from xs) (k - from) d short ∙ get_or-drop from xs (k - from) d
              ∙ ap (λ (n : ℕ). get_or xs n d) same ∙ is,
        ),
      )

-- the elements of a list that a function gives
map-at : {X Y : Type 0} (f : X → Y) (xs : List X) (k : ℕ) (x : X) → slice_get xs k ≡ Some x → slice_get (map f xs) k ≡ Some (f x)
map-at f [] k x at = absurd cc
map-at f (y ∷ ys) zero x at = ap (λ z. Some (f z)) (same_Some _ _ at)
map-at f (y ∷ ys) (suc k) x at = map-at f ys k x at

map-from : {X Y : Type 0} (f : X → Y) (xs : List X) (k : ℕ) (y : Y) → slice_get (map f xs) k ≡ Some y → (x : X) × (slice_get xs k ≡ Some x) × (f x ≡ y)
map-from f [] k y at = absurd cc
map-from f (x ∷ xs) zero y at = (x, refl, same_Some _ _ at)
map-from f (x ∷ xs) (suc k) y at = map-from f xs k y at

spot-is : (call : ClientCall) (ending : Option Ending) (place : ℕ) (s : ℕ × ℕ)
    → option_map (λ (x : ℕ). (x, place)) (deleted_key call ending) ≡ Some s
    → (call ≡ DeleteOf s.0) × (ending ≢ Some Failed) × (place ≡ s.1)
spot-is (WriteTo x v) ending place s is = absurd cc
spot-is (ReadOf x) ending place s is = absurd cc
spot-is (DeleteOf x) (Some Failed) place s is = absurd cc
spot-is (DeleteOf x) ending place s is =
    let same = same_Some _ _ is in
    (ap (λ (t : ℕ × ℕ). DeleteOf t.0) same, λ failed. absurd cc, ap (λ (t : ℕ × ℕ). t.1) same)

delete-key : (call : ClientCall) (ending : Option Ending) (x : ℕ) → call ≡ DeleteOf x → ending ≢ Some Failed
    → deleted_key call ending ≡ Some x
delete-key (WriteTo y u) ending x is stays = absurd cc
delete-key (ReadOf y) ending x is stays = absurd cc
delete-key (DeleteOf y) (Some Failed) x is stays = absurd (stays refl)
delete-key (DeleteOf y) ending x is stays = let same : y ≡ x = cc in ap Some same

module _ (es : List Event) (listed : List Delete) (is : map spot_of listed ≡ filter_map deleted_spot (run_calls es)) where
  kept-from : (d : Delete) → Contains listed d → BeginsKeptDelete es d.key d.place
  kept-from d there =
      let (k, at) = Contains-place listed d there in
      let given = subst (λ (l : List (ℕ × ℕ)). slice_get l k ≡ Some (spot_of d)) is (map-at spot_of listed k d at) in
      let (m, a, called, spot, _) = filter_map-from deleted_spot (run_calls es) k (spot_of d) given in
      let (call, stays, place) = spot-is a.call a.ending a.place (spot_of d) spot in
      let run = place-Contains (run_calls es) m a called in
      subst (λ (n : ℕ). BeginsKeptDelete es d.key n) place (
        a.client,
        ap (slice_get es) refl ∙ (call-placed es a run).begun ∙ (λ i. Some (Begins a.client (call i))),
        λ k end.
            call-unended es a run Failed stays k (subst (λ (c : ClientCall). IsEnded es a.client c a.place k Failed) (sym call) end),
      )

  kept-to : (x p : ℕ) → BeginsKeptDelete es x p → (d : Delete) × Contains listed d × (d.key ≡ x) × (d.place ≡ p)
  kept-to x p (client, at, stays) =
      let a : Call = call_at 0 p es client (DeleteOf x) in
      let (m, called) = calls-to 0 es p client (DeleteOf x) at in
      let not_failed : a.ending ≢ Some Failed = λ failed. let end = ended-from es p a Failed (record { begun = at; ended = refl }) failed in stays end.0 end.1 in
      let spot : deleted_spot a ≡ Some (x, a.place) = ap (option_map (λ (y : ℕ). (y, a.place))) (delete-key a.call a.ending x refl not_failed) in
      let (k, given) = filter_map-to deleted_spot (run_calls es) m a (x, a.place) called spot in
      let (d, there, same) = map-from spot_of listed k (x, a.place) (subst (λ (l : List (ℕ × ℕ)). slice_get l k ≡ Some (x, a.place)) (sym is) given) in
      let place : d.place ≡ 0 + p = ap (λ (t : ℕ × ℕ). t.1) same in
      (d, place-Contains listed k d there, ap (λ (t : ℕ × ℕ). t.0) same, omega arith)

  pub deletes-are : (by_key : List Delete) → IsPermutation listed by_key → IsSortedByKey (λ (d : Delete). d.key) nat_cmp by_key → AreDeletes es by_key
  deletes-are by_key moved sorted = record {
    listed = λ k e below. kept-from (get_or by_key k e)
        (Contains-permutation by_key listed (get_or by_key k e) (IsPermutation-sym listed by_key moved) (Contains-get_or by_key k e below));
    lists = λ x p begins. let (d, there, key, place) = kept-to x p begins in (d, Contains-permutation listed by_key d moved there, key, place);
    sorted = sorted;
  }

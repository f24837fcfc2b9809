-- Which keys have a start, by the start of the history of a log.
use Rattle.std.proofs.Common.{◌≡◌, ℕ, zero, suc, ◌*◌, true, false, cond, Bool, [], ◌∷◌, refl, ap, sym, subst, inl, inr, arith, eqb-true, eq-eqb}
use Rattle.std.specs.Prelude.{◌==◌, ◌↔◌, ◌⊎◌, IsTrue, List, Option, Some, None, filter_map, slice_get, Contains}
use Rattle.std.specs.Option.{is_some}
use Rattle.std.proofs.lemmas.Map.Views.{Contains-from_lookup}
use Rattle.std.proofs.lemmas.Option.{same_Some}
use Rattle.model_objects.specs.Table.{value_at}
use Rattle.log_events.specs.declared.event.Event.{Event}
use Rattle.log_events.specs.declared.event.Event.TheVariants.{Starts}
use Rattle.log_events.specs.Events.{IsAt}
use Rattle.log_events.specs.Histories.{key, value, start_entry}
use Rattle.log_events.proofs.CallKindsLaws.{Contains-place}
use Rattle.log_events.proofs.ListPlaces.{filter_map-to}
use Rattle.log_events.proofs.StartValues.{start-from}

-- an entry is found at its key
some-at : (entries : List (ℕ × ℕ)) (x v k : ℕ) → slice_get entries k ≡ Some (x, v) → is_some (value_at entries x) ≡ true
some-at [] x v k at = absurd cc
some-at (e ∷ entries) x v zero at =
    let same : e.0 ≡ x = ap (λ (t : ℕ × ℕ). t.0) (same_Some _ _ at) in
    ap (λ (b : Bool). is_some (cond b (Some e.1) (value_at entries x))) (eq-eqb e.0 x same)
some-at (e ∷ entries) x v (suc k) at =
    elim (e.0 == x) as (λ b. is_some (cond b (Some e.1) (value_at entries x)) ≡ true) [
      | true ↦ refl
      | false ↦ some-at entries x v k at
    ]

module _ (es : List Event) (x : ℕ) where
  pub started-to : (k v : ℕ) → IsAt es k (Starts x v) → is_some (value_at (filter_map start_entry es) (key x)) ≡ true
  started-to k v at =
      let (m, given) = filter_map-to start_entry es k (Starts x v) (key x, value v) at refl in
      some-at (filter_map start_entry es) (key x) (value v) m given

  pub started-from : is_some (value_at (filter_map start_entry es) (key x)) ≡ true → (k : ℕ) × (v : ℕ) × IsAt es k (Starts x v)
  started-from some = by_value (value_at (filter_map start_entry es) (key x)) refl some
    where
      by_value : (o : Option ℕ) → value_at (filter_map start_entry es) (key x) ≡ o → is_some o ≡ true → (k : ℕ) × (v : ℕ) × IsAt es k (Starts x v)
      by_value None found is = absurd cc
      by_value (Some u) found is =
          let there : Contains (filter_map start_entry es) (key x, u) =
          Contains-from_lookup {eq = λ (a b : ℕ). b == a} (λ a b h. sym (eqb-true b a h)) (key x) u (filter_map start_entry es) found in
          let (k, at) = Contains-place (filter_map start_entry es) (key x, u) there in
          let (m, y, v, begun, held) = start-from es k (key x, u) at in
          let double : 2 * x ≡ 2 * y = ap (λ (t : ℕ × ℕ). t.0) held in
          let same : y ≡ x = omega arith in (m, v, subst (λ (n : ℕ). IsAt es m (Starts n v)) same begun)

  -- what a look at the starts says
  pub started-some : (starts : List (ℕ × ℕ)) (u : ℕ) → starts ≡ filter_map start_entry es → Some u ≡ value_at starts (key x)
      → IsTrue true ↔ ((k : ℕ) × (v : ℕ) × IsAt es k (Starts x v))
  started-some starts u is found =
      let some : is_some (value_at (filter_map start_entry es) (key x)) ≡ true =
      subst (λ (l : List (ℕ × ℕ)). is_some (value_at l (key x)) ≡ true) is (ap is_some (sym found)) in
      (λ _. started-from some, λ _. refl)

  pub started-none : (starts : List (ℕ × ℕ)) → starts ≡ filter_map start_entry es → None ≡ value_at starts (key x)
      → IsTrue false ↔ ((k : ℕ) × (v : ℕ) × IsAt es k (Starts x v))
  started-none starts is found =
      let none : is_some (value_at (filter_map start_entry es) (key x)) ≡ false =
      subst (λ (l : List (ℕ × ℕ)). is_some (value_at l (key x)) ≡ false) is (ap is_some (sym found)) in
      (λ no. absurd cc, λ (k, v, at). let some = started-to k v at in absurd cc)

  -- a key has a start, or none
  pub start-or-none : ((k : ℕ) × (v : ℕ) × IsAt es k (Starts x v)) ⊎ ((k v : ℕ) → ¬ IsAt es k (Starts x v))
  start-or-none = by_value (is_some (value_at (filter_map start_entry es) (key x))) refl
    where
      by_value : (b : Bool) → is_some (value_at (filter_map start_entry es) (key x)) ≡ b
          → ((k : ℕ) × (v : ℕ) × IsAt es k (Starts x v)) ⊎ ((k v : ℕ) → ¬ IsAt es k (Starts x v))
      by_value true some = inl (started-from some)
      by_value false none = inr (λ k v at. let some = started-to k v at in absurd cc)

-- The keys of null reads.
use Rattle.std.proofs.Common.{◌≡◌, ℕ, zero, suc, ◌<◌, true, false, List, [], ◌∷◌, length, refl, ap, ◌∙◌, arith, eq-eqb, eqb-true}
use Rattle.std.specs.Prelude.{◌↔◌, ◌==◌, cond, Contains, IsTrue, Some, None, filter, slice_get, unwrap_or}
use Rattle.std.specs.Map.{keys_of}
use Rattle.std.proofs.lemmas.Option.{same_Some, slice_get_within, get_or_from_slice_get}
use Rattle.model_objects.specs.Table.{value_at}
use Rattle.log_events.specs.declared.event.Event.{Event}
use Rattle.log_events.specs.Events.{Call, run_calls}
use Rattle.log_events.specs.Histories.{is_deleted}
use Rattle.log_events.specs.LeftOut.{AreLeftOut, finds_nothing, many_left_out}
use Rattle.log_events.specs.Steps.CallKinds.{missed_keys}
use Rattle.log_events.specs.Steps.Tallies.{count_in}
use Rattle.log_events.proofs.CallKindsLaws.{Contains-place, place-Contains, count-missed}

-- an entry that a table has at a key
entry-found : (table : List (ℕ × ℕ)) (x n : ℕ) → value_at table x ≡ Some n
    → (k : ℕ) × (slice_get table k ≡ Some (x, n)) × (slice_get (keys_of table) k ≡ Some x)
entry-found [] x n is = absurd cc
entry-found (e ∷ table) x n is =
    elim (e.0 == x) as (λ b. (e.0 == x) ≡ b → cond b (Some e.1) (value_at table x) ≡ Some n
    → (k : ℕ) × (slice_get (e ∷ table) k ≡ Some (x, n)) × (slice_get (e.0 ∷ keys_of table) k ≡ Some x)) [
      | true ↦ λ yes here. (0, λ i. Some (eqb-true e.0 x yes i, same_Some _ _ here i), ap Some (eqb-true e.0 x yes))
      | false ↦ λ _ there. let r = entry-found table x n there in (suc r.0, r.1, r.2)
    ] refl is

-- a key of which a table has no entry
no-key : (table : List (ℕ × ℕ)) (x k : ℕ) → value_at table x ≡ None → ¬ (slice_get (keys_of table) k ≡ Some x)
no-key [] x k none at = absurd cc
no-key (e ∷ table) x zero none at =
    let found = rw (eq-eqb e.0 x (same_Some _ _ at)) at none in absurd cc
no-key (e ∷ table) x (suc k) none at =
    elim (e.0 == x) as (λ b. cond b (Some e.1) (value_at table x) ≡ None → ⊥) [
      | true ↦ λ some. absurd cc
      | false ↦ λ rest. no-key table x k rest at
    ] none

-- what is in a list is counted
pub count-some : (xs : List ℕ) (k x : ℕ) → slice_get xs k ≡ Some x → 0 < count_in xs x
count-some [] k x at = absurd cc
count-some (y ∷ xs) zero x at = rw (eq-eqb y x (same_Some _ _ at)) (omega arith)
count-some (y ∷ xs) (suc k) x at =
    let rest = count-some xs k x at in
    elim (y == x) as (λ b. 0 < length (cond b (y ∷ filter (λ z. z == x) xs) (filter (λ z. z == x) xs))) [
      | true ↦ omega arith
      | false ↦ rest
    ]

module _ (es : List Event) (counts : List (ℕ × ℕ)) (left : AreLeftOut es counts) (x : ℕ) where
  listed-deleted : Contains (keys_of counts) x → is_deleted es x ≡ true
  listed-deleted inside =
      elim (is_deleted es x) as (λ b. is_deleted es x ≡ b → b ≡ true) [
        | true ↦ λ _. refl
        | false ↦ λ kept.
            let none : many_left_out es x ≡ 0 = rw kept refl in
            let all = left.exact x ∙ none in
            let p = Contains-place (keys_of counts) x inside in
            elim (value_at counts x) as (λ o. value_at counts x ≡ o → unwrap_or o 0 ≡ 0 → false ≡ true) [
              | None ↦ λ missing _. absurd (no-key counts x p.0 missing p.1)
              | Some n ↦ λ some zero_is.
                  let e = entry-found counts x n some in
                  let positive = left.positive e.0 (x, n) (slice_get_within counts e.0 (x, n) e.1) in
                  let read = ap (λ (entry : ℕ × ℕ). entry.1) (get_or_from_slice_get counts e.0 (x, n) (x, n) e.1) in
                  absurd (omega arith)
            ] refl all
      ] refl

  deleted-listed : Contains (missed_keys (run_calls es)) x → is_deleted es x ≡ true → Contains (keys_of counts) x
  deleted-listed missed gone =
      let p = Contains-place (missed_keys (run_calls es)) x missed in
      let some = count-some (missed_keys (run_calls es)) p.0 x p.1 in
      let many : many_left_out es x ≡ length (filter (λ (a : Call). finds_nothing x a.call a.ending) (run_calls es)) = rw gone refl in
      let counted = count-missed x (run_calls es) in
      let all = left.exact x in
      elim (value_at counts x) as (λ o. value_at counts x ≡ o → unwrap_or o 0 ≡ many_left_out es x → Contains (keys_of counts) x) [
        | None ↦ λ _ none. absurd (omega arith)
        | Some n ↦ λ found _. let e = entry-found counts x n found in place-Contains (keys_of counts) e.0 x e.2
      ] refl all

  -- of the keys of null reads those are listed that some delete names
  pub missed-deleted : Contains (missed_keys (run_calls es)) x → Contains (keys_of counts) x ↔ IsTrue (is_deleted es x)
  missed-deleted missed = (listed-deleted, deleted-listed missed)

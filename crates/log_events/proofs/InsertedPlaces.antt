-- Lists of operations of a history, and those of one that has an operation more.
use Rattle.std.proofs.Common.{◌≡◌, ℕ, zero, suc, ◌+◌, ◌<◌, Bool, true, false, cond, List, [], ◌∷◌, length, take, refl, ap, sym, subst, ◌∙◌, arith}
use Rattle.std.specs.Prelude.{if◌then◌else◌, Some, slice_get, filter, option_map}
use Rattle.std.proofs.lemmas.Option.{same_Some, slice_get-map}
use Rattle.model_history.specs.declared.op_id.OpId.{OpId}
use Rattle.order_causal.specs.Orders.{only, op, StandsAt}
use Rattle.cert_check.proofs.ConvergentLaws.{only-same}
use Rattle.cert_check.proofs.CutSteps.{filter_stands}
use Rattle.cert_check.proofs.Pasts.{only-itself}
use Rattle.cert_subhistories.proofs.Embeddings.{cut}
use Rattle.cert_subhistories.proofs.KeptLists.{mapped_from, passing_before, filter_place}
use Rattle.log_events.proofs.InsertedOperations.{new_place, old_place, is_other, is_other-inserted, is_other-apart, is_other-new_place, new_place-apart, old_place-new_place, new_place-old_place}

-- more elements pass up to a place after one that passes
pub passing_before-lt : {X : Type 0} (p : X → Bool) (xs : List X) (j k : ℕ) (x : X) → slice_get xs j ≡ Some x → p x ≡ true → j < k
    → passing_before p xs j < passing_before p xs k
passing_before-lt p [] j k x at holds below = absurd cc
passing_before-lt p (y ∷ xs) j zero x at holds below = absurd (omega arith)
passing_before-lt p (y ∷ xs) zero (suc k) x at holds below =
    let passes : p y ≡ true = ap p (same_Some _ _ at) ∙ holds in rw passes (omega arith)
passing_before-lt p (y ∷ xs) (suc j) (suc k) x at holds below =
    let rest = passing_before-lt p xs j k x at holds (omega arith) in
    elim (p y) as (λ t. length (cond t (y ∷ filter p (take j xs)) (filter p (take j xs))) < length (cond t (y ∷ filter p (take k xs)) (filter p (take k xs)))) [
      | true ↦ omega arith
      | false ↦ rest
    ]

module _ (s i : ℕ) where
  abbrev pub new_op : OpId
  new_op = op s i

  -- the list with s.i put in before the operation that was s.i
  abbrev pub with_inserted : List OpId → List OpId
  with_inserted [] = []
  with_inserted (b ∷ ops) = if only (op s i) b then new_op ∷ new_place s i b ∷ with_inserted ops else new_place s i b ∷ with_inserted ops

  pub cut-with_inserted : (ops : List OpId) → cut (is_other s i) (old_place s i) (with_inserted ops) ≡ ops
  cut-with_inserted [] = refl
  cut-with_inserted (b ∷ ops) =
      let rest = cut-with_inserted ops in
      elim (only (op s i) b) as (λ t. cut (is_other s i) (old_place s i) (if t then new_op ∷ new_place s i b ∷ with_inserted ops else new_place s i b ∷ with_inserted ops) ≡ b ∷ ops) [
        | true ↦ rw (is_other-inserted s i, is_other-new_place s i b) (λ j. old_place-new_place s i b j ∷ rest j)
        | false ↦ rw (is_other-new_place s i b) (λ j. old_place-new_place s i b j ∷ rest j)
      ]

  -- the new one comes just before that operation
  pub inserted-next : (ops : List OpId) (k : ℕ) → StandsAt (with_inserted ops) k new_op → ((j : ℕ) × StandsAt ops j (op s i)) × StandsAt (with_inserted ops) (k + 1) (new_place s i (op s i))
  inserted-next [] k at = absurd cc
  inserted-next (b ∷ ops) k at =
      elim (only (op s i) b) as (λ t. only (op s i) b ≡ t → StandsAt (if t then new_op ∷ new_place s i b ∷ with_inserted ops else new_place s i b ∷ with_inserted ops) k new_op
      → ((j : ℕ) × StandsAt (b ∷ ops) j (op s i))
      × StandsAt (if t then new_op ∷ new_place s i b ∷ with_inserted ops else new_place s i b ∷ with_inserted ops) (k + 1) (new_place s i (op s i))) [
        | true ↦ λ here. elim k as (λ n. StandsAt (new_op ∷ new_place s i b ∷ with_inserted ops) n new_op
            → ((j : ℕ) × StandsAt (b ∷ ops) j (op s i)) × StandsAt (new_op ∷ new_place s i b ∷ with_inserted ops) (n + 1) (new_place s i (op s i))) [
              | zero ↦ λ _. let same : b ≡ op s i = only-same (op s i) b here in
                  ((0, ap (λ (c : OpId). Some c) same), ap (λ (c : OpId). Some (new_place s i c)) same)
              | suc m ↦ λ there. elim m as (λ n. StandsAt (new_place s i b ∷ with_inserted ops) n new_op
                  → ((j : ℕ) × StandsAt (b ∷ ops) j (op s i)) × StandsAt (new_op ∷ new_place s i b ∷ with_inserted ops) (suc n + 1) (new_place s i (op s i))) [
                    | zero ↦ λ first. absurd (new_place-apart s i b (same_Some _ _ first))
                    | suc n ↦ λ later.
                        let r = inserted-next ops n later in
                        let next : suc (suc n) + 1 ≡ suc (suc (n + 1)) = omega arith in
                        ((suc r.0.0, r.0.1), ap (slice_get (new_op ∷ new_place s i b ∷ with_inserted ops)) next ∙ r.1)
                  ] there
            ]
        | false ↦ λ _. elim k as (λ n. StandsAt (new_place s i b ∷ with_inserted ops) n new_op
            → ((j : ℕ) × StandsAt (b ∷ ops) j (op s i)) × StandsAt (new_place s i b ∷ with_inserted ops) (n + 1) (new_place s i (op s i))) [
              | zero ↦ λ first. absurd (new_place-apart s i b (same_Some _ _ first))
              | suc n ↦ λ later.
                  let r = inserted-next ops n later in
                  let next : suc n + 1 ≡ suc (n + 1) = omega arith in
                  ((suc r.0.0, r.0.1), ap (slice_get (new_place s i b ∷ with_inserted ops)) next ∙ r.1)
            ]
      ] refl at

  pub inserted-found : (ops : List OpId) (j : ℕ) → StandsAt ops j (op s i) → (k : ℕ) × StandsAt (with_inserted ops) k new_op
  inserted-found [] j at = absurd cc
  inserted-found (b ∷ ops) zero at =
      let here : only (op s i) b ≡ true = subst (λ (c : OpId). only (op s i) c ≡ true) (sym (same_Some _ _ at)) (only-itself (op s i)) in
      (0, rw here refl)
  inserted-found (b ∷ ops) (suc j) at =
      let r = inserted-found ops j at in
      elim (only (op s i) b) as (λ t. (k : ℕ) × StandsAt (if t then new_op ∷ new_place s i b ∷ with_inserted ops else new_place s i b ∷ with_inserted ops) k new_op) [
        | true ↦ (suc (suc r.0), r.1)
        | false ↦ (suc r.0, r.1)
      ]

  -- what the cut of a list has
  pub cut-stands : (ops : List OpId) (k : ℕ) (a : OpId) → StandsAt ops k (new_place s i a) → StandsAt (cut (is_other s i) (old_place s i) ops) (passing_before (is_other s i) ops k) a
  cut-stands ops k a at =
      slice_get-map (old_place s i) (filter (is_other s i) ops) (passing_before (is_other s i) ops k)
      ∙ ap (option_map (old_place s i)) (filter_stands (is_other s i) ops k (new_place s i a) at (is_other-new_place s i a)) ∙ ap Some (old_place-new_place s i a)

  pub cut-place : (ops : List OpId) (j : ℕ) (a : OpId) → StandsAt (cut (is_other s i) (old_place s i) ops) j a → (k : ℕ) × StandsAt ops k (new_place s i a)
  cut-place ops j a at =
      let mapped = mapped_from (old_place s i) (slice_get (filter (is_other s i) ops) j) a (sym (slice_get-map (old_place s i) (filter (is_other s i) ops) j) ∙ at) in
      let r = filter_place (is_other s i) ops j mapped.0 mapped.1 in
      let place : mapped.0 ≡ new_place s i a = sym (new_place-old_place s i mapped.0 (is_other-apart s i mapped.0 r.2)) ∙ ap (new_place s i) mapped.2 in
      (r.0, r.1 ∙ ap Some place)

-- Vectors with another count at one place.
use Rattle.std.specs.Prelude.{◌≡◌, ◌≢◌, ◌⊎◌, ℕ, ◌<◌, List, [], length}
use Rattle.std.proofs.Common.{get_or, set, sym, ap, subst, ◌∙◌, inl, inr, ⊎_elim}
use Rattle.std.proofs.lemmas.Bool.{cases_eq}
use Rattle.std.proofs.lemmas.List.{get_or-set_same, get_or-set_other, length-set}
use Rattle.model_history.specs.declared.op_id.OpId.{OpId}
use Rattle.order_causal.proofs.OrdersLaws.{same_op}
use Rattle.order_causal.proofs.PushedLaws.{listed-length}
use Rattle.order_causal.specs.Vectors.{IsListed, Counts, count, list_of, with_item}

-- an operation is another one, or it isn't
pub cases-op : (p o : OpId) → (p ≡ o) ⊎ (p ≢ o)
cases-op p o = ⊎_elim
    (λ (sessions : p.session ≡ o.session). ⊎_elim
    (λ (indices : p.index ≡ o.index). inl (same_op p o sessions indices))
    (λ (apart : p.index ≢ o.index). inr (λ same. apart (ap (λ (q : OpId). q.index) same)))
    (cases_eq p.index o.index))
    (λ (apart : p.session ≢ o.session). inr (λ same. apart (ap (λ (q : OpId). q.session) same)))
    (cases_eq p.session o.session)

module _ (v : Counts) (o : OpId) (t x : ℕ) (listed : IsListed v o) where
  abbrev row : List (List ℕ)
  row = set (get_or v o.session []) o.index (set (list_of v o) t x)

  here : get_or (with_item v o t x) o.session [] ≡ row
  here = get_or-set_same v o.session row [] (listed-length v o.session o.index listed)

  pub item-operations : (s : ℕ) → length (get_or (with_item v o t x) s []) ≡ length (get_or v s [])
  item-operations s = ⊎_elim
      (λ (same : s ≡ o.session).
      let size : length (get_or (with_item v o t x) o.session []) ≡ length (get_or v o.session []) =
      ap (λ (xs : List (List ℕ)). length xs) here ∙ length-set (get_or v o.session []) o.index _ in
      subst (λ (n : ℕ). length (get_or (with_item v o t x) n []) ≡ length (get_or v n [])) (sym same) size)
      (λ (apart : s ≢ o.session). ap (λ (xs : List (List ℕ)). length xs) (get_or-set_other v o.session s row [] apart))
      (cases_eq s o.session)

  pub item-other : (p : OpId) → p ≢ o → list_of (with_item v o t x) p ≡ list_of v p
  item-other p apart = ⊎_elim
      (λ (same : p.session ≡ o.session).
      let indices : p.index ≢ o.index = λ equal. apart (same_op p o same equal) in
      ap (λ (s : ℕ). get_or (get_or (with_item v o t x) s []) p.index []) same
      ∙ ap (λ (xs : List (List ℕ)). get_or xs p.index []) here
      ∙ get_or-set_other (get_or v o.session []) o.index p.index (set (list_of v o) t x) [] indices
      ∙ ap (λ (s : ℕ). get_or (get_or v s []) p.index []) (sym same))
      (λ (other : p.session ≢ o.session). ap (λ (xs : List (List ℕ)). get_or xs p.index []) (get_or-set_other v o.session p.session row [] other))
      (cases_eq p.session o.session)

  pub item-same : list_of (with_item v o t x) o ≡ set (list_of v o) t x
  item-same = ap (λ (xs : List (List ℕ)). get_or xs o.index []) here ∙ get_or-set_same (get_or v o.session []) o.index (set (list_of v o) t x) [] listed

  pub item-size : (p : OpId) → length (list_of (with_item v o t x) p) ≡ length (list_of v p)
  item-size p = ⊎_elim
      (λ (same : p ≡ o). subst (λ (q : OpId). length (list_of (with_item v o t x) q) ≡ length (list_of v q)) (sym same)
      (ap (λ (xs : List ℕ). length xs) item-same ∙ length-set (list_of v o) t x))
      (λ (apart : p ≢ o). ap (λ (xs : List ℕ). length xs) (item-other p apart))
      (cases-op p o)

  -- each count is as it was, or it is the new one
  pub item-cases : (p : OpId) (s : ℕ) → (count (with_item v o t x) p s ≡ count v p s) ⊎ ((p ≡ o) × (s ≡ t))
  item-cases p s = ⊎_elim
      (λ (same : p ≡ o). ⊎_elim
      (λ (place : s ≡ t). inr (same, place))
      (λ (apart : s ≢ t).
      let as_before : count (with_item v o t x) o s ≡ count v o s = ap (λ (xs : List ℕ). get_or xs s 0) item-same ∙ get_or-set_other (list_of v o) t s x 0 apart in
      inl (subst (λ (q : OpId). count (with_item v o t x) q s ≡ count v q s) (sym same) as_before))
      (cases_eq s t))
      (λ (apart : p ≢ o). inl (ap (λ (xs : List ℕ). get_or xs s 0) (item-other p apart)))
      (cases-op p o)

  pub item-here : t < length (list_of v o) → count (with_item v o t x) o t ≡ x
  item-here inside = ap (λ (xs : List ℕ). get_or xs t 0) item-same ∙ get_or-set_same (list_of v o) t x 0 inside

-- Lists of the sessions that have operations, and what they show where none of their sessions can go on.
use Rattle.std.specs.Prelude.{◌≡◌, ◌≢◌, ◌⊎◌, ℕ, ◌+◌, ◌<◌, List, [], ◌∷◌, ◌++◌, Some, length, slice_get, slice_index_or}
use Rattle.std.proofs.Common.{zero, suc, arith, refl, sym, ap, subst, inl, inr, ⊎_elim}
use Rattle.std.proofs.lemmas.Bool.{cases_eq}
use Rattle.std.proofs.lemmas.Option.{same_Some, slice_get-get_or, slice_get_within, get_or_from_slice_get}
use Rattle.model_history.specs.History.{session}
use Rattle.order_causal.proofs.OrdersLaws.{session-of_history}
use Rattle.order_memory.specs.Memory.{MemoryHistory}
use Rattle.judge_memory.specs.Indexed.{Indexed}
use Rattle.judge_session_orders.specs.declared.backward.Backward.{Backward}
use Rattle.judge_session_orders.specs.Backward.{IsOpen}
use Rattle.judge_session_orders.specs.OnItsWay.{IsOnItsWay, ListsSessions, left_of}
use Rattle.judge_session_orders.proofs.FreeLaws.{last-op}

-- an item of a list with one more at its end is one of the list or the last
pub pushed-cases : (xs : List ℕ) (m i t : ℕ) → slice_get (xs ++ m ∷ []) i ≡ Some t → (slice_get xs i ≡ Some t) ⊎ (t ≡ m)
pushed-cases [] m zero t at = inr (sym (same_Some _ _ at))
pushed-cases [] m (suc i) t at = inl at
pushed-cases (x ∷ xs) m zero t at = inl at
pushed-cases (x ∷ xs) m (suc i) t at = pushed-cases xs m i t at

-- and each of these is one of its items
pub pushed-old : (xs : List ℕ) (m i t : ℕ) → slice_get xs i ≡ Some t → slice_get (xs ++ m ∷ []) i ≡ Some t
pushed-old [] m i t at = absurd cc
pushed-old (x ∷ xs) m zero t at = at
pushed-old (x ∷ xs) m (suc i) t at = pushed-old xs m i t at

pub pushed-last : (xs : List ℕ) (m : ℕ) → (i : ℕ) × (slice_get (xs ++ m ∷ []) i ≡ Some m)
pushed-last [] m = (0, refl)
pushed-last (x ∷ xs) m = let rest = pushed-last xs m in (suc rest.0, rest.1)

module _ (h : MemoryHistory) where
  pub list-first : ListsSessions h 0 []
  list-first = record { below = λ i t at. absurd cc; each = λ t below. absurd (omega arith) }

  pub list-push : (m : ℕ) (xs : List ℕ) → m < length h.1 → 0 < length (session h m) → ListsSessions h m xs
      → ListsSessions h (m + 1) (xs ++ m ∷ [])
  list-push m xs exists some lists = record {
    below = λ i t at. ⊎_elim
        (λ (old : slice_get xs i ≡ Some t). lists.below i t old)
        (λ (last : t ≡ m). subst (λ (s : ℕ). (s < length h.1) × (0 < length (session h s))) (sym last) (exists, some))
        (pushed-cases xs m i t at);
    each = λ t below has. ⊎_elim
        (λ (last : t ≡ m). subst (λ (s : ℕ). (i : ℕ) × (slice_get (xs ++ m ∷ []) i ≡ Some s)) (sym last) (pushed-last xs m))
        (λ (apart : t ≢ m). let old = lists.each t (omega arith) has in (old.0, pushed-old xs m old.0 t old.1))
        (cases_eq t m);
  }

  pub list-skip : (m : ℕ) (xs : List ℕ) → length (session h m) ≡ 0 → ListsSessions h m xs → ListsSessions h (m + 1) xs
  list-skip m xs none lists = record {
    below = lists.below;
    each = λ t below has. ⊎_elim
        (λ (last : t ≡ m). let size = ap (λ (s : ℕ). length (session h s)) last in absurd (omega arith))
        (λ (apart : t ≢ m). lists.each t (omega arith) has)
        (cases_eq t m);
  }

  module _ (xs : List ℕ) (lists : ListsSessions h (length h.1) xs) where
    pub listed-exists : (i : ℕ) → i < length xs → (slice_index_or xs i 0 < length h.1) × (0 < length (session h (slice_index_or xs i 0)))
    listed-exists i below = lists.below i (slice_index_or xs i 0) (slice_get-get_or xs i 0 below)

    -- a session that has operations has a place
    pub listed-place : (t : ℕ) → 0 < length (session h t) → (i : ℕ) × (i < length xs) × (slice_index_or xs i 0 ≡ t)
    listed-place t has =
        let place = lists.each t (session-of_history h (record { session = t; index = 0 }) has) has in
        (place.0, slice_get_within xs place.0 t place.1, get_or_from_slice_get xs place.0 t 0 place.1)

module _ (index : Indexed) (b : Backward) (now : IsOnItsWay index b) (xs : List ℕ)
    (lists : ListsSessions index.history (length index.history.1) xs) where
  abbrev left : ℕ → ℕ
  left = left_of index.history b

  pub open-place : (t : ℕ) → IsOpen left t → (i : ℕ) × (i < length xs) × (slice_index_or xs i 0 ≡ t)
  open-place t is_open =
      let is_op = last-op index b now t is_open in
      listed-place index.history xs lists t (omega arith)

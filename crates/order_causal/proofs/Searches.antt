-- What can be decided by going through numbers, or through the operations of a history.
use Rattle.std.specs.Prelude.{◌≡◌, ◌≢◌, ◌⊎◌, ℕ, ◌<◌, ◌≤◌, length}
use Rattle.std.proofs.Common.{zero, suc, arith, sym, ap, subst, inl, inr, ⊎_elim, eq-or-lt_of_le}
use Rattle.std.proofs.lemmas.Bool.{cases_eq, cases_lt}
use Rattle.model_history.specs.declared.op_id.OpId.{OpId}
use Rattle.model_history.specs.History.{HistoryValue, IsOp, session}
use Rattle.order_causal.specs.Orders.{op}
use Rattle.order_causal.proofs.OrdersLaws.{same_op, session-of_history}

-- it is so, or it is not
abbrev pub IsDecided : Type 0 → Type 0
IsDecided A = A ⊎ ¬ A

pub both-decided : (A B : Type 0) → IsDecided A → IsDecided B → IsDecided (A × B)
both-decided A B first second = ⊎_elim
    (λ (a : A). ⊎_elim
    (λ (b : B). inl (a, b))
    (λ (no : ¬ B). inr (λ both. no both.1))
    second)
    (λ (no : ¬ A). inr (λ both. no both.0))
    first

pub either-decided : (A B : Type 0) → IsDecided A → IsDecided B → IsDecided (A ⊎ B)
either-decided A B first second = ⊎_elim
    (λ (a : A). inl (inl a))
    (λ (no : ¬ A). ⊎_elim
    (λ (b : B). inl (inr b))
    (λ (neither : ¬ B). inr (λ either. ⊎_elim no neither either))
    second)
    first

pub below-decided : (m n : ℕ) → IsDecided (m < n)
below-decided m n = ⊎_elim
    (λ (below : m < n). inl below)
    (λ (above : n ≤ m). inr (λ below. omega arith))
    (cases_lt m n)

pub op-decided : (a b : OpId) → IsDecided (a ≡ b)
op-decided a b = ⊎_elim
    (λ (session : a.session ≡ b.session). ⊎_elim
    (λ (index : a.index ≡ b.index). inl (same_op a b session index))
    (λ (apart : a.index ≢ b.index). inr (λ same. apart (ap (λ (o : OpId). o.index) same)))
    (cases_eq a.index b.index))
    (λ (apart : a.session ≢ b.session). inr (λ same. apart (ap (λ (o : OpId). o.session) same)))
    (cases_eq a.session b.session)

module _ (P : ℕ → Type 0) (decide : (i : ℕ) → IsDecided (P i)) where
  -- the least number below n that has a property, or none has it
  pub least : (n : ℕ) → ((i : ℕ) × (i < n) × P i × ((j : ℕ) → j < i → ¬ P j)) ⊎ ((j : ℕ) → j < n → ¬ P j)
  least zero = inr (λ j below. absurd (omega arith))
  least (suc n) = ⊎_elim
      (λ (found : (i : ℕ) × (i < n) × P i × ((j : ℕ) → j < i → ¬ P j)). let below = found.1 in inl (found.0, omega arith, found.2, found.3))
      (λ (none : (j : ℕ) → j < n → ¬ P j). ⊎_elim
      (λ (last : P n). inl (n, omega arith, last, none))
      (λ (not_last : ¬ P n). inr (λ j below. ⊎_elim
      (λ (here : j ≡ n). subst (λ (i : ℕ). ¬ P i) (sym here) not_last)
      (λ (before : j < n). none j before)
      (let up_to : j ≤ n = omega arith in eq-or-lt_of_le up_to)))
      (decide n))
      (least n)

module _ {S C R : Type 0} (h : HistoryValue S C R) (P : OpId → Type 0) (decide : (o : OpId) → IsDecided (P o)) where
  -- some operation of the session s has a property
  abbrev IsFoundIn : ℕ → Type 0
  IsFoundIn s = (i : ℕ) × (i < length (session h s)) × P (op s i)

  found-decided : (s : ℕ) → IsDecided (IsFoundIn s)
  found-decided s = ⊎_elim
      (λ (found : (i : ℕ) × (i < length (session h s)) × P (op s i) × ((j : ℕ) → j < i → ¬ P (op s j))). inl (found.0, found.1, found.2))
      (λ (none : (j : ℕ) → j < length (session h s) → ¬ P (op s j)). inr (λ found. none found.0 found.1 found.2))
      (least (λ i. P (op s i)) (λ i. decide (op s i)) (length (session h s)))

  -- some operation of the history has it, or none has it
  pub some_operation : ((o : OpId) × IsOp h o × P o) ⊎ ((o : OpId) → IsOp h o → ¬ P o)
  some_operation = ⊎_elim
      (λ (found : (s : ℕ) × (s < length h.1) × IsFoundIn s × ((t : ℕ) → t < s → ¬ IsFoundIn t)).
      let first = found.2 in inl (op found.0 first.0, first.1, first.2))
      (λ (none : (s : ℕ) → s < length h.1 → ¬ IsFoundIn s).
      inr (λ o is_op holds. none o.session (session-of_history h o is_op) (o.index, is_op, holds)))
      (least IsFoundIn found-decided (length h.1))

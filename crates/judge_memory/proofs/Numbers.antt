-- What follows for the numbers of operations.
use Rattle.std.specs.Prelude.{◌≡◌, ◌↔◌, ◌⊎◌, ℕ, ◌+◌, ◌-◌, ◌<◌, ◌≤◌, List, length, Option}
use Rattle.std.specs.List.{sum_by}
use Rattle.std.proofs.Common.{zero, suc, arith, ap, sym, inl, inr, ◌∙◌, take_all, ⊎_elim, eq-or-lt_of_le}
use Rattle.std.proofs.lemmas.Bool.{cases_lt, cases_order}
use Rattle.model_history.specs.declared.op_id.OpId.{OpId}
use Rattle.model_history.specs.History.{HistoryValue, IsOp, Precedes, many_before, number, session}
use Rattle.order_causal.specs.Orders.{op}
use Rattle.order_causal.proofs.OrdersLaws.{same_op, session-of_history}
use Rattle.model_history.proofs.Counting.{many_next}

module _ {S C R : Type 0} (h : HistoryValue S C R) where
  many-more : (n : ℕ) → many_before h n ≤ many_before h (n + 1)
  many-more n = ⊎_elim
      (λ (below : n < length h.1). let more = many_next h n below in omega arith)
      (λ (past : length h.1 ≤ n).
      let all = ap (λ (xs : List (List (C × Option R))). sum_by (λ (es : List (C × Option R)). length es) xs) (take_all n h.1 past) in
      let more = ap (λ (xs : List (List (C × Option R))). sum_by (λ (es : List (C × Option R)). length es) xs) (take_all (n + 1) h.1 (omega arith)) in
      omega arith)
      (cases_lt n (length h.1))

  many-past : (n : ℕ) → length h.1 ≤ n → many_before h n ≡ many_before h (length h.1)
  many-past n past =
      ap (λ (xs : List (List (C × Option R))). sum_by (λ (es : List (C × Option R)). length es) xs)
      (take_all n h.1 past ∙ sym (take_all (length h.1) h.1 (omega arith)))

  -- more sessions have as many operations, or more
  pub many-rises : (m n : ℕ) → m ≤ n → many_before h m ≤ many_before h n
  many-rises m zero up_to = let same = ap (many_before h) (let e : m ≡ 0 = omega arith in e) in omega arith
  many-rises m (suc n) up_to = ⊎_elim
      (λ (same : m ≡ suc n). let one = ap (many_before h) same in omega arith)
      (λ (below : m < suc n).
      let before = many-rises m n (omega arith) in
      let more = many-more n in
      let next = ap (many_before h) (let e : n + 1 ≡ suc n = omega arith in e) in
      omega arith)
      (eq-or-lt_of_le up_to)

  -- the numbers of a session stand together
  pub number-below : (a : OpId) → IsOp h a → number h a < many_before h (a.session + 1)
  number-below a is_op = let more = many_next h a.session (session-of_history h a is_op) in omega arith

  pub number-before : (a b : OpId) → IsOp h a → a.session < b.session → number h a < number h b
  number-before a b is_op below =
      let inside = number-below a is_op in
      let rises = many-rises (a.session + 1) b.session (omega arith) in
      omega arith

  pub number-all : (a : OpId) → IsOp h a → number h a < many_before h (length h.1)
  number-all a is_op =
      let inside = number-below a is_op in
      let rises = many-rises (a.session + 1) (length h.1) (let below = session-of_history h a is_op in omega arith) in
      omega arith

  -- a number is that of one operation
  pub number-once : (a b : OpId) → IsOp h a → IsOp h b → number h a ≡ number h b → a ≡ b
  number-once a b is_a is_b same = ⊎_elim
      (λ (one : a.session ≡ b.session). let start = ap (many_before h) one in same_op a b one (omega arith))
      (λ (apart : (a.session < b.session) ⊎ (b.session < a.session)). ⊎_elim
      (λ (before : a.session < b.session). let less = number-before a b is_a before in absurd (omega arith))
      (λ (behind : b.session < a.session). let less = number-before b a is_b behind in absurd (omega arith))
      apart)
      (cases_order a.session b.session)

  number-under : (i n : ℕ) → n ≤ length h.1 → i < many_before h n → (a : OpId) × IsOp h a × (number h a ≡ i)
  number-under i zero few below = absurd (omega arith)
  number-under i (suc n) few below = ⊎_elim
      (λ (before : i < many_before h n). number-under i n (omega arith) before)
      (λ (behind : many_before h n ≤ i).
      let more = many_next h n (omega arith) in
      let next = ap (many_before h) (let e : n + 1 ≡ suc n = omega arith in e) in
      (op n (i - many_before h n), omega arith, omega arith))
      (cases_lt i (many_before h n))

  -- each number below that of all operations is that of an operation
  pub number-found : (i : ℕ) → i < many_before h (length h.1) → (a : OpId) × IsOp h a × (number h a ≡ i)
  number-found i below = number-under i (length h.1) (omega arith) below

  -- within a session numbers are in program order
  pub number-order : (a b : OpId) → a.session ≡ b.session → (number h a < number h b) ↔ (a.index < b.index)
  number-order a b same = let start = ap (many_before h) same in (λ below. omega arith, λ below. omega arith)

  -- an operation is of the session among whose numbers its own is
  pub number-session : (a : OpId) (t : ℕ) → IsOp h a → many_before h t ≤ number h a → number h a < many_before h (t + 1) → a.session ≡ t
  number-session a t is_op from below = ⊎_elim
      (λ (one : a.session ≡ t). one)
      (λ (apart : (a.session < t) ⊎ (t < a.session)). ⊎_elim
      (λ (before : a.session < t).
      let inside = number-below a is_op in
      let rises = many-rises (a.session + 1) t (omega arith) in absurd (omega arith))
      (λ (behind : t < a.session). let rises = many-rises (t + 1) a.session (omega arith) in absurd (omega arith))
      apart)
      (cases_order a.session t)

  -- within a session an operation whose number is not above another's is it or precedes it
  pub number-up_to : (a b : OpId) → a.session ≡ b.session → number h a ≤ number h b → (a ≡ b) ⊎ Precedes a b
  number-up_to a b same up_to =
      let start = ap (many_before h) same in
      ⊎_elim
      (λ (here : a.index ≡ b.index). inl (same_op a b same here))
      (λ (apart : (a.index < b.index) ⊎ (b.index < a.index)). ⊎_elim
      (λ (before : a.index < b.index). inr (same, before))
      (λ (behind : b.index < a.index). absurd (omega arith))
      apart)
      (cases_order a.index b.index)

  -- numbers of a session are numbers of operations
  pub number-bound : (t i : ℕ) → i < many_before h (t + 1) → i < many_before h (length h.1)
  number-bound t i below = ⊎_elim
      (λ (inside : t < length h.1). let rises = many-rises (t + 1) (length h.1) (omega arith) in omega arith)
      (λ (past : length h.1 ≤ t).
      let all = many-past (t + 1) (omega arith) in
      omega arith)
      (cases_lt t (length h.1))

  -- the operations of one session more, by the name that this crate's functions give it
  pub one_more : (n : ℕ) → n < length h.1 → many_before h (n + 1) ≡ many_before h n + length (session h n)
  one_more = many_next h

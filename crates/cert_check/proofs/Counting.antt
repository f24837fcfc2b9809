-- Vectors that count the pasts of a causal order.
use Rattle.std.proofs.Common.{◌≡◌, ℕ, zero, suc, ◌<◌, ◌≤◌, ◌↔◌, ⊎_elim, Bool, true, false, cond, List, [], length, map, refl, sym, ap, ◌∙◌, subst, arith}
use Rattle.std.specs.Prelude.{Option, IsTrue, slice_index_or}
use Rattle.std.specs.List.{range_with_len}
use Rattle.std.proofs.lemmas.Bool.{cases_eq, cases_lt, cases_Bool, or_cases, or_right}
use Rattle.std.proofs.lemmas.List.{get_or_past}
use Rattle.std.proofs.lemmas.List.FromFn.{length-map-range_with_len, get_or-map-range_with_len}
use Rattle.model_history.specs.declared.op_id.OpId.{OpId}
use Rattle.model_history.specs.History.{HistoryValue, IsOp, session}
use Rattle.order_causal.specs.Orders.{op, Order, only, past}
use Rattle.order_causal.proofs.EachOperation.{by_operation, by_operation-one_each, list_of-by_operation}
use Rattle.order_causal.specs.Vectors.{Counts, count, IsCounted, AreVectorsOf}
use Rattle.cert_check.specs.Criteria.{IsCausalOrder}
use Rattle.cert_check.proofs.ConvergentLaws.{only-same}

-- how far a test is passed below n, where it is passed before each number at which it is passed
reach : (ℕ → Bool) → ℕ → ℕ
reach p zero = zero
reach p (suc n) = cond (p n) (suc n) (reach p n)

passes-below_reach : (p : ℕ → Bool) (n i : ℕ) → i < n → IsTrue (p i) → i < reach p n
unfolding reach
passes-below_reach p zero i below passes = absurd (omega arith)
passes-below_reach p (suc n) i below passes = ⊎_elim
    (λ (yes_here : p n ≡ true). subst (λ (b : Bool). i < cond b (suc n) (reach p n)) (sym yes_here) below)
    (λ (no_here : p n ≡ false).
    let other : i ≡ n → ⊥ = λ (same : i ≡ n). let there = subst (λ (j : ℕ). p j ≡ true) same passes in absurd cc in
    subst (λ (b : Bool). i < cond b (suc n) (reach p n)) (sym no_here) (passes-below_reach p n i (omega arith) passes))
    (cases_Bool (p n))

below_reach-passes : (p : ℕ → Bool) → ((i j : ℕ) → i < j → IsTrue (p j) → IsTrue (p i)) → (n i : ℕ) → i < reach p n → IsTrue (p i)
unfolding reach
below_reach-passes p closed zero i below = absurd (omega arith)
below_reach-passes p closed (suc n) i below = ⊎_elim
    (λ (yes_here : p n ≡ true).
    let under : i < suc n = subst (λ (b : Bool). i < cond b (suc n) (reach p n)) yes_here below in
    ⊎_elim
    (λ (same : i ≡ n). subst (λ (j : ℕ). p j ≡ true) (sym same) yes_here)
    (λ (other : i ≡ n → ⊥). closed i n (omega arith) yes_here)
    (cases_eq i n))
    (λ (no_here : p n ≡ false). below_reach-passes p closed n i (subst (λ (b : Bool). i < cond b (suc n) (reach p n)) no_here below))
    (cases_Bool (p n))

module _ {S C R : Type 0} (h : HistoryValue S C R) (co : Order) (causal : IsCausalOrder h co) where
  -- for each session, how many of its operations are in the past of o
  past_counts : OpId → List ℕ
  past_counts o = map (λ s. reach (λ i. past co o (op s i)) (length (session h s))) (range_with_len 0 (length h.1))

  -- vectors that count the pasts
  pub past_vectors : Counts
  past_vectors = by_operation h past_counts

  pub past_vectors-shape : AreVectorsOf h past_vectors
  unfolding past_vectors past_counts
  past_vectors-shape = record {
    one_each = by_operation-one_each h past_counts;
    counts = λ o is_op. ap length (list_of-by_operation h past_counts o is_op)
        ∙ length-map-range_with_len (λ s. reach (λ i. past co o (op s i)) (length (session h s))) 0 (length h.1);
  }

  count_is : (o : OpId) (s : ℕ) → IsOp h o → count past_vectors o s ≡ reach (λ i. past co o (op s i)) (length (session h s))
  unfolding past_vectors past_counts reach
  count_is o s is_op =
      ap (λ (counts : List ℕ). slice_index_or counts s 0) (list_of-by_operation h past_counts o is_op)
      ∙ ⊎_elim
      (λ (below : s < length h.1). get_or-map-range_with_len (λ s. reach (λ i. past co o (op s i)) (length (session h s))) 0 (length h.1) s s 0 below (omega arith))
      (λ (past_end : length h.1 ≤ s).
      let long = length-map-range_with_len (λ s. reach (λ i. past co o (op s i)) (length (session h s))) 0 (length h.1) in
      get_or_past (past_counts o) s 0 (omega arith) ∙ ap (λ (es : List (C × Option R)). reach (λ i. past co o (op s i)) (length es)) (sym (get_or_past h.1 s [] past_end)))
      (cases_lt s (length h.1))

  pub past-of_history : (o a : OpId) → IsOp h o → IsTrue (past co o a) → IsOp h a
  past-of_history o a is_op inside = ⊎_elim
      (λ (alone : IsTrue (only o a)). let same = only-same o a alone in subst (λ (x : OpId). IsOp h x) (sym same) is_op)
      (λ (before : IsTrue (co a o)). (causal.of_history a o before).0)
      (or_cases (only o a) (co a o) inside)

  -- a past is closed under what is before
  pub past-closed : (o a b : OpId) → IsTrue (past co o b) → IsTrue (co a b) → IsTrue (past co o a)
  past-closed o a b inside before = or_right (only o a) (co a o)
      (⊎_elim
      (λ (alone : IsTrue (only o b)). let same = only-same o b alone in subst (λ (x : OpId). IsTrue (co a x)) same before)
      (λ (later : IsTrue (co b o)). causal.transitive a b o before later)
      (or_cases (only o b) (co b o) inside))

  -- the vectors count the pasts
  pub past_vectors-count : (o : OpId) → IsOp h o → (a : OpId) → IsCounted past_vectors o a ↔ IsTrue (past co o a)
  past_vectors-count o is_op a =
      let same = count_is o a.session is_op in (
        (λ (counts : IsCounted past_vectors o a).
            below_reach-passes (λ i. past co o (op a.session i))
            (λ i j below inside. past-closed o (op a.session i) (op a.session j) inside
            (causal.program_order (op a.session i) (op a.session j) (past-of_history o (op a.session j) is_op inside) (refl, below)))
            (length (session h a.session)) a.index (omega arith)),
        (λ (inside : IsTrue (past co o a)).
            let counts = passes-below_reach (λ i. past co o (op a.session i)) (length (session h a.session)) a.index (past-of_history o a is_op inside) inside in
            omega arith),
      )

-- Vectors that count the order that program order and sources make.
use Rattle.std.specs.Prelude.{◌≡◌, ◌≢◌, ℕ, ◌+◌, ◌<◌, ◌≤◌}
use Rattle.std.proofs.Common.{arith, sym, ap, subst, inl, inr, ⊎_elim, refl}
use Rattle.std.proofs.lemmas.Bool.{cases_lt}
use Rattle.model_history.specs.declared.op_id.OpId.{OpId}
use Rattle.model_history.specs.History.{IsOp}
use Rattle.order_memory.proofs.GrowingOrdersLaws.{SourceOrder-of_history, held-by_sources}
use Rattle.order_causal.proofs.PathsLaws.{leads-edge, leads-leads}
use Rattle.order_memory.specs.Memory.{MemoryHistory}
use Rattle.order_causal.specs.Orders.{op}
use Rattle.order_memory.specs.SourceOrder.{CountsSourceOrder, IsSourceEdge, SourceOrder}
use Rattle.order_causal.specs.Vectors.{Counts, count, IsCounted, IsWithin, IsVectorOk}

module _ (h : MemoryHistory) where
  -- an operation comes before those behind it in its session
  pub program-before : (s i j : ℕ) → i < j → IsOp h (op s j) → SourceOrder h (op s i) (op s j)
  program-before s i j below is_op = leads-edge (IsSourceEdge h) (op s i) (op s j) (inl ((refl, below), is_op))

module _ (h : MemoryHistory) (v : Counts) (order : CountsSourceOrder h v) where
  pub counts-itself : (o : OpId) → IsOp h o → IsCounted v o o
  counts-itself o is_op = (order.counted o o is_op).1 (inl refl)

  -- what comes before an operation is counted, and what is counted apart from it comes before it
  pub counts-before : (o a : OpId) → IsOp h o → SourceOrder h a o → IsCounted v o a
  counts-before o a is_op before = (order.counted o a is_op).1 (inr before)

  pub before-counted : (o a : OpId) → IsOp h o → IsCounted v o a → a ≢ o → SourceOrder h a o
  before-counted o a is_op counted apart = ⊎_elim
      (λ (same : a ≡ o). absurd (apart same))
      (λ (before : SourceOrder h a o). before)
      ((order.counted o a is_op).0 counted)

  -- what is counted is of the history
  pub counted-of_history : (o a : OpId) → IsOp h o → IsCounted v o a → IsOp h a
  counted-of_history o a is_op counted = let held = (held-by_sources h v order).held o a.session is_op in omega arith

  -- what is counted by what is counted is counted
  pub counted-counted : (o b a : OpId) → IsOp h o → IsCounted v o b → IsCounted v b a → IsCounted v o a
  counted-counted o b a is_op counts_b counts_a = ⊎_elim
      (λ (same : b ≡ o). subst (λ (x : OpId). IsCounted v x a) same counts_a)
      (λ (before_b : SourceOrder h b o). ⊎_elim
      (λ (same : a ≡ b). subst (λ (x : OpId). IsCounted v o x) (sym same) counts_b)
      (λ (before_a : SourceOrder h a b). counts-before o a is_op (leads-leads (IsSourceEdge h) a b o before_a before_b))
      ((order.counted b a (SourceOrder-of_history h b o before_b)).0 counts_a))
      ((order.counted o b is_op).0 counts_b)

  -- of two operations one counts the other
  pub counted-back : (a b : OpId) → IsOp h a → IsOp h b → IsCounted v b a → IsCounted v a b → a ≡ b
  counted-back a b is_op_a is_op_b counts back = ⊎_elim
      (λ (same : a ≡ b). same)
      (λ (before : SourceOrder h a b). ⊎_elim
      (λ (same : b ≡ a). sym same)
      (λ (after : SourceOrder h b a). absurd (order.acyclic a (leads-leads (IsSourceEdge h) a b a before after)))
      ((order.counted a b is_op_a).0 back))
      ((order.counted b a is_op_b).0 counts)

  -- an operation counts itself as the last of its session
  pub own-count : (o : OpId) → IsOp h o → count v o o.session ≡ o.index + 1
  own-count o is_op =
      let itself = counts-itself o is_op in
      ⊎_elim
      (λ (above : o.index + 1 < count v o o.session).
      let next : OpId = op o.session (o.index + 1) in
      let next_op = counted-of_history o next is_op above in
      let later = counts-before next o next_op (program-before h o.session o.index (o.index + 1) (omega arith) next_op) in
      let same = counted-back next o next_op is_op above later in
      let index : o.index + 1 ≡ o.index = ap (λ (x : OpId). x.index) same in
      omega arith)
      (λ (up_to : count v o o.session ≤ o.index + 1). omega arith)
      (cases_lt (o.index + 1) (count v o o.session))

  -- a vector is at least those of what it counts
  pub counted-within : (o a : OpId) → IsOp h o → IsCounted v o a → IsWithin v o a
  counted-within o a is_op counts = λ s. ⊎_elim
      (λ (above : count v o s < count v a s).
      let more : count v o s < count v o s = counted-counted o a (op s (count v o s)) is_op counts above in
      absurd (omega arith))
      (λ (up_to : count v a s ≤ count v o s). up_to)
      (cases_lt (count v o s) (count v a s))

  -- each vector is good
  pub order-vector_ok : (o : OpId) → IsOp h o → IsVectorOk h v o
  order-vector_ok o is_op = record {
    own = own-count o is_op;
    existing = λ s. (held-by_sources h v order).held o s is_op;
    predecessor = λ i e. counted-within o (op o.session i) is_op (let own = own-count o is_op in omega arith);
    others = λ s i last. counted-within o (op s i) is_op (let e = last.1 in omega arith);
    uncounted = λ s i last back.
        let counts : i < count v o s = let e = last.1 in omega arith in
        let same = counted-back (op s i) o (counted-of_history o (op s i) is_op counts) is_op counts back in
        last.0 (ap (λ (x : OpId). x.session) same);
  }

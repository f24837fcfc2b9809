-- Reads whose sources come with them, and those whose sources were known before.
use Rattle.std.specs.Prelude.{◌≡◌, ℕ, ◌-◌, ◌<◌, Option}
use Rattle.std.proofs.Common.{arith, inl, inr, ⊎_elim, subst, eq-or-lt_of_le}
use Rattle.model_history.specs.declared.op_id.OpId.{OpId}
use Rattle.model_history.specs.History.{IsOp, Precedes}
use Rattle.order_memory.specs.declared.known_reads.KnownRead.{KnownRead}
use Rattle.order_memory.specs.Memory.{MemoryHistory}
use Rattle.order_memory.specs.SourceOrder.{CountsSourceOrder, IsSource, IsSourceEdge, SourceOrder}
use Rattle.order_memory.specs.Steps.Indexed.{IsKnownRead, IsSourceIfAny}
use Rattle.order_memory.proofs.FirstWrites.{source-unique}
use Rattle.order_causal.specs.Orders.{op}
use Rattle.order_causal.specs.Vectors.{Counts}
use Rattle.order_causal.proofs.OrdersLaws.{same_op}
use Rattle.order_causal.proofs.PathsLaws.{leads-leads, leads-last, last-edge, IsFrom}
use Rattle.pattern_search.specs.Steps.Routes.{AreWritesBefore, IsCountedBefore}

module _ (h : MemoryHistory) (v : Counts) (counts : CountsSourceOrder h v) (k : KnownRead) (known : IsKnownRead h k) (a b : OpId)
    (writes : AreWritesBefore h k a b) where
  before-edge : (p : OpId) → IsFrom (IsSourceEdge h) b p → SourceOrder h a p
  before-edge p from = ⊎_elim
      (λ (same : b ≡ p). subst (λ (q : OpId). SourceOrder h a q) same writes.behind)
      (λ (leads : SourceOrder h b p). leads-leads (IsSourceEdge h) a b p writes.behind leads)
      from

  -- the operation before the read has the source in its past
  by-session : (p : OpId) → SourceOrder h a p → Precedes p k.op → IsOp h k.op → IsCountedBefore v k.op a
  by-session p before precedes is_op =
      let less = precedes.1 in
      let j : ℕ = k.op.index - 1 in
      let last : IsOp h (op k.op.session j) = omega arith in
      let here : SourceOrder h a (op k.op.session j) = ⊎_elim
      (λ (same : p.index ≡ j). subst (λ (q : OpId). SourceOrder h a q) (same_op p (op k.op.session j) precedes.0 same) before)
      (λ (below : p.index < j). leads-last (IsSourceEdge h) a p (op k.op.session j) before (inl ((precedes.0, below), last)))
      (eq-or-lt_of_le (omega arith)) in
      (j, omega arith, (counts.counted (op k.op.session j) a last).1 (inr here))

  source-itself : IsSource h a k.op
  source-itself = subst (λ (e : Option OpId). IsSourceIfAny h k.op e) writes.source known.source

  -- so where it has not, there are no such writes
  pub counted-before : IsCountedBefore v k.op a
  counted-before =
      let last = last-edge (IsSourceEdge h) b k.op writes.before in
      let before = before-edge last.0 last.1 in
      ⊎_elim
      (λ (edge : Precedes last.0 k.op × IsOp h k.op). by-session last.0 before edge.0 edge.1)
      (λ (source : IsSource h last.0 k.op).
      let same = source-unique h last.0 a k.op source source-itself in
      absurd (counts.acyclic a (subst (λ (q : OpId). SourceOrder h a q) same before)))
      last.2

-- Operations that wait for what they read from, and for what is in conflict with them: where they don't wait for one
-- another, the causal order and the conflicts have no cycle.
use Rattle.std.specs.Prelude.{◌≡◌, ◌⊎◌, ℕ}
use Rattle.std.proofs.Common.{arith, subst, inl, inr, ⊎_elim, refl}
use Rattle.model_history.specs.declared.op_id.OpId.{OpId}
use Rattle.model_history.specs.History.{IsOp, Precedes}
use Rattle.order_memory.specs.Memory.{MemoryHistory, IsDifferentiated, Reads}
use Rattle.order_memory.specs.Relations.{CF, CO}
use Rattle.order_causal.specs.Orders.{Leads}
use Rattle.order_memory.specs.SourceOrder.{IsSource, IsSourceEdge}
use Rattle.order_memory.specs.Steps.Conflicts.{IsDue}
use Rattle.order_causal.specs.Vectors.{Counts}
use Rattle.order_causal.specs.Waits.{AreAlike, AreWaits, AreWaitsFor, IsWaitEdge}
use Rattle.order_memory.proofs.FirstWrites.{CO-by_sources, distinct-source}
use Rattle.order_memory.proofs.MemoryLaws.{same_written, write-or_read}
use Rattle.order_causal.proofs.PathsLaws.{leads-edge, leads-leads, leads-within}
use Rattle.order_causal.proofs.WaitsLead.{first-leads}

module _ (h : MemoryHistory) (distinct : IsDifferentiated h)
    (waits : Counts) (kept : AreWaits waits) (alike : AreAlike waits h.1) (are : AreWaitsFor (IsDue h) waits) where
  -- what is before an operation in the causal order leads to it
  order-leads : (a b : OpId) → CO h a b → Leads (IsWaitEdge waits) a b
  order-leads a b before = leads-within (IsSourceEdge h) (Leads (IsWaitEdge waits)) (λ c d edge. ⊎_elim
      (λ (first : Precedes c d × IsOp h d).
      let same = alike.operations d.session in
      let is_op = first.1 in
      leads-edge (IsWaitEdge waits) c d (inl (first.0, omega arith)))
      (λ (source : IsSource h c d).
      let reads = source.0 in
      first-leads waits kept (IsDue h) are c d (d, inl (source, refl))
      (write-or_read h c d reads.0 reads.1 reads.0 reads.1 reads.2 reads.3))
      edge)
      (leads-leads (IsWaitEdge waits)) a b (CO-by_sources h distinct a b before)

  -- so does what is in conflict with it
  conflict-leads : (a b : OpId) → CF h a b → Leads (IsWaitEdge waits) a b
  conflict-leads a b conflict =
      let wrote = conflict.0.1 in
      let r : OpId = conflict.1.0 in
      let reads = conflict.1.2 in
      let source = distinct-source h distinct b r reads in
      let variable : reads.0 ≡ wrote.0 = (same_written h b reads.0 reads.1 wrote.0 wrote.2 reads.2 wrote.4).0 in
      first-leads waits kept (IsDue h) are a b (
        r,
        inr (
          source,
          record {
            x = wrote.0;
            u = wrote.1;
            y = reads.1;
            writes = wrote.3;
            reads = subst (λ (x : ℕ). Reads h r x reads.1) variable reads.3;
            before = CO-by_sources h distinct a r conflict.1.1;
          },
        ),
      )
      conflict.0.0

  -- where none leads to itself both together have no cycle
  pub acyclic-conflicts : ((a : OpId) → ¬ Leads (IsWaitEdge waits) a a) → ¬ ((a : OpId) × Leads (λ b c. CO h b c ⊎ CF h b c) a a)
  acyclic-conflicts acyclic cyclic = acyclic cyclic.0 (leads-within (λ b c. CO h b c ⊎ CF h b c) (Leads (IsWaitEdge waits))
      (λ b c. ⊎_elim (order-leads b c) (conflict-leads b c)) (leads-leads (IsWaitEdge waits)) cyclic.0 cyclic.0 cyclic.1)

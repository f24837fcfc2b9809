-- Orders in which operations follow those that they wait for by the reads of a history go by the rule, and cycles of such
-- operations are cycles of what has to stand before what.
use Rattle.std.proofs.Common.{◌≡◌, ◌≢◌, ℕ, ◌+◌, ◌-◌, ◌<◌, ◌≤◌, inl, inr, ⊎_elim, List, length, take, arith, ap, sym, refl, subst}
use Rattle.std.proofs.lemmas.Option.{slice_get_within}
use Rattle.model_history.specs.declared.op_id.OpId.{OpId}
use Rattle.model_history.specs.History.{IsOp, Precedes}
use Rattle.order_memory.specs.Memory.{MemoryHistory, Writes, Reads}
use Rattle.order_causal.specs.Orders.{op, Leads}
use Rattle.order_memory.specs.SourceOrder.{IsSource, IsSourceEdge, SourceOrder}
use Rattle.order_causal.specs.Vectors.{IsListed, Counts, count}
use Rattle.order_memory.specs.Steps.Conflicts.{IsWriteInPast, IsDue}
use Rattle.order_causal.specs.Schedules.{placed, next_of}
use Rattle.order_causal.specs.Waits.{AreAlike, AreWaitsFor, CanFollow, IsAwaited, IsTopologicalOrder, IsWaitEdge, IsWaitingCycle}
use Rattle.order_causal.proofs.Items.{cases-op}
use Rattle.order_memory.proofs.MemoryLaws.{same_read, same_written, write-or_read}
use Rattle.order_causal.proofs.OrdersLaws.{same_op}
use Rattle.order_causal.proofs.Placed.{front-places, placed-up}
use Rattle.order_causal.proofs.PathsLaws.{last-edge, leads-back, leads-edge, leads-wider}
use Rattle.order_causal.proofs.WaitsLead.{cycle-leads}
use Rattle.cert_make_ccv.specs.ByConflicts.{SourceConflict, ComesFirst, CanStand, GoesByRule}

module _ (h : MemoryHistory) where
  -- what is due before another operation has to stand before it
  due-first : (a o : OpId) → IsDue h a o → a ≢ o → ComesFirst h a o
  due-first a o due apart = ⊎_elim
      (λ (is : IsSource h a due.0 × (o ≡ due.0)).
      inl (leads-edge (IsSourceEdge h) a o (inr (subst (λ (r : OpId). IsSource h a r) (sym is.1) is.0))))
      (λ (is : IsSource h o due.0 × IsWriteInPast h due.0 a).
      let r : OpId = due.0 in
      let reads = is.0.0 in
      let wrote = is.1 in
      let variable : reads.0 ≡ wrote.x = (same_read h r reads.0 reads.1 wrote.x wrote.y reads.3 wrote.reads).0 in
      inr ((apart, (wrote.x, wrote.u, reads.1, wrote.writes, subst (λ (x : ℕ). Writes h o x reads.1) variable reads.2)), (r, wrote.before, is.0)))
      due.1

  -- a source, and a write that conflicts with one, is due
  source-due : (a o : OpId) → IsSource h a o → IsDue h a o
  source-due a o source = (o, inl (source, refl))

  conflict-due : (a o : OpId) → SourceConflict h a o → IsDue h a o
  conflict-due a o conflict =
      let wrote = conflict.0.1 in
      let r : OpId = conflict.1.0 in
      let source = conflict.1.2 in
      let reads = source.0 in
      let variable : reads.0 ≡ wrote.0 = (same_written h o reads.0 reads.1 wrote.0 wrote.2 reads.2 wrote.4).0 in (
        r,
        inr (
          source,
          record {
            x = wrote.0;
            u = wrote.1;
            y = reads.1;
            writes = wrote.3;
            reads = subst (λ (x : ℕ). Reads h r x reads.1) variable reads.3;
            before = conflict.1.1;
          },
        ),
      )

  module _ (waits : Counts) (alike : AreAlike waits h.1) (are : AreWaitsFor (IsDue h) waits) where
    -- a cycle of operations that wait for one another is one of what has to stand before what
    pub cycle-first : (ops : List OpId) → IsWaitingCycle waits ops → (a : OpId) × Leads (ComesFirst h) a a
    cycle-first ops cycle =
        let leads = cycle-leads waits ops cycle in (
          leads.0,
          leads-wider (IsWaitEdge waits) (ComesFirst h) (λ a b. ⊎_elim
              (λ (before : Precedes a b × IsListed waits b).
              let same = alike.operations b.session in
              let listed = before.1 in
              inl (leads-edge (IsSourceEdge h) a b (inl (before.0, omega arith))))
              (λ (awaited : IsAwaited waits b a). due-first a b (are.last a b awaited.0) awaited.1))
              leads.0 leads.0 leads.1,
        )

    module _ (list : List ℕ) (sorted : IsTopologicalOrder waits list) where
      abbrev IsPlaced : ℕ → OpId → Type 0
      IsPlaced k a = a.index < placed (take k list) a.session

      -- what is due before an operation that can follow is placed
      due-placed : (k s : ℕ) → CanFollow waits (take k list) s → (a : OpId) → IsDue h a (next_of (take k list) s) → a ≢ next_of (take k list) s → IsPlaced k a
      due-placed k s can a due apart = can.ready a (are.each a (next_of (take k list) s) due, apart)

      -- so is what an edge of the order puts before it
      edge-placed : (k s : ℕ) → CanFollow waits (take k list) s → (a : OpId) → IsSourceEdge h a (next_of (take k list) s) → IsPlaced k a
      edge-placed k s can a edge = ⊎_elim
          (λ (before : Precedes a (next_of (take k list) s) × IsOp h (next_of (take k list) s)).
          subst (λ (t : ℕ). a.index < placed (take k list) t) (sym before.0.0) before.0.1)
          (λ (source : IsSource h a (next_of (take k list) s)).
          let reads = source.0 in
          due-placed k s can a (source-due a (next_of (take k list) s) source)
          (write-or_read h a (next_of (take k list) s) reads.0 reads.1 reads.0 reads.1 reads.2 reads.3))
          edge

      -- what has an edge to something placed is placed
      placed-back : (k : ℕ) → k ≤ length list → (a b : OpId) → IsSourceEdge h a b → IsPlaced k b → IsPlaced k a
      placed-back k inside a b edge is_placed =
          let found = front-places list k b.session b.index inside is_placed in
          let j : ℕ = found.0 in
          let earlier = found.1 in
          let is_next : b ≡ next_of (take j list) b.session = same_op b (next_of (take j list) b.session) refl (sym found.3) in
          let there = edge-placed j b.session (sorted.can j b.session found.2) a (subst (λ (o : OpId). IsSourceEdge h a o) is_next edge) in
          let more = placed-up list j k a.session (omega arith) in
          omega arith

      -- all that has to stand before an operation that can follow is placed
      first-placed : (k s : ℕ) → k ≤ length list → CanFollow waits (take k list) s → (a : OpId) → ComesFirst h a (next_of (take k list) s) → IsPlaced k a
      first-placed k s inside can a first = ⊎_elim
          (λ (before : SourceOrder h a (next_of (take k list) s)).
          let last = last-edge (IsSourceEdge h) a (next_of (take k list) s) before in
          let p : OpId = last.0 in
          let there = edge-placed k s can p last.2 in
          ⊎_elim
          (λ (same : a ≡ p). subst (λ (o : OpId). IsPlaced k o) (sym same) there)
          (λ (leads : SourceOrder h a p). leads-back (IsSourceEdge h) (IsPlaced k) (placed-back k inside) a p leads there)
          last.1)
          (λ (conflict : SourceConflict h a (next_of (take k list) s)).
          due-placed k s can a (conflict-due a (next_of (take k list) s) conflict) conflict.0.0)
          first

      follow-stand : (k s : ℕ) → k ≤ length list → CanFollow waits (take k list) s → CanStand h (take k list) s
      follow-stand k s inside can = record {
        there = let same = alike.operations s in let there = can.there in omega arith;
        ready = λ a first. first-placed k s inside can a first;
      }

      -- and the other way round
      stand-follow : (part : List ℕ) (s : ℕ) → CanStand h part s → CanFollow waits part s
      stand-follow part s stand = record {
        there = let same = alike.operations s in let there = stand.there in omega arith;
        ready = λ a waits_for.
            let o : OpId = next_of part s in
            let counted = waits_for.0 in
            let c : OpId = op a.session (count waits o a.session - 1) in
            let due = are.last c o (let some : count waits o a.session ≡ count waits o a.session - 1 + 1 = omega arith in some) in
            ⊎_elim
            (λ (same : c ≡ o).
            let session : a.session ≡ s = ap (λ (b : OpId). b.session) same in
            let index : count waits o a.session - 1 ≡ placed part s = ap (λ (b : OpId). b.index) same in
            let other : a.index ≢ placed part s = λ equal. waits_for.1 (same_op a o session equal) in
            subst (λ (t : ℕ). a.index < placed part t) (sym session) (omega arith))
            (λ (apart : c ≢ o). let ready = stand.ready c (due-first c o due apart) in omega arith)
            (cases-op c o);
      }

      -- the order goes by the rule
      pub sorted-by_rule : GoesByRule h list
      sorted-by_rule = record {
        can = λ k s at. let inside = slice_get_within list k s at in follow-stand k s (omega arith) (sorted.can k s at);
        least = λ k s t at below stand. sorted.least k s t at below (stand-follow (take k list) t stand);
      }

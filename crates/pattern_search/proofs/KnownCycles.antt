-- Operations that wait for what they read from: where they make a cycle, and where the causal order has one.
use Rattle.std.specs.Prelude.{◌≡◌, ℕ, ◌<◌, ◌≤◌, List, [], length, Option, Some, None, slice_get}
use Rattle.std.proofs.Common.{arith, get_or, sym, ap, subst, ◌∙◌, inl, inr, ⊎_elim}
use Rattle.std.proofs.lemmas.Bool.{cases_lt}
use Rattle.std.proofs.lemmas.List.{get_or_past}
use Rattle.std.proofs.lemmas.Option.{slice_get_within, slice_get-get_or}
use Rattle.model_history.specs.declared.op_id.OpId.{OpId}
use Rattle.model_history.specs.History.{IsOp, Precedes, session}
use Rattle.order_memory.specs.Memory.{MemoryHistory, IsDifferentiated}
use Rattle.order_memory.specs.Relations.{IsEdge, ReadsFrom}
use Rattle.order_causal.specs.Orders.{Leads}
use Rattle.order_memory.specs.SourceOrder.{IsCyclic}
use Rattle.order_memory.specs.Sources.{Sources, HasSource, AreListed}
use Rattle.order_memory.specs.Steps.Indexed.{IsSourceIfAny, ListsSourcesIfAny}
use Rattle.order_causal.specs.Vectors.{IsListed, Counts}
use Rattle.order_causal.specs.Waits.{AreAlike, AreWaits, AreWaitsFor, IsAwaited, IsWaitEdge, IsWaitingCycle}
use Rattle.order_memory.proofs.MemoryLaws.{read-of_history, same_read, write-of_history, write-or_read}
use Rattle.order_causal.proofs.PushedLaws.{listed-length}
use Rattle.order_causal.proofs.PathsLaws.{leads-edge, leads-leads, leads-within}
use Rattle.order_causal.proofs.WaitsLead.{first-leads}
use Rattle.pattern_check.specs.Patterns.{IsCyclicPath}

module _ (h : MemoryHistory) (sources : Sources) (lists : ListsSourcesIfAny h sources) where
  known-length : (s : ℕ) → length (get_or sources s []) ≡ length (session h s)
  known-length s = ⊎_elim
      (λ (inside : s < length h.1). (lists.each s inside).count)
      (λ (past : length h.1 ≤ s).
      let here = get_or_past sources s [] (let same = lists.sessions in omega arith) in
      let there = get_or_past h.1 s [] past in
      ap (λ (xs : List (Option OpId)). length xs) here ∙ sym (ap (λ (xs : _). length xs) there))
      (cases_lt s (length h.1))

  pub known-alike : AreAlike sources h.1
  known-alike = record { sessions = lists.sessions; operations = known-length }

  known-entry : (r : OpId) (e : Option OpId) → slice_get (get_or sources r.session []) r.index ≡ Some e → IsSourceIfAny h r e
  known-entry r e at =
      let inside : r.session < length h.1 =
      let below = listed-length sources r.session r.index (slice_get_within _ r.index e at) in
      let same = lists.sessions in omega arith in
      (lists.each r.session inside).each r.index e at

  known-source : (r w : OpId) → HasSource sources r w → ReadsFrom h w r
  known-source r w has = (known-entry r (Some w) has).0

  pub known-exist : AreListed sources
  known-exist o w has =
      let from = known-source o w has in
      let is_op = write-of_history h w from.0 from.1 from.2 in
      let same = known-length w.session in
      omega arith

  -- an operation is listed with the write that it reads from
  source-known : IsDifferentiated h → (w r : OpId) → ReadsFrom h w r → HasSource sources r w
  source-known distinct w r reads =
      let is_op = read-of_history h r reads.0 reads.1 reads.3 in
      let below : r.index < length (get_or sources r.session []) = let same = known-length r.session in omega arith in
      let at = slice_get-get_or (get_or sources r.session []) r.index None below in
      elim (get_or (get_or sources r.session []) r.index None)
      as (λ e. slice_get (get_or sources r.session []) r.index ≡ Some e → HasSource sources r w) [
        | None ↦ λ here. absurd (known-entry r None here w reads)
        | Some u ↦ λ here.
            let from = known-source r u here in
            let same = same_read h r from.0 from.1 reads.0 reads.1 from.3 reads.3 in
            let one : u ≡ w = distinct.once u w from.0 from.1 from.2 (rw (same.0, same.1) reads.2) in
            subst (λ (o : OpId). HasSource sources r o) one here
      ] at

  module _ (waits : Counts) (alike : AreAlike waits h.1) (are : AreWaitsFor (λ w o. HasSource sources o w) waits) where
    wait-edge : (a b : OpId) → IsWaitEdge waits a b → IsEdge h a b
    wait-edge a b = ⊎_elim
        (λ (before : Precedes a b × IsListed waits b).
        let same = alike.operations b.session in let listed = before.1 in inl (before.0, omega arith))
        (λ (awaited : IsAwaited waits b a). inr (known-source b a (are.last a b awaited.0)))

    -- a cycle of those that wait is one of the causal order
    pub cycle-path : (ops : List OpId) → IsWaitingCycle waits ops → IsCyclicPath h ops
    cycle-path ops cycle = (
      cycle.some,
      (
        cycle.closed.0,
        record {
          joined = λ k x y at next. wait-edge x y (cycle.joined k x y at next);
          first = cycle.closed.1;
          last = cycle.closed.2;
        },
      ),
    )

    -- where none leads to itself the causal order has no cycle
    pub acyclic-order : IsDifferentiated h → AreWaits waits → ((a : OpId) → ¬ Leads (IsWaitEdge waits) a a) → ¬ IsCyclic h
    acyclic-order distinct kept acyclic cyclic =
        acyclic cyclic.0 (leads-within (IsEdge h) (Leads (IsWaitEdge waits)) (λ a b edge. ⊎_elim
        (λ (before : Precedes a b × IsOp h b).
        let same = alike.operations b.session in let is_op = before.1 in
        leads-edge (IsWaitEdge waits) a b (inl (before.0, omega arith)))
        (λ (reads : ReadsFrom h a b).
        first-leads waits kept (λ w o. HasSource sources o w) are a b (source-known distinct a b reads)
        (write-or_read h a b reads.0 reads.1 reads.0 reads.1 reads.2 reads.3))
        edge)
        (leads-leads (IsWaitEdge waits)) cyclic.0 cyclic.0 cyclic.1)

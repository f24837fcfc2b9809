-- The happened-before relation is decided, so one that is not acyclic has a cycle that can be named.
use Rattle.std.specs.Prelude.{◌⊎◌, ◌<◌}
use Rattle.std.proofs.Common.{inl, inr, ⊎_elim, lt-ltb, ltb-true}
use Rattle.model_history.specs.declared.op_id.OpId.{OpId}
use Rattle.model_history.specs.History.{IsOp}
use Rattle.order_causal.specs.Vectors.{Counts, count, IsCounted}
use Rattle.order_causal.proofs.Searches.{IsDecided, below-decided, some_operation}
use Rattle.order_memory.specs.Memory.{MemoryHistory, IsDifferentiated}
use Rattle.order_memory.specs.Relations.{IsPast, HB}
use Rattle.order_memory.specs.SourceOrder.{CountsSourceOrder}
use Rattle.order_memory.proofs.HappenedBeforeExists.{HB-vectors}
use Rattle.order_memory.proofs.HappenedBeforeLaws.{HB-inside, in_past-from, in_past-true, past-of_history}
use Rattle.judge_session_orders.specs.Backward.{IsAcyclic}

-- a fact is decided if one that is equivalent to it is
pub decided-by : (A B : Type 0) → (A → B) → (B → A) → IsDecided A → IsDecided B
decided-by A B to from decided = ⊎_elim
    (λ (a : A). inl (to a))
    (λ (no : ¬ A). inr (λ b. no (from b)))
    decided

module _ (h : MemoryHistory) (v : Counts) (counts : CountsSourceOrder h v) (distinct : IsDifferentiated h) (o : OpId) (is_op : IsOp h o)
  where
    pub past-decided : (a : OpId) → IsDecided (IsPast h o a)
    past-decided a = decided-by (a.index < count v o a.session) (IsPast h o a)
        (λ below. in_past-true h v counts distinct o is_op a (lt-ltb a.index (count v o a.session) below))
        (λ past. ltb-true a.index (count v o a.session) (in_past-from h v counts distinct o is_op a past))
        (below-decided a.index (count v o a.session))

    pub HB-decided : (a b : OpId) → IsDecided (HB h o a b)
    HB-decided a b =
        let vectors = HB-vectors h v counts distinct o is_op in
        ⊎_elim
        (λ (in_b : IsPast h o b).
        let exact = vectors.1.exact a b in_b in
        decided-by (IsCounted vectors.0 b a) (HB h o a b) exact.0 exact.1 (below-decided a.index (count vectors.0 b a.session)))
        (λ (no : ¬ IsPast h o b). inr (λ happened. no (HB-inside h v counts distinct o is_op a b happened).1))
        (past-decided b)

    -- there is a cycle, or there is none
    pub cycle-or_acyclic : ((a : OpId) × HB h o a a) ⊎ IsAcyclic h o
    cycle-or_acyclic = ⊎_elim
        (λ (found : (a : OpId) × IsOp h a × HB h o a a). inl (found.0, found.2))
        (λ (none : (a : OpId) → IsOp h a → ¬ HB h o a a).
        inr (λ a happened. none a (past-of_history h o a is_op (HB-inside h v counts distinct o is_op a a happened).0) happened))
        (some_operation h (λ a. HB h o a a) (λ a. HB-decided a a))

    pub cycle-found : ¬ IsAcyclic h o → (a : OpId) × HB h o a a
    cycle-found cyclic = ⊎_elim
        (λ (cycle : (a : OpId) × HB h o a a). cycle)
        (λ (acyclic : IsAcyclic h o). absurd (cyclic acyclic))
        cycle-or_acyclic

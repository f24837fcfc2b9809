-- Schedules that go by the topological rule over the vectors of the order by sources.
use Rattle.std.proofs.Common.{◌≡◌, ℕ, ◌≤◌, List, [], take, arith, sym, ap, subst, ⊎_elim, refl}
use Rattle.std.specs.Prelude.{◌≢◌}
use Rattle.std.proofs.lemmas.Bool.{cases_eq}
use Rattle.model_history.specs.declared.op_id.OpId.{OpId}
use Rattle.model_history.specs.History.{IsOp}
use Rattle.order_memory.proofs.ClosedLimits.{closed-reached}
use Rattle.order_causal.proofs.FullWalks.{walk-within}
use Rattle.order_memory.proofs.GrowingOrdersLaws.{held-by_sources}
use Rattle.order_causal.proofs.OrdersLaws.{same_op}
use Rattle.order_memory.proofs.SourceVectors.{own-count, counted-counted}
use Rattle.order_memory.specs.Memory.{MemoryHistory}
use Rattle.order_causal.specs.Orders.{StandsAt}
use Rattle.order_memory.specs.SourceOrder.{CountsSourceOrder}
use Rattle.order_causal.specs.Topological.{CanGoOn, IsFullWalk}
use Rattle.order_causal.specs.Schedules.{placed, next_of}
use Rattle.order_causal.specs.Vectors.{Counts, list_of, count, IsCounted}
use Rattle.cert_check.specs.Schedules.{named, StandsBefore, IsSchedule}
use Rattle.cert_check.proofs.Named.{named_is, before_from_counted}

-- what stands at a place is the next operation of its session there
pub next-is : (schedule : List ℕ) (k : ℕ) (b : OpId) → StandsAt (named schedule) k b → next_of (take k schedule) b.session ≡ b
next-is schedule k b stands = same_op (next_of (take k schedule) b.session) b refl (sym (named_is schedule k b stands).1)

module _ (h : MemoryHistory) (v : Counts) (order : CountsSourceOrder h v) (schedule : List ℕ) where
  module _ (k : ℕ) (b : OpId) (stands : StandsAt (named schedule) k b) where
    module _ (limits : List ℕ) (can : CanGoOn v limits (take k schedule) b.session) where
      -- what can go on at a place is of the history
      pub step-existing : IsOp h b
      step-existing =
          let there = can.there in
          let same = order.vectors.one_each.operations b.session in
          subst (λ (x : OpId). IsOp h x) (next-is schedule k b stands) (omega arith)

      -- and comes after all others that its vector counts
      pub step-after : (a : OpId) → IsCounted v b a → a ≢ b → StandsBefore (named schedule) k a
      step-after a counts apart =
          let index = (named_is schedule k b stands).1 in
          before_from_counted schedule k a (⊎_elim
          (λ (same : a.session ≡ b.session).
          let own = own-count h v order b step-existing in
          let mine = ap (λ (s : ℕ). count v b s) same in
          let other : a.index ≢ b.index = λ equal. apart (same_op a b same equal) in
          let here = ap (λ (s : ℕ). placed (take k schedule) s) same in
          omega arith)
          (λ (other : a.session ≢ b.session).
          let ready : count v b a.session ≤ placed (take k schedule) a.session =
          subst (λ (x : OpId). count v x a.session ≤ placed (take k schedule) a.session) (next-is schedule k b stands) (can.ready a.session other) in
          omega arith)
          (cases_eq a.session b.session))

  module _ (o : OpId) (is_op : IsOp h o) where
    -- a walk up to what the vector of an operation counts places all that, and no more
    pub walk-ends : (before : List ℕ) → IsFullWalk v (list_of v o) before schedule → ((s : ℕ) → placed before s ≤ count v o s)
        → (s : ℕ) → placed schedule s ≡ count v o s
    walk-ends before full begun s =
        let most = walk-within v (list_of v o) before schedule full.walk s in
        let least = closed-reached h v order (list_of v o) before schedule full
        (λ t. (held-by_sources h v order).held o t is_op)
        (λ a b b_op below counts. counted-counted h v order o b a is_op below counts) s in
        let start = begun s in
        omega arith

    -- so it is a schedule of the operation
    pub plain-schedule : IsFullWalk v (list_of v o) [] schedule → IsSchedule h v o schedule
    plain-schedule full =
        let can : (k : ℕ) (b : OpId) → StandsAt (named schedule) k b → CanGoOn v (list_of v o) (take k schedule) b.session =
        λ k b stands. (full.walk.each k b.session (omega arith) (named_is schedule k b stands).0).can in
        record {
          existing = λ k b stands. step-existing k b stands (list_of v o) (can k b stands);
          after_counted = λ k b a stands. step-after k b stands (list_of v o) (can k b stands) a;
          ends = walk-ends [] full (λ s. omega arith);
        }

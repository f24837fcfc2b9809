-- The limits that leave a write, and what is after it, out of the past of an operation.
use Rattle.std.proofs.Common.{◌≡◌, ℕ, ◌<◌, ◌≤◌, List, [], length, min, arith, get_or, ap, subst, ⊎_elim}
use Rattle.std.specs.Prelude.{◌≢◌}
use Rattle.std.proofs.lemmas.Bool.{cases_eq, cases_lt}
use Rattle.std.proofs.lemmas.List.{get_or_past}
use Rattle.model_history.specs.declared.op_id.OpId.{OpId}
use Rattle.model_history.specs.History.{IsOp, session}
use Rattle.order_memory.proofs.ClosedLimits.{closed-reached}
use Rattle.order_causal.proofs.FullWalks.{walk-within}
use Rattle.order_memory.proofs.GrowingOrdersLaws.{SourceOrder-of_history}
use Rattle.order_causal.proofs.OrdersLaws.{session-of_history}
use Rattle.order_memory.proofs.SourceVectors.{program-before, counts-itself, counts-before, counted-of_history, counted-counted, counted-back}
use Rattle.order_causal.proofs.Walked.{limit-within}
use Rattle.order_memory.specs.Memory.{MemoryHistory}
use Rattle.order_causal.specs.Orders.{op}
use Rattle.order_memory.specs.SourceOrder.{CountsSourceOrder, SourceOrder}
use Rattle.order_causal.specs.Topological.{IsFullWalk}
use Rattle.order_causal.specs.Schedules.{placed}
use Rattle.order_causal.specs.Vectors.{Counts, count, list_of, IsCounted}
use Rattle.cert_make_cc.specs.BySources.{AreApart}
use Rattle.cert_make_cc.specs.Steps.Cuts.{AreClosed, IsCountedOn}

module _ (h : MemoryHistory) (v : Counts) (order : CountsSourceOrder h v) (o w : OpId) (is_op : IsOp h o) (before : SourceOrder h w o)
    (limits : List ℕ) (apart : AreApart v o w limits) where
  pub write-op : IsOp h w
  write-op = SourceOrder-of_history h w o before

  limit-bound : (s : ℕ) → get_or limits s 0 ≤ min (length (get_or v s [])) (count v o s)
  limit-bound s = ⊎_elim
      (λ (inside : s < length v). (apart.each s inside).within)
      (λ (past : length v ≤ s). let size = apart.size in let none = get_or_past limits s 0 (omega arith) in omega arith)
      (cases_lt s (length v))

  -- they are limits of the past of the operation
  pub limit-most : (s : ℕ) → get_or limits s 0 ≤ count v o s
  limit-most s = let bound = limit-bound s in omega arith

  pub limit-held : (s : ℕ) → get_or limits s 0 ≤ length (session h s)
  limit-held s = let bound = limit-bound s in let same = order.vectors.one_each.operations s in omega arith

  -- what is below them doesn't count the write
  pub apart-from : (b : OpId) → b.index < get_or limits b.session 0 → ¬ IsCounted v b w
  apart-from b below =
      let inside = limit-within limits b.session b.index below in
      let size = apart.size in
      (apart.each b.session (omega arith)).uncounted b.index below

  -- and what is in the past and doesn't count it is below them
  pub apart-to : (b : OpId) → IsOp h b → IsCounted v o b → ¬ IsCounted v b w → b.index < get_or limits b.session 0
  apart-to b b_op counts free = ⊎_elim
      (λ (below : b.index < get_or limits b.session 0). below)
      (λ (above : get_or limits b.session 0 ≤ b.index).
      let s : ℕ = b.session in
      let n : ℕ = get_or limits s 0 in
      let sessions = order.vectors.one_each.sessions in
      let same = order.vectors.one_each.operations s in
      let session = session-of_history h b b_op in
      let first : IsCounted v (op s n) w = (apart.each s (omega arith)).first (omega arith) in
      absurd (free (⊎_elim
      (λ (here : n ≡ b.index). subst (λ (i : ℕ). IsCounted v (op s i) w) here first)
      (λ (other : n ≢ b.index).
      counted-counted h v order b (op s n) w b_op
      (counts-before h v order b (op s n) b_op (program-before h s n b.index (omega arith) b_op)) first)
      (cases_eq n b.index))))
      (cases_lt b.index (get_or limits b.session 0))

  -- they have with each operation all that its vector counts
  pub limit-closed : (a b : OpId) → IsOp h b → b.index < get_or limits b.session 0 → IsCounted v b a → a.index < get_or limits a.session 0
  limit-closed a b b_op below counts =
      let most = limit-most b.session in
      apart-to a (counted-of_history h v order b a b_op counts)
      (counted-counted h v order o b a is_op (omega arith) counts)
      (λ back. apart-from b below (counted-counted h v order b a w b_op counts back))

  counts-write : IsCounted v o w
  counts-write = counts-before h v order o w is_op before

  -- all that the write counts apart from itself is below them
  pub write-above : (a : OpId) → IsCounted v w a → a ≢ w → a.index < get_or limits a.session 0
  write-above a counts other =
      let a_op = counted-of_history h v order w a write-op counts in
      apart-to a a_op (counted-counted h v order o w a is_op counts-write counts)
      (λ back. other (counted-back h v order a w a_op write-op counts back))

  -- and of its session what is before it
  pub write-limit : get_or limits w.session 0 ≡ w.index
  write-limit =
      let n : ℕ = get_or limits w.session 0 in
      ⊎_elim
      (λ (above : w.index < n). absurd (apart-from w above (counts-itself h v order w write-op)))
      (λ (up_to : n ≤ w.index). ⊎_elim
      (λ (below : n < w.index).
      let other : op w.session n ≢ w = λ same. let index = ap (λ (x : OpId). x.index) same in omega arith in
      let counts = counts-before h v order w (op w.session n) write-op (program-before h w.session n w.index below write-op) in
      let here : n < n = write-above (op w.session n) counts other in
      absurd (omega arith))
      (λ (enough : w.index ≤ n). omega arith)
      (cases_lt n w.index))
      (cases_lt w.index n)

  -- a walk up to them places just that
  pub first-places : (first : List ℕ) → IsFullWalk v limits [] first → (s : ℕ) → placed first s ≡ get_or limits s 0
  first-places first full s =
      let most = walk-within v limits [] first full.walk s in
      let least = closed-reached h v order limits [] first full limit-held limit-closed s in
      omega arith

  -- so a walk can be cut to them
  pub apart_closed : AreClosed v limits
  apart_closed = record {
    each = λ b a listed below counts. let same = order.vectors.one_each.operations b.session in limit-closed a b (omega arith) below counts;
  }

-- a walk can be cut to the past of an operation
pub past_closed : (h : MemoryHistory) (v : Counts) → CountsSourceOrder h v → (o : OpId) → IsOp h o → AreClosed v (list_of v o)
past_closed h v order o is_op = record { each = λ b a listed below counts. counted-counted h v order o b a is_op below counts }

-- the vectors of a session count on what one of them counts
pub counted_on : (h : MemoryHistory) (v : Counts) → CountsSourceOrder h v → (w : OpId) → IsCountedOn v w
counted_on h v order w = record {
  each = λ s i j below listed counts.
      let same = order.vectors.one_each.operations s in
      let is_op : IsOp h (op s j) = omega arith in
      counted-counted h v order (op s j) (op s i) w is_op (counts-before h v order (op s j) (op s i) is_op (program-before h s i j below is_op)) counts;
}

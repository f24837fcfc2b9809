-- Walks by the topological rule over the vectors of the order by sources.
use Rattle.std.specs.Prelude.{ℕ, ◌<◌, ◌≤◌, List, length}
use Rattle.std.proofs.Common.{arith, get_or, ap}
use Rattle.model_history.specs.declared.op_id.OpId.{OpId}
use Rattle.model_history.specs.History.{IsOp, session}
use Rattle.order_causal.proofs.FullWalks.{IsOpen, full-walk_reaches}
use Rattle.order_causal.proofs.PathsLaws.{leads-leads}
use Rattle.order_memory.proofs.SourcedLaws.{listed-op}
use Rattle.order_memory.proofs.SourceVectors.{before-counted}
use Rattle.order_memory.specs.Memory.{MemoryHistory}
use Rattle.order_memory.specs.SourceOrder.{CountsSourceOrder, IsSourceEdge, SourceOrder}
use Rattle.order_causal.specs.Topological.{IsFullWalk}
use Rattle.order_causal.specs.Schedules.{placed, next_of}
use Rattle.order_causal.specs.Vectors.{Counts, IsCounted}

-- limits that have with each operation all that its vector counts are reached
module _ (h : MemoryHistory) (v : Counts) (order : CountsSourceOrder h v)
    (limits before whole : List ℕ) (full : IsFullWalk v limits before whole)
    (held : (s : ℕ) → get_or limits s 0 ≤ length (session h s))
    (closed : (a b : OpId) → IsOp h b → b.index < get_or limits b.session 0 → IsCounted v b a → a.index < get_or limits a.session 0) where
  open_is_op : (s : ℕ) → IsOpen v limits before whole full s → IsOp h (next_of whole s)
  open_is_op s open_s = let most = held s in omega arith

  pub closed-reached : (s : ℕ) → get_or limits s 0 ≤ placed whole s
  closed-reached = full-walk_reaches v limits before whole full (SourceOrder h) order.acyclic (leads-leads (IsSourceEdge h))
      (λ s open_s. listed-op h v order.vectors (next_of whole s) (open_is_op s open_s))
      (λ s t open_s apart missing.
      let is_op = open_is_op s open_s in (
        closed (next_of whole t) (next_of whole s) is_op open_s missing,
        before-counted h v order (next_of whole s) (next_of whole t) is_op missing (λ same. apart (ap (λ (x : OpId). x.session) same)),
      ))

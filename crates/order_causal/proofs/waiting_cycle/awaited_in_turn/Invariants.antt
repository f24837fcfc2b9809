use Rattle.std.proofs.Common.{◌≡◌, ◌+◌, ℕ, length}
use Rattle.model_history.specs.declared.op_id.OpId.{OpId}
use Rattle.order_causal.specs.Orders.{StandsAt}
use Rattle.order_causal.specs.Steps.Waiting.{IsChain, IsOpen}
use Rattle.order_causal.proofs.waiting_cycle.awaited_in_turn.Given as goal

-- the operations so far, the last of them of the session from which it goes on
abbrev pub invariant-loop-session : goal.invariant-loop-session
invariant-loop-session l = record {
  chain : IsChain l.waits l.walk l.chain.items;
  count : length l.chain.items ≡ l._session;
  is_open : IsOpen l.waits l.walk l.last;
  last : (j : ℕ) (a : OpId) → j + 1 ≡ length l.chain.items → StandsAt l.chain.items j a → a.session ≡ l.last;
}

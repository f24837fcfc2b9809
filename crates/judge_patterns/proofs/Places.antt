-- The places of operations in their sessions, and their numbers.
use Rattle.std.specs.Prelude.{◌≡◌, ℕ, ◌+◌, ◌-◌, ◌<◌, ◌≤◌, length}
use Rattle.std.proofs.Common.{arith, ap, ◌∙◌}
use Rattle.model_history.specs.declared.op_id.OpId.{OpId}
use Rattle.model_history.specs.History.{IsOp, many_before, number, session}
use Rattle.model_history.proofs.Counting.{many_next}
use Rattle.order_causal.specs.Orders.{op}
use Rattle.order_causal.proofs.OrdersLaws.{same_op, session-of_history}
use Rattle.order_memory.specs.Memory.{MemoryHistory}
use Rattle.judge_memory.specs.Steps.{many}
use Rattle.judge_memory.proofs.Numbers.{number-found}

module _ (h : MemoryHistory) where
  -- the operations of one session more, by the name that this crate's functions give it
  pub more_before : (s : ℕ) → s < length h.1 → many_before h (s + 1) ≡ many_before h s + length (session h s)
  more_before = many_next h

  -- the same of the sessions of operations
  pub session_below : (o : OpId) → IsOp h o → o.session < length h.1
  session_below = session-of_history h

  module _ (n s : ℕ) (of_session : (o : OpId) → IsOp h o → number h o ≡ n → s ≡ o.session) where
    -- the operation of a number is in its session
    pub start-up_to : n < many h → many_before h s ≤ n
    start-up_to below =
        let found = number-found h n below in
        let start = ap (many_before h) (of_session found.0 found.1 found.2) in
        omega arith

    pub number-place : (t i : ℕ) → t ≡ s → i ≡ n - many_before h s → (o : OpId) → IsOp h o → number h o ≡ n → op t i ≡ o
    number-place t i same_session is o is_op at =
        let same = of_session o is_op at in
        let start = ap (many_before h) same in
        same_op (op t i) o (same_session ∙ same) (omega arith)

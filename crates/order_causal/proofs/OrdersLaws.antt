-- What follows for the operations of a history.
use Rattle.std.specs.Prelude.{◌≡◌, ◌<◌, ◌≤◌, List, [], Option, length}
use Rattle.std.proofs.Common.{subst, arith, lt_of_not-le}
use Rattle.std.proofs.lemmas.List.{get_or_past}
use Rattle.model_history.specs.declared.op_id.OpId.{OpId}
use Rattle.model_history.specs.History.{HistoryValue, IsOp}

-- two numbers make an operation
pub same_op : (a b : OpId) → a.session ≡ b.session → a.index ≡ b.index → a ≡ b
same_op a b sessions indices = λ i. record { session = sessions i; index = indices i }

module _ {S C R : Type 0} (h : HistoryValue S C R) where
  -- an operation of the history is of one of its sessions
  pub session-of_history : (a : OpId) → IsOp h a → a.session < length h.1
  session-of_history a is_op = lt_of_not-le (λ (past : length h.1 ≤ a.session).
      let none = get_or_past h.1 a.session [] past in
      let below = subst (λ (es : List (C × Option R)). a.index < length es) none is_op in
      omega arith)

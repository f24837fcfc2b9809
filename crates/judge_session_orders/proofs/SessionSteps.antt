-- The state of an order from its beginning to its end.
use Rattle.std.specs.Prelude.{◌≡◌, ◌↔◌, ℕ, Bool, true, false, IsTrue, List, [], ◌∷◌}
use Rattle.std.proofs.Common.{arith, refl, ap, subst}
use Rattle.model_history.specs.declared.op_id.OpId.{OpId}
use Rattle.model_history.specs.History.{IsOp}
use Rattle.order_causal.specs.Orders.{program_past}
use Rattle.order_memory.specs.Memory.{MemoryHistory, initial, Reads}
use Rattle.order_memory.specs.Relations.{IsPast}
use Rattle.order_memory.specs.SourceOrder.{IsCyclic, LacksSource}
use Rattle.order_memory.proofs.HappenedBeforeLaws.{program_past-parts}
use Rattle.judge_session_orders.specs.Backward.{IsLeft, IsOpen, last_left, IsBlocked, AreOthersBlocked, IsPlacing}
use Rattle.judge_session_orders.specs.BackwardOrder.{HasStartOverwrittenBefore}
use Rattle.judge_session_orders.specs.SessionOrders.{IsOrderOfPast}
use Rattle.judge_session_orders.specs.SessionStates.{IsSessionState, OverwritesStart}
use Rattle.judge_session_orders.proofs.Ended.{ended-acyclic}
use Rattle.judge_session_orders.proofs.Explained.{ended-answers}
use Rattle.judge_session_orders.proofs.PlacedOrder.{placed-order}
use Rattle.judge_session_orders.proofs.Placing.{placed-backward, was-open}
use Rattle.judge_session_orders.proofs.Starts.{whole-backward, whole-order, start-none, start-kept, start-overwritten}

-- it begins with the past left as a whole
pub state-first : (h : MemoryHistory) (o : OpId) → IsOp h o → (left : ℕ → ℕ) → ((a : OpId) → IsLeft left a ↔ IsPast h o a)
    → IsSessionState h o left [] false
state-first h o is_op left whole = record {
  backward = whole-backward h o is_op left whole;
  order = whole-order h o is_op left whole;
  kept = λ _. start-none h o left;
  found = λ bad. absurd cc;
}

module _ (h : MemoryHistory) (straight : ¬ IsCyclic h) (o : OpId) (is_op : IsOp h o) (t : ℕ) (left after : ℕ → ℕ)
    (placing : IsPlacing t left after)
    (free : ¬ IsBlocked h o left t) (turn : t ≡ o.session → AreOthersBlocked h o left) (ops : List OpId) where
  abbrev p : OpId
  p = last_left left t

  -- one operation more is placed, which is not blocked
  module _ (start : Bool) (now : IsSessionState h o left ops start) where
    pub state-placed : ¬ OverwritesStart h o left p → IsSessionState h o after (p ∷ ops) start
    state-placed right = record {
      backward = placed-backward t left after placing h o is_op now.backward turn;
      order = placed-order h straight o is_op t left after placing now.backward free ops now.order;
      kept = λ clear. start-kept h o t left after placing ops (now.kept clear) (λ b x v kept reads wrote is_left. right
          (b, x, v, kept, reads, wrote, is_left));
      found = now.found;
    }

    -- the same where a write is left of a variable whose initial value it read
    pub state-overwritten : OverwritesStart h o left p → IsSessionState h o after (p ∷ ops) true
    state-overwritten (b, x, v, kept, reads, wrote, is_left) =
        let own : t ≡ o.session = (program_past-parts o p kept).0 in
        let is_own : p ≡ last_left left o.session = ap (last_left left) own in
        record {
          backward = placed-backward t left after placing h o is_op now.backward turn;
          order = placed-order h straight o is_op t left after placing now.backward free ops now.order;
          kept = λ bad. absurd cc;
          found = λ _. start-overwritten h o is_op left now.backward (turn own)
              (subst (IsOpen left) own (was-open t left after placing)) b x v is_left wrote
              (subst (λ (q : OpId). Reads h q x (initial h x)) is_own reads) (subst (λ (q : OpId). IsTrue (program_past o q)) is_own kept);
        }

module _ (h : MemoryHistory) (o : OpId) (left : ℕ → ℕ) (ops : List OpId) (ended : (t : ℕ) → ¬ IsOpen left t) where
  -- finished, it shows that a write happened before a read of the initial value of its variable
  pub state-ended_overwritten : IsSessionState h o left ops true → HasStartOverwrittenBefore h o
  state-ended_overwritten now = now.found refl (ended-acyclic h o left ops now.order ended)

  -- or else that the list orders the past and explains the session
  pub state-ended_explained : ¬ LacksSource h → IsOp h o → IsSessionState h o left ops false → IsOrderOfPast h o ops
  state-ended_explained sources is_op now = record {
    each = λ a in_past. now.order.each a in_past (λ is_left. ended a.session (omega arith));
    no_other = λ k a at. (now.order.no_other k a at).0;
    once = now.order.once;
    ordered = now.order.ordered;
    answers = λ k r x v at kept reads. ended-answers h sources o is_op left ops now.order ended k r at kept (now.kept refl) x v reads;
  }

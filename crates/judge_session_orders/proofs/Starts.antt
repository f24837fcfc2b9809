-- How an order begins, and what its reads of initial values ask.
use Rattle.std.specs.Prelude.{◌↔◌, ℕ, ◌<◌, IsTrue, List, [], ◌∷◌}
use Rattle.std.proofs.Common.{zero, suc, arith, sym, subst}
use Rattle.std.proofs.lemmas.Option.{same_Some}
use Rattle.model_history.specs.declared.op_id.OpId.{OpId}
use Rattle.model_history.specs.History.{IsOp}
use Rattle.order_causal.specs.Orders.{program_past, StandsAt}
use Rattle.order_memory.specs.Memory.{MemoryHistory, initial, Writes, Reads}
use Rattle.order_memory.specs.Relations.{IsPast}
use Rattle.order_memory.proofs.HappenedBeforeLaws.{past-before, past-program}
use Rattle.order_memory.proofs.MemoryLaws.{write-or_read}
use Rattle.judge_session_orders.specs.Backward.{IsLeft, IsOpen, last_left, IsAcyclic, AreOthersBlocked, IsBackward, IsPlacing}
use Rattle.judge_session_orders.specs.BackwardOrder.{IsBackwardOrder, IsStartKept, HasStartOverwrittenBefore}
use Rattle.judge_session_orders.proofs.Placing.{still-left}
use Rattle.judge_session_orders.proofs.Stuck.{left-before}

module _ (h : MemoryHistory) (o : OpId) (is_op : IsOp h o) (left : ℕ → ℕ) (whole : (a : OpId) → IsLeft left a ↔ IsPast h o a) where
  -- at the beginning, when the past is left as a whole
  pub whole-backward : IsBackward h o left
  whole-backward = record {
    within = λ a. (whole a).0;
    before = λ acyclic a w r is_left placed from. absurd (placed.1 ((whole r).1 (past-program h o r is_op placed.0)));
  }

  pub whole-order : IsBackwardOrder h o left []
  whole-order = record {
    each = λ a in_past placed. absurd (placed ((whole a).1 in_past));
    no_other = λ k a at. absurd cc;
    once = λ j k a first second. absurd cc;
    ordered = λ j k a b first second before. absurd cc;
    causes = λ a b before is_left. (whole a).1 (past-before h o a b before ((whole b).0 is_left));
    read = λ i k a w r first second below kept from rivals. absurd cc;
  }

pub start-none : (h : MemoryHistory) (o : OpId) (left : ℕ → ℕ) → IsStartKept h o left []
start-none h o left = record {
  placed = λ k r b x v at kept reads wrote. absurd cc;
  after = λ i k r b x v at kept reads wrote there. absurd cc;
}

module _ (h : MemoryHistory) (o : OpId) (t : ℕ) (left after : ℕ → ℕ) (placing : IsPlacing t left after) (ops : List OpId)
    (start : IsStartKept h o left ops)
    (unwritten : (b : OpId) (x v : ℕ) → IsTrue (program_past o (last_left left t)) → Reads h (last_left left t) x (initial h x)
    → Writes h b x v → ¬ IsLeft left b) where
  abbrev p : OpId
  p = last_left left t

  p-left : IsLeft left p
  p-left = let one = placing.placed in omega arith

  placed-now : (k : ℕ) (r b : OpId) (x v : ℕ) → StandsAt (p ∷ ops) k r → IsTrue (program_past o r) → Reads h r x (initial h x)
      → Writes h b x v → ¬ IsLeft left b
  placed-now zero r b x v at kept reads wrote =
      let same = sym (same_Some _ _ at) in
      unwritten b x v (subst (λ (q : OpId). IsTrue (program_past o q)) same kept) (subst (λ (q : OpId). Reads h q x (initial h x)) same
      reads) wrote
  placed-now (suc k) r b x v at kept reads wrote = start.placed k r b x v at kept reads wrote

  after-now : (i k : ℕ) (r b : OpId) (x v : ℕ) → StandsAt (p ∷ ops) k r → IsTrue (program_past o r) → Reads h r x (initial h x)
      → Writes h b x v → StandsAt (p ∷ ops) i b → k < i
  after-now zero k r b x v at kept reads wrote there =
      absurd (placed-now k r b x v at kept reads wrote (subst (IsLeft left) (same_Some _ _ there) p-left))
  after-now (suc i) zero r b x v at kept reads wrote there = omega arith
  after-now (suc i) (suc k) r b x v at kept reads wrote there = let below = start.after i k r b x v at kept reads wrote there in omega arith

  -- where the placed operation, if it is of the session of o, reads no initial value of a variable of which a write is left, starts are
  -- kept
  pub start-kept : IsStartKept h o after (p ∷ ops)
  start-kept = record {
    placed = λ k r b x v at kept reads wrote is_left. placed-now k r b x v at kept reads wrote (still-left t left after placing b
        is_left).0;
    after = after-now;
  }

-- where it does, such a write happened before it
pub start-overwritten : (h : MemoryHistory) (o : OpId) → IsOp h o → (left : ℕ → ℕ) → IsBackward h o left → AreOthersBlocked h o left
    → IsOpen left o.session → (b : OpId) (x v : ℕ) → IsLeft left b → Writes h b x v → Reads h (last_left left o.session) x (initial h x)
    → IsTrue (program_past o (last_left left o.session)) → IsAcyclic h o → HasStartOverwrittenBefore h o
start-overwritten h o is_op left now blocked own_open b x v is_left wrote reads kept acyclic =
    let own = last_left left o.session in (
      b,
      own,
      x,
      v,
      wrote,
      reads,
      kept,
      left-before h o is_op left now acyclic blocked own_open b is_left (write-or_read h b own x v x (initial h x) wrote reads),
    )

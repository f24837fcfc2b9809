use Rattle.std.specs.Prelude.{Bool, ◌↔◌, ◌≡◌, ℕ, List, [], Option, None, length, slice_index_or}
use Rattle.std.proofs.Common.{arith, ap, sym, subst, ◌∙◌}
use Rattle.model_history.specs.declared.op_id.OpId.{OpId}
use Rattle.order_memory.specs.Relations.{IsPast}
use Rattle.order_memory.proofs.HappenedBeforeLaws.{past-of_history}
use Rattle.judge_session_orders.specs.Backward.{IsLeft}
use Rattle.judge_session_orders.specs.Beginnings.{AreEndsWithin, IsLeftOnly}
use Rattle.judge_session_orders.specs.SessionOrders.{last_op}
use Rattle.judge_session_orders.specs.OnItsWay.{IsKnown}
use Rattle.judge_session_orders.specs.SessionStates.{IsSessionState}
use Rattle.judge_session_orders.specs.Tables.{AreLocks, left_counts}
use Rattle.judge_session_orders.proofs.CountSteps.{ends-within}
use Rattle.judge_session_orders.proofs.Locks.{first-locks}
use Rattle.judge_session_orders.proofs.SessionSteps.{state-first}
use Rattle.judge_session_orders.proofs.TakenOut.{left-only}
use Rattle.judge_session_orders.proofs.beginning.Beginning.begin.Goals as goal

pub leave_only-requires-clause-pasts : goal.leave_only-requires-clause-pasts
leave_only-requires-clause-pasts c =
    let h = c.args.index.now.history in
    let found = c.leave_past.ensures.sessions in
    let filled = c.fill.ensures.len in
    let pasts = c.requires.beginning.pasts in
    subst (λ (xs : List ℕ). AreEndsWithin h xs) (sym c.deref-2.ensures.value) (record {
      size = omega arith;
      within = ends-within h c.leave_past.new.ends.items
          (λ a is_left. past-of_history h (last_op h c.args.own) a c.requires.known.operation ((c.leave_past.ensures.left a).0 is_left));
    })

pub returns-clause-on_its_way : goal.returns-clause-on_its_way
returns-clause-on_its_way c =
    let h = c.args.index.now.history in
    let variables = c.args.index.now.variables in
    let o = last_op h c.args.own in
    let is_op = c.requires.known.operation in
    let after = c.leave_only.new.self in
    let ends = after.ends.items in
    let pasts = c.leave_past.new.ends.items in
    let sizes = c.leave_only.ensures.sizes in
    let found = c.leave_past.ensures.sessions in
    let filled = c.fill.ensures.len in
    let first = c.requires.beginning.pasts in
    let own = sym (c.leave_only.ensures.own ∙ c.copy_left.ensures.own) in
    let start = sym (c.leave_only.ensures.start ∙ c.copy_left.ensures.start) in
    let same : (t : ℕ) → left_counts h ends t ≡ left_counts h pasts t =
    left-only h pasts ends (omega arith) sizes.ends
    (subst (λ (xs : List ℕ). IsLeftOnly h (length h.1) xs ends) c.deref-2.ensures.value c.leave_only.ensures.only) in
    let whole : (a : OpId) → IsLeft (left_counts h ends) a ↔ IsPast h o a = λ a. (
      λ is_left. (c.leave_past.ensures.left a).0 (let equal = same a.session in omega arith),
      λ is_past. let before = (c.leave_past.ensures.left a).1 is_past in let equal = same a.session in omega arith,
    ) in
    record {
      known = subst (IsKnown c.args.index.now) own c.requires.known;
      sizes = record { ends = sizes.ends; readers = sizes.readers; writes = sizes.writes; locks = sizes.locks };
      ops = [];
      state = subst (λ (s : ℕ). IsSessionState h (last_op h s) (left_counts h ends) [] after.start) own
          (subst (λ (b : Bool). IsSessionState h o (left_counts h ends) [] b) start (state-first h o is_op (left_counts h ends) whole));
      counts = c.leave_only.ensures.counts;
      locks = subst (λ (s : ℕ). AreLocks h variables (last_op h s) (left_counts h ends) (λ x. slice_index_or after.locks.items x None)) own
          (first-locks h variables o is_op (left_counts h ends) (λ a. (whole a).1) (λ x. slice_index_or after.locks.items x None)
          (λ x. ap (λ (es : List (Option ℕ)). slice_index_or es x None) (c.leave_only.ensures.locks ∙ c.copy_left.ensures.locks)
          ∙ c.requires.clear.unlocked x));
    }

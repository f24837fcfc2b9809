use Rattle.std.proofs.Common.{arith, ap, length, refl}
use Rattle.model_history.proofs.Counting.{many_all, many_next, many_within}
use Rattle.judge_memory.proofs.ListsLaws.{starts-first, starts-push}
use Rattle.judge_memory.proofs.sessions.starts.Goals as goal

pub loop-session-init : goal.loop-session-init
loop-session-init c = record {
  next = refl;
  so_far = rw c.in_ok-push.ensures.items (rw c.in_ok-starts.ensures.items (starts-first c.args.h.now));
}

pub overflow_cast-next : goal.overflow_cast-next
overflow_cast-next c =
    let within = many_within c.args.h.now c.loop-session.session (omega arith) in
    let all = many_all c.args.h.now in
    let count = c.operations-operations.ensures.count in
    let few = c.operations-operations.ensures.few in
    let same = ap length c.session.ensures in
    omega arith

pub overflow_add-next : goal.overflow_add-next
overflow_add-next c =
    let within = many_within c.args.h.now c.loop-session.session (omega arith) in
    let all = many_all c.args.h.now in
    let count = c.operations-operations.ensures.count in
    let few = c.operations-operations.ensures.few in
    let same = ap length c.session.ensures in
    let next = c.loop-session.invariant.next in
    omega arith

pub loop-session-preserved : goal.loop-session-preserved
loop-session-preserved c =
    let more = many_next c.args.h.now c.loop-session.session (omega arith) in
    let same = ap length c.session.ensures in
    let so_far = c.loop-session.invariant.next in
    record {
      next = omega arith;
      so_far = rw c.in_ok-push-2.ensures.items
          (starts-push c.args.h.now c.loop-session.session _ _ (omega arith) c.loop-session.invariant.so_far);
    }

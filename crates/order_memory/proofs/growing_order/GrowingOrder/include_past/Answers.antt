use Rattle.std.proofs.Common.{◌≡◌, arith, ap, subst, sym, ⊎_elim, ◌∙◌}
use Rattle.std.specs.Prelude.{◌≢◌, max, slice_index}
use Rattle.std.proofs.lemmas.Bool.{cases_eq}
use Rattle.order_causal.specs.Vectors.{Counts, count}
use Rattle.order_causal.proofs.OrdersLaws.{session-of_history}
use Rattle.order_memory.proofs.TakenPasts.{inclusion-then}
use Rattle.order_memory.proofs.growing_order.GrowingOrder.include_past.Goals as goal

pub loop-session-preserved : goal.loop-session-preserved
loop-session-preserved c =
    let h = c.args.h.now in
    let a = c.args.self.now in
    let at = c.loop-session.self in
    let new = c.include_up_to.new.self in
    let before = c.loop-session.invariant in
    let one = c.include_up_to.ensures in
    record {
      growing = one.growing;
      inclusion = inclusion-then h a at new before.inclusion one.inclusion;
      below = λ s under. ⊎_elim
          (λ (last : s ≡ c.loop-session.session).
          let here = one.here in
          let same = before.rest c.loop-session.session (omega arith) in
          let value = c.count-count.ensures in
          let row = ap (λ (v : Counts). count v c.args.op c.loop-session.session) before.inclusion.counts in
          subst (λ t. slice_index new.past.items t ≡ max (slice_index a.past.items t) (count a.counts c.args.op t)) (sym last) (omega arith))
          (λ (apart : s ≢ c.loop-session.session). one.others s apart ∙ before.below s (omega arith))
          (cases_eq s c.loop-session.session);
      rest = λ s above. one.others s (omega arith) ∙ before.rest s (omega arith);
    }

pub include-requires-clause-next : goal.include-requires-clause-next
include-requires-clause-next c =
    let ended = c.loop-session-test.false in
    let sessions = c.sessions-session-end.ensures.count in
    let exists = session-of_history c.args.h.now c.args.op c.requires.is_op in
    let is = c.loop-session.invariant.below c.args.op.session (omega arith) in
    let own = c.requires.own in
    let next = c.requires.next in
    omega arith

pub returns : goal.returns
returns c =
    let ended = c.loop-session-test.false in
    let sessions = c.sessions-session-end.ensures.count in
    let last = c.include.ensures in
    record {
      growing = last.growing;
      inclusion = inclusion-then c.args.h.now c.args.self.now c.loop-session.self c.include.new.self c.loop-session.invariant.inclusion last.inclusion;
      here = last.here;
      others = λ t exists apart. last.others t apart ∙ c.loop-session.invariant.below t (omega arith);
    }

use Rattle.order_causal.proofs.VectorsLaws.{HasListOf-of_history}
use Rattle.std.proofs.Common.{Bool, not, refl, ap, subst, ◌∙◌}
use Rattle.std.specs.Prelude.{◌↔◌, IfOk, IfSome, IsTrue, List}
use Rattle.model_history.specs.declared.op_id.OpId.{OpId}
use Rattle.cert_check.specs.Steps.Replays.{IsAnsweredAfter}
use Rattle.cert_check.proofs.ReplaySteps.{unknown_return}
use Rattle.cert_check.proofs.SchedulePieces.{counted_front, schedule-names}
use Rattle.cert_check.proofs.asked_back.is_answered_near.Goals as goal

pub returns : goal.returns
returns g c =
    let answer = g.O.SeqObject.answer in
    let h = c.args.h.now in
    let same = counted_front answer h c.args.v.now c.args.of c.args.schedule.now c.requires.schedule c.args.place in
    subst (λ (ops : List OpId). IfOk c.is_answered_back_to.result (λ told. IfSome told (λ (yes : Bool). IsTrue yes ↔ IsAnsweredAfter answer h ops c.args.op)))
    same c.is_answered_back_to.ensures.exact

pub returns-then-is_none : goal.returns-then-is_none
returns-then-is_none g c = (
  (λ _ call r known. absurd (unknown_return c.args.h.now c.args.op c.ret.result c.ret.ensures (c.is_none.ensures ∙ ap not c.if-is_none.true) c.args.op refl call r known)),
  λ _. refl,
)

pub is_answered_back_to-requires-clause-listed : goal.is_answered_back_to-requires-clause-listed
is_answered_back_to-requires-clause-listed g c = λ _ _. HasListOf-of_history c.args.h.now c.args.v.now c.args.of c.requires.shape.one_each c.requires.of

pub is_answered_back_to-requires-clause-names : goal.is_answered_back_to-requires-clause-names
is_answered_back_to-requires-clause-names g c = λ _ _. schedule-names c.args.h.now c.args.v.now c.args.of c.args.schedule.now c.requires.schedule

pub is_answered_back_to-requires-clause-is_op : goal.is_answered_back_to-requires-clause-is_op
is_answered_back_to-requires-clause-is_op g c = λ _ _. c.requires.is_op

pub is_answered_back_to-requires-clause-within : goal.is_answered_back_to-requires-clause-within
is_answered_back_to-requires-clause-within g c = λ _ _. c.requires.within

pub is_answered_back_to-requires-clause-counts : goal.is_answered_back_to-requires-clause-counts
is_answered_back_to-requires-clause-counts g c = λ _ _. rw c.in_ok-back.ensures c.requires.counts

pub ret-requires-after_bounds : goal.ret-requires-after_bounds
ret-requires-after_bounds g c = λ _ _. c.requires.is_op

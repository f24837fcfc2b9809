use Rattle.cert_check.specs.Steps.Namings.{AreCountsAt}
use Rattle.order_causal.proofs.VectorsLaws.{HasListOf-of_history}
use Rattle.std.proofs.Common.{Bool, not, refl, ap, ◌∙◌, ℕ, List, length, sym, subst, arith}
use Rattle.std.specs.Prelude.{IsTrue, ◌↔◌, filter, take}
use Rattle.std.proofs.lemmas.Result.{IfOk-weaker}
use Rattle.order_causal.specs.Orders.{only}
use Rattle.cert_check.specs.Certificates.{counted}
use Rattle.cert_check.specs.Criteria.{Explains}
use Rattle.cert_check.specs.Schedules.{named}
use Rattle.cert_check.specs.Steps.Replays.{IsAnsweredAfter}
use Rattle.cert_check.proofs.ConvergentLaws.{only-same}
use Rattle.cert_check.proofs.ReplaySteps.{unknown_return}
use Rattle.cert_check.proofs.SchedulePieces.{own_answered, own_named, schedule-counts, schedule-names}
use Rattle.cert_check.proofs.own_answers.explains_own.Goals as goal

pub returns : goal.returns
returns g c =
    let answer = g.O.SeqObject.answer in
    let h = c.args.h.now in
    let v = c.args.v.now in
    let o = c.args.op in
    let list = c.args.schedule.now in
    let place = c.back_to-place.result in
    let exactly = own_answered answer h v o list c.requires.schedule place c.back_to-place.ensures.place in
    IfOk-weaker c.is_answered_at.result
    (λ (yes : Bool). IsTrue yes ↔ IsAnsweredAfter answer h (filter (counted v o) (take place (named list))) o)
    (λ (yes : Bool). IsTrue yes ↔ Explains answer h (named list) (only o))
    (λ yes answered. ((λ t. exactly.0 (answered.0 t)), λ explains. answered.1 (exactly.1 explains)))
    c.is_answered_at.ensures

pub returns-then-is_none : goal.returns-then-is_none
returns-then-is_none g c = (
  (λ _ k o call r there alone known. absurd (unknown_return c.args.h.now c.args.op c.ret.result c.ret.ensures (c.is_none.ensures ∙ ap not c.if-is_none.true) o (only-same c.args.op o alone) call r known)),
  λ _. refl,
)

pub get-requires-clause-session : goal.get-requires-clause-session
get-requires-clause-session g c = (HasListOf-of_history c.args.h.now c.args.v.now c.args.op c.requires.shape.one_each c.requires.is_op).session

pub get-requires-clause-index : goal.get-requires-clause-index
get-requires-clause-index g c = (HasListOf-of_history c.args.h.now c.args.v.now c.args.op c.requires.shape.one_each c.requires.is_op).index

pub back_to-place-requires-clause-counts : goal.back_to-place-requires-clause-counts
back_to-place-requires-clause-counts g c =
    let is = c.in_ok-naming.ensures ∙ c.get.ensures in
    schedule-counts c.args.h.now c.args.v.now c.args.op c.args.schedule.now c.requires.schedule (length c.in_ok-naming.naming.counts.items)
    c.in_ok-naming.naming.counts.items is (sym (ap (λ (xs : List ℕ). length xs) is))

pub back_to-place-requires-clause-named : goal.back_to-place-requires-clause-named
back_to-place-requires-clause-named g c =
    own_named g.O.SeqObject.answer c.args.h.now c.args.v.now c.args.op c.args.schedule.now c.requires.schedule c.requires.vector

pub is_answered_at-requires-clause-names : goal.is_answered_at-requires-clause-names
is_answered_at-requires-clause-names g c = λ _ _. schedule-names c.args.h.now c.args.v.now c.args.op c.args.schedule.now c.requires.schedule

pub is_answered_at-requires-clause-within : goal.is_answered_at-requires-clause-within
is_answered_at-requires-clause-within g c = λ _ _. let within = c.back_to-place.ensures.within in omega arith

pub is_answered_at-requires-clause-counts : goal.is_answered_at-requires-clause-counts
is_answered_at-requires-clause-counts g c = λ _ _.
    let width = ap (λ (xs : List ℕ). length xs) (c.in_ok-naming.ensures ∙ c.get.ensures) ∙ c.requires.shape.counts c.args.op c.requires.is_op in
    subst (λ (n : ℕ). AreCountsAt c.args.schedule.now c.back_to-place.result n c.back_to-place.new.self.counts.items) width c.back_to-place.ensures.counts

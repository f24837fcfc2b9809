use Rattle.cert_check.proofs.SchedulePieces.{schedule-counts}
use Rattle.order_causal.proofs.VectorsLaws.{HasListOf-of_history}
use Rattle.std.proofs.Common.{Bool, take, ◌≡◌, ◌+◌, ◌-◌, ◌<◌, ℕ, length, subst, arith, ◌==◌, refl, sym, eqb-true, ◌∙◌}
use Rattle.std.specs.Prelude.{◌↔◌, IsTrue, nat_le}
use Rattle.std.proofs.lemmas.Bool.{both_ways, and_parts}
use Rattle.std.proofs.lemmas.Option.{MatchOption-at_some}
use Rattle.order_causal.specs.Orders.{program_past}
use Rattle.cert_check.specs.Schedules.{named}
use Rattle.cert_check.specs.Steps.Namings.{AreCountsAt}
use Rattle.cert_check.specs.Steps.Replays.{IsAnsweredAfter}
use Rattle.cert_check.proofs.AskedBack.{answered_more, own_unanswered, answered_whole}
use Rattle.cert_check.proofs.ReplaySteps.{answered_here}
use Rattle.cert_check.proofs.asked_back.are_answered_behind.Goals as goal

pub loop-place-preserved-in-Some-true : goal.loop-place-preserved-in-Some-true
loop-place-preserved-in-Some-true g c =
    let answer = g.O.SeqObject.answer in
    let h = c.args.h.now in
    let o = c.args.op in
    let list = c.args.schedule.now in
    let k = c.loop-place.place - 1 in
    let above = c.loop-place-test.true in
    let most = c.loop-place.invariant.0 in
    let again : c.loop-place.place ≡ k + 1 = omega arith in
    let exact = MatchOption-at_some _ (λ (yes : Bool). IsTrue yes ↔ IsAnsweredAfter answer h (take k (named list)) c.back-next.result)
    c.in-Some-true.field-0 c.in-Some-true.is c.in_ok-is_answered_near.ensures in
    let here = answered_here answer h (program_past o) list k c.back-next.result c.back-next.ensures.named (λ _. exact.0 c.in-Some-true.field-0-test) in (
      omega arith,
      subst (λ (n : ℕ). AreCountsAt list k n c.back-next.new.self.counts.items) c.loop-place.invariant.1.width c.back-next.ensures.counts,
      answered_more answer h (program_past o) list c.loop-place.place k again here c.loop-place.invariant.2,
    )

pub returns-in-Some-false : goal.returns-in-Some-false
returns-in-Some-false g c =
    let answer = g.O.SeqObject.answer in
    let h = c.args.h.now in
    let o = c.args.op in
    let list = c.args.schedule.now in
    let k = c.loop-place.place - 1 in
    let above = c.loop-place-test.true in
    let most = c.loop-place.invariant.0 in
    let below : k < length list = omega arith in
    let exact = MatchOption-at_some _ (λ (yes : Bool). IsTrue yes ↔ IsAnsweredAfter answer h (take k (named list)) c.back-next.result)
    c.in-Some-false.field-0 c.in-Some-false.is c.in_ok-is_answered_near.ensures in (
      (λ t. absurd cc),
      λ all. absurd (own_unanswered answer h o list k c.back-next.result c.back-next.ensures.named c.args.v.now c.requires.vector c.requires.schedule
          c.if-next-op.true below (λ known. both_ways c.in-Some-false.field-0 c.in-Some-false.field-0-test (exact.1 known)) all),
    )

pub get-requires-clause-session : goal.get-requires-clause-session
get-requires-clause-session g c = (HasListOf-of_history c.args.h.now c.args.v.now c.args.op c.requires.shape.one_each c.requires.is_op).session

pub get-requires-clause-index : goal.get-requires-clause-index
get-requires-clause-index g c = (HasListOf-of_history c.args.h.now c.args.v.now c.args.op c.requires.shape.one_each c.requires.is_op).index

pub loop-place-init : goal.loop-place-init
loop-place-init g c = let e = c.in_ok-naming.ensures in let f = c.get.ensures in (
  omega arith,
  schedule-counts c.args.h.now c.args.v.now c.args.op c.args.schedule.now c.requires.schedule (length c.args.h.now.1) c.in_ok-naming.naming.counts.items
      (e ∙ f) (c.requires.shape.counts c.args.op c.requires.is_op),
  λ k from below. absurd (omega arith),
)

pub back-next-requires-clause-within : goal.back-next-requires-clause-within
back-next-requires-clause-within g c = let most = c.loop-place.invariant.0 in let above = c.loop-place-test.true in omega arith

pub back-next-requires-clause-counts : goal.back-next-requires-clause-counts
back-next-requires-clause-counts g c =
    let list = c.args.schedule.now in
    let k = c.loop-place.place - 1 in
    let above = c.loop-place-test.true in
    let most = c.loop-place.invariant.0 in
    let again : c.loop-place.place ≡ k + 1 = omega arith in
    let counts = c.loop-place.naming.counts.items in
    subst (λ (n : ℕ). AreCountsAt list n (length counts) counts) again
    (subst (λ (n : ℕ). AreCountsAt list c.loop-place.place n counts) (sym c.loop-place.invariant.1.width) c.loop-place.invariant.1)

pub is_answered_near-requires-clause-of : goal.is_answered_near-requires-clause-of
is_answered_near-requires-clause-of g c = λ _ _. c.requires.is_op

pub is_answered_near-requires-clause-is_op : goal.is_answered_near-requires-clause-is_op
is_answered_near-requires-clause-is_op g c = λ _ _. c.requires.schedule.existing (c.loop-place.place - 1) c.back-next.result c.back-next.ensures.named

pub is_answered_near-requires-clause-schedule : goal.is_answered_near-requires-clause-schedule
is_answered_near-requires-clause-schedule g c = λ _ _. c.requires.schedule

pub is_answered_near-requires-clause-shape : goal.is_answered_near-requires-clause-shape
is_answered_near-requires-clause-shape g c = λ _ _. c.requires.shape

pub is_answered_near-requires-clause-within : goal.is_answered_near-requires-clause-within
is_answered_near-requires-clause-within g c = λ _ _. let most = c.loop-place.invariant.0 in omega arith

pub is_answered_near-requires-clause-counts : goal.is_answered_near-requires-clause-counts
is_answered_near-requires-clause-counts g c = λ _ _.
    subst (λ (n : ℕ). AreCountsAt c.args.schedule.now (c.loop-place.place - 1) n c.back-next.new.self.counts.items)
    c.loop-place.invariant.1.width c.back-next.ensures.counts

pub loop-place-preserved : goal.loop-place-preserved
loop-place-preserved g c =
    let h = c.args.h.now in
    let o = c.args.op in
    let list = c.args.schedule.now in
    let k = c.loop-place.place - 1 in
    let above = c.loop-place-test.true in
    let most = c.loop-place.invariant.0 in
    let again : c.loop-place.place ≡ k + 1 = omega arith in
    let next = c.back-next.result in
    let here = answered_here g.O.SeqObject.answer h (program_past o) list k next c.back-next.ensures.named
    (λ inside. absurd (c.if-next-op.false (eqb-true next.session o.session (and_parts (next.session == o.session) (nat_le next.index o.index) inside).0))) in (
      omega arith,
      subst (λ (n : ℕ). AreCountsAt list k n c.back-next.new.self.counts.items) c.loop-place.invariant.1.width c.back-next.ensures.counts,
      answered_more g.O.SeqObject.answer h (program_past o) list c.loop-place.place k again here c.loop-place.invariant.2,
    )

pub returns : goal.returns
returns g c = (
  (λ _. answered_whole g.O.SeqObject.answer c.args.h.now (program_past c.args.op) c.args.schedule.now c.args.front c.loop-place.place c.loop-place-test.false
      c.requires.answered c.loop-place.invariant.2),
  λ _. refl,
)

use Rattle.std.proofs.Common.{◌≡◌, ◌<◌, rules, refl, sym, ◌∙◌, ap, subst, length, set}
use Rattle.std.specs.Prelude.{Some}
use Rattle.std.proofs.lemmas.Option.{slice_get_within}
use Rattle.live_cut_plan.specs.Walks.{Stands}
use Rattle.live_cut_plan.specs.Steps.PlanStates.{state_next, looks_left, PlanState, return_place, call_place, after_return, after_call}
use Rattle.live_cut_plan.proofs.PlanLooks.{stands_on}
use Rattle.live_cut_plan.proofs.LanePlans.{return_room, call_room}
use Rattle.live_cut_plan.proofs.Standing.{next_returns, next_calls, given_return, given_call, fewer_return, fewer_call, same_lane}
use Rattle.live_cut_plan.proofs.cut_plan.CutPlan.give.Goals as goal

pub index_mut-requires : goal.index_mut-requires
index_mut-requires c =
    let st : PlanState = record { cap = c.self.inside.cap; lanes = c.self.inside.lanes.items } in
    let n = next_returns st c.in-Some-Return.op (ap state_next c.self.view_is ∙ (sym c.in-Some-Return.ensures.next ∙ ap Some c.in-Some-Return.field-0-is)) in
    let h : c.in-Some-Return.op.session < length c.self.inside.lanes.items = slice_get_within c.self.inside.lanes.items c.in-Some-Return.op.session n.0 n.1 in search rules

pub give_return-requires : goal.give_return-requires
give_return-requires c =
    let st : PlanState = record { cap = c.self.inside.cap; lanes = c.self.inside.lanes.items } in
    let n = next_returns st c.in-Some-Return.op (ap state_next c.self.view_is ∙ (sym c.in-Some-Return.ensures.next ∙ ap Some c.in-Some-Return.field-0-is)) in
    let same = same_lane c.self.inside.lanes.items c.in-Some-Return.op.session n.0 c.index_mut.result.now n.1 (rw c.session_place.ensures at c.index_mut.ensures.value) in
    λ z. return_room c.self.inside.cap c.in-Some-Return.op.index c.index_mut.result.now (subst (λ m. return_place c.self.inside.cap m ≡ Some c.in-Some-Return.op.index) same n.2) z

pub index_mut-requires-in-Some-Call : goal.index_mut-requires-in-Some-Call
index_mut-requires-in-Some-Call c =
    let st : PlanState = record { cap = c.self.inside.cap; lanes = c.self.inside.lanes.items } in
    let n = next_calls st c.in-Some-Call.op (ap state_next c.self.view_is ∙ (sym c.in-Some-Call.ensures.next ∙ ap Some c.in-Some-Call.field-0-is)) in
    let h : c.in-Some-Call.op.session < length c.self.inside.lanes.items = slice_get_within c.self.inside.lanes.items c.in-Some-Call.op.session n.0 n.1 in search rules

pub give_call-requires : goal.give_call-requires
give_call-requires c =
    let st : PlanState = record { cap = c.self.inside.cap; lanes = c.self.inside.lanes.items } in
    let n = next_calls st c.in-Some-Call.op (ap state_next c.self.view_is ∙ (sym c.in-Some-Call.ensures.next ∙ ap Some c.in-Some-Call.field-0-is)) in
    let same = same_lane c.self.inside.lanes.items c.in-Some-Call.op.session n.0 c.index_mut-in-Some-Call.result.now n.1 (rw c.session_place-in-Some-Call.ensures at c.index_mut-in-Some-Call.ensures.value) in
    call_room c.self.inside.cap c.in-Some-Call.op.index c.index_mut-in-Some-Call.result.now (subst (λ m. call_place c.self.inside.cap m ≡ Some c.in-Some-Call.op.index) same n.2)

pub returns-in-Some-Return-clause-rule : goal.returns-in-Some-Return-clause-rule
returns-in-Some-Return-clause-rule c =
    let st : PlanState = record { cap = c.self.inside.cap; lanes = c.self.inside.lanes.items } in
    let e = ap state_next c.self.view_is ∙ (sym c.in-Some-Return.ensures.next ∙ ap Some c.in-Some-Return.field-0-is) in let n = next_returns st c.in-Some-Return.op e in
    let same = same_lane c.self.inside.lanes.items c.in-Some-Return.op.session n.0 c.index_mut.result.now n.1 (rw c.session_place.ensures at c.index_mut.ensures.value) in
    rw c.session_place.ensures (λ p s. given_return st _ c.in-Some-Return.op c.args.full n.0 n.1 refl e (ap (λ l. set c.self.inside.lanes.items c.in-Some-Return.op.session l) (c.give_return.ensures ∙ ap (after_return c.args.full) (sym same))) p (subst (λ x. Stands x p) (sym c.self.view_is) s))

pub returns-in-Some-Return-clause-fewer : goal.returns-in-Some-Return-clause-fewer
returns-in-Some-Return-clause-fewer c =
    let st : PlanState = record { cap = c.self.inside.cap; lanes = c.self.inside.lanes.items } in
    let e = ap state_next c.self.view_is ∙ (sym c.in-Some-Return.ensures.next ∙ ap Some c.in-Some-Return.field-0-is) in let n = next_returns st c.in-Some-Return.op e in
    let same = same_lane c.self.inside.lanes.items c.in-Some-Return.op.session n.0 c.index_mut.result.now n.1 (rw c.session_place.ensures at c.index_mut.ensures.value) in
    let new : PlanState = record { cap = c.self.inside.cap; lanes = set c.self.inside.lanes.items c.in-Some-Return.op.session c.give_return.new.self } in
    rw c.session_place.ensures (λ h. subst (λ x. looks_left new < looks_left x) c.self.view_is (fewer_return st new c.in-Some-Return.op c.args.full n.0 n.1 refl e (ap (λ l. set c.self.inside.lanes.items c.in-Some-Return.op.session l) (c.give_return.ensures ∙ ap (after_return c.args.full) (sym same)))))

pub returns-in-Some-Call-clause-rule : goal.returns-in-Some-Call-clause-rule
returns-in-Some-Call-clause-rule c =
    let st : PlanState = record { cap = c.self.inside.cap; lanes = c.self.inside.lanes.items } in
    let e = ap state_next c.self.view_is ∙ (sym c.in-Some-Call.ensures.next ∙ ap Some c.in-Some-Call.field-0-is) in let n = next_calls st c.in-Some-Call.op e in
    let same = same_lane c.self.inside.lanes.items c.in-Some-Call.op.session n.0 c.index_mut-in-Some-Call.result.now n.1 (rw c.session_place-in-Some-Call.ensures at c.index_mut-in-Some-Call.ensures.value) in
    rw c.session_place-in-Some-Call.ensures (λ p s. given_call st _ c.in-Some-Call.op c.args.full n.0 n.1 refl e (ap (λ l. set c.self.inside.lanes.items c.in-Some-Call.op.session l) (c.give_call.ensures ∙ ap (after_call c.args.full) (sym same))) p (subst (λ x. Stands x p) (sym c.self.view_is) s))

pub returns-in-Some-Call-clause-fewer : goal.returns-in-Some-Call-clause-fewer
returns-in-Some-Call-clause-fewer c =
    let st : PlanState = record { cap = c.self.inside.cap; lanes = c.self.inside.lanes.items } in
    let e = ap state_next c.self.view_is ∙ (sym c.in-Some-Call.ensures.next ∙ ap Some c.in-Some-Call.field-0-is) in let n = next_calls st c.in-Some-Call.op e in
    let same = same_lane c.self.inside.lanes.items c.in-Some-Call.op.session n.0 c.index_mut-in-Some-Call.result.now n.1 (rw c.session_place-in-Some-Call.ensures at c.index_mut-in-Some-Call.ensures.value) in
    let new : PlanState = record { cap = c.self.inside.cap; lanes = set c.self.inside.lanes.items c.in-Some-Call.op.session c.give_call.new.self } in
    rw c.session_place-in-Some-Call.ensures (λ h. subst (λ x. looks_left new < looks_left x) c.self.view_is (fewer_call st new c.in-Some-Call.op c.args.full n.0 n.1 refl e (ap (λ l. set c.self.inside.lanes.items c.in-Some-Call.op.session l) (c.give_call.ensures ∙ ap (after_call c.args.full) (sym same)))))

pub invariant_of-self : goal.invariant_of-self
invariant_of-self c =
    let st : PlanState = record { cap = c.self.inside.cap; lanes = c.self.inside.lanes.items } in
    let e = ap state_next c.self.view_is ∙ (sym c.in-Some-Return.ensures.next ∙ ap Some c.in-Some-Return.field-0-is) in let n = next_returns st c.in-Some-Return.op e in
    let same = same_lane c.self.inside.lanes.items c.in-Some-Return.op.session n.0 c.index_mut.result.now n.1 (rw c.session_place.ensures at c.index_mut.ensures.value) in
    rw c.session_place.ensures (stands_on st _ c.self.invariant c.args.full (λ p s. given_return st _ c.in-Some-Return.op c.args.full n.0 n.1 refl e (ap (λ l. set c.self.inside.lanes.items c.in-Some-Return.op.session l) (c.give_return.ensures ∙ ap (after_return c.args.full) (sym same))) p s))

pub invariant_of-self-in-Some-Call : goal.invariant_of-self-in-Some-Call
invariant_of-self-in-Some-Call c =
    let st : PlanState = record { cap = c.self.inside.cap; lanes = c.self.inside.lanes.items } in
    let e = ap state_next c.self.view_is ∙ (sym c.in-Some-Call.ensures.next ∙ ap Some c.in-Some-Call.field-0-is) in let n = next_calls st c.in-Some-Call.op e in
    let same = same_lane c.self.inside.lanes.items c.in-Some-Call.op.session n.0 c.index_mut-in-Some-Call.result.now n.1 (rw c.session_place-in-Some-Call.ensures at c.index_mut-in-Some-Call.ensures.value) in
    rw c.session_place-in-Some-Call.ensures (stands_on st _ c.self.invariant c.args.full (λ p s. given_call st _ c.in-Some-Call.op c.args.full n.0 n.1 refl e (ap (λ l. set c.self.inside.lanes.items c.in-Some-Call.op.session l) (c.give_call.ensures ∙ ap (after_call c.args.full) (sym same))) p s))

use Rattle.std.proofs.Common.{◌≡◌, ◌≤◌, ap, sym, subst, ◌∙◌, arith}
use Rattle.std.specs.Prelude.{Some, slice_get}
use Rattle.std.proofs.lemmas.Option.{slice_get_within}
use Rattle.model_history.specs.declared.op_id.OpId.{OpId}
use Rattle.model_history.specs.History.{IsOp}
use Rattle.order_memory.specs.Steps.Indexed.{IsSourcePast}
use Rattle.pattern_search.specs.Steps.Reasons.{last_of}
use Rattle.pattern_search.proofs.DraftLines.{ends-in, ends-reached, raised-there}
use Rattle.pattern_search.proofs.RaisedPairs.{inside-of_history}
use Rattle.pattern_search.proofs.search.derivations.write_pair.Goals as goal

pub returns-in_default : goal.returns-in_default
returns-in_default c =
    let empty = c.requires.empty in
    ends-in c.args.order.now c.args.op 100000 1 0 c.args.pair c.args.draft.now c.push_causal.new.self _ (omega arith) (omega arith) c.in_ok-push_causal.ensures

pub write_raise-requires-clause-exists : goal.write_raise-requires-clause-exists
write_raise-requires-clause-exists c =
    let by = c.in-Some.ensures.1.raised in
    slice_get_within c.args.reasons.now c.in-Some.number by.0 by.1

pub returns-in_default-2 : goal.returns-in_default-2
returns-in_default-2 c =
    let by = c.in-Some.ensures.1.raised in
    let over = c.in_ok-line.ensures by.0 by.1 in
    rw c.in_default-2.is at over

pub reach_back-requires-clause-draft : goal.reach_back-requires-clause-draft
reach_back-requires-clause-draft c =
    let made = c.in_ok-line.ensures c.raise.result c.raise.ensures in
    let ends = rw c.in-Some-2.is at made in
    ends.draft

pub reach_back-requires-clause-session : goal.reach_back-requires-clause-session
reach_back-requires-clause-session c =
    let gives = raised-there c.args.order.now c.args.op c.args.reasons.now c.args.pair c.in-Some.number c.raise.result c.in-Some.ensures.1.raised c.raise.ensures in
    sym gives.1 ∙ ap (λ (a : OpId). a.session) (sym c.last_counted-last.ensures)

pub reach_back-requires-clause-up_to : goal.reach_back-requires-clause-up_to
reach_back-requires-clause-up_to c =
    let gives = raised-there c.args.order.now c.args.op c.args.reasons.now c.args.pair c.in-Some.number c.raise.result c.in-Some.ensures.1.raised c.raise.ensures in
    let below = gives.2 in
    let up : c.args.pair.0.index ≤ (last_of c.raise.result).index = omega arith in
    subst (λ (a : OpId). c.args.pair.0.index ≤ a.index) (sym c.last_counted-last.ensures) up

pub reach_back-requires-clause-is_op : goal.reach_back-requires-clause-is_op
reach_back-requires-clause-is_op c =
    let past = (c.requires.grounded.each c.in-Some.number c.raise.result c.raise.ensures).past in
    subst (λ (a : OpId). IsOp c.args.order.now a) (sym c.last_counted-last.ensures) (inside-of_history c.args.order.now c.args.op _ past)

pub reach_back-requires-clause-past : goal.reach_back-requires-clause-past
reach_back-requires-clause-past c =
    let past = (c.requires.grounded.each c.in-Some.number c.raise.result c.raise.ensures).past in
    subst (λ (a : OpId). IsSourcePast c.args.order.now c.args.op a) (sym c.last_counted-last.ensures) past

pub reach_back-requires-clause-given : goal.reach_back-requires-clause-given
reach_back-requires-clause-given c =
    let gives = raised-there c.args.order.now c.args.op c.args.reasons.now c.args.pair c.in-Some.number c.raise.result c.in-Some.ensures.1.raised c.raise.ensures in
    let made = c.in_ok-line.ensures c.raise.result c.raise.ensures in
    let ends = rw c.in-Some-2.is at made in
    subst (λ (a : OpId). slice_get c.write_raise.new.draft.1 c.in-Some-2.line ≡ Some (a, c.args.pair.1)) (sym c.last_counted-last.ensures)
    (subst (λ (b : OpId). slice_get c.write_raise.new.draft.1 c.in-Some-2.line ≡ Some (last_of c.raise.result, b)) gives.0 ends.gives)

pub returns : goal.returns
returns c =
    let made = c.in_ok-line.ensures c.raise.result c.raise.ensures in
    let ends = rw c.in-Some-2.is at made in
    ends-reached c.args.order.now c.args.op 100000 2 99998 c.args.pair c.write_raise.new.draft c.reach_back.new.self c.in-Some-2.line _
    (last_of c.raise.result, c.raise.result.op) (omega arith) ends c.in_ok-reach_back.ensures.line (c.in_ok-reach_back.ensures.last ends.last)

use Rattle.std.proofs.Common.{◌≡◌, ◌≤◌, ap, sym, subst, ◌∙◌}
use Rattle.std.specs.Prelude.{Some, slice_get}
use Rattle.model_history.specs.declared.op_id.OpId.{OpId}
use Rattle.model_history.specs.History.{IsOp}
use Rattle.order_memory.specs.Steps.Indexed.{IsSourcePast}
use Rattle.pattern_search.proofs.DraftLines.{first-line, first-listed, first-session, first-up_to}
use Rattle.pattern_search.proofs.RaisedPairs.{inside-of_history}
use Rattle.pattern_search.proofs.search.drafts.Draft.line_of.Goals as goal

pub listed-requires : goal.listed-requires
listed-requires c =
    let found = c.in-Some.ensures in
    first-listed c.args.order.now c.args.op c.args.reasons.now c.args.pair c.in-Some.number found.0 found.1 c.args.written.now c.args.self.now.1 c.requires.written

pub reach_back-requires-clause-session : goal.reach_back-requires-clause-session
reach_back-requires-clause-session c =
    let found = c.in-Some.ensures in
    first-session c.args.order.now c.args.op c.args.reasons.now c.args.pair c.in-Some.number found.0 found.1 c.args.written.now c.args.self.now.1 c.requires.written
    c.raise.result c.listed.result c.raise.ensures c.listed.ensures
    ∙ ap (λ (a : OpId). a.session) (sym c.last_counted-last.ensures)

pub reach_back-requires-clause-up_to : goal.reach_back-requires-clause-up_to
reach_back-requires-clause-up_to c =
    let found = c.in-Some.ensures in
    subst (λ (a : OpId). c.args.pair.0.index ≤ a.index) (sym c.last_counted-last.ensures)
    (first-up_to c.args.order.now c.args.op c.args.reasons.now c.args.pair c.in-Some.number found.0 found.1 c.args.written.now c.args.self.now.1 c.requires.written
    c.raise.result c.listed.result c.raise.ensures c.listed.ensures)

pub reach_back-requires-clause-is_op : goal.reach_back-requires-clause-is_op
reach_back-requires-clause-is_op c =
    let past = (c.requires.grounded.each c.in-Some.number c.raise.result c.raise.ensures).past in
    subst (λ (a : OpId). IsOp c.args.order.now a) (sym c.last_counted-last.ensures) (inside-of_history c.args.order.now c.args.op _ past)

pub reach_back-requires-clause-past : goal.reach_back-requires-clause-past
reach_back-requires-clause-past c =
    let past = (c.requires.grounded.each c.in-Some.number c.raise.result c.raise.ensures).past in
    subst (λ (a : OpId). IsSourcePast c.args.order.now c.args.op a) (sym c.last_counted-last.ensures) past

pub reach_back-requires-clause-given : goal.reach_back-requires-clause-given
reach_back-requires-clause-given c =
    let found = c.in-Some.ensures in
    subst (λ (a : OpId). slice_get c.args.self.now.1 c.listed.result ≡ Some (a, c.args.pair.1)) (sym c.last_counted-last.ensures)
    (first-line c.args.order.now c.args.op c.args.reasons.now c.args.pair c.in-Some.number found.0 found.1 c.args.written.now c.args.self.now.1 c.requires.written
    c.raise.result c.listed.result c.raise.ensures c.listed.ensures)

pub push_causal-requires-clause-draft : goal.push_causal-requires-clause-draft
push_causal-requires-clause-draft c = c.requires.draft

pub push_causal-requires-clause-apart : goal.push_causal-requires-clause-apart
push_causal-requires-clause-apart c = c.in-None.ensures.0

pub push_causal-requires-clause-before : goal.push_causal-requires-clause-before
push_causal-requires-clause-before c = c.in-None.ensures.1

pub push_causal-requires-clause-past : goal.push_causal-requires-clause-past
push_causal-requires-clause-past c = c.requires.premise.past

pub reach_back-requires-clause-draft : goal.reach_back-requires-clause-draft
reach_back-requires-clause-draft c = c.requires.draft

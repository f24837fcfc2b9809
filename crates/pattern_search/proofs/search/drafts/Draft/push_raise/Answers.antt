use Rattle.std.proofs.Common.{length, sym, subst, arith}
use Rattle.std.specs.Prelude.{IfOk}
use Rattle.model_history.specs.declared.op_id.OpId.{OpId}
use Rattle.order_memory.specs.Relations.{AreRivalWrites}
use Rattle.pattern_search.specs.Steps.Drafts.{EndsWithin, IsWritten}
use Rattle.pattern_search.specs.Steps.Reasons.{IsPremise}
use Rattle.pattern_search.proofs.DraftLines.{ends-more, within-more, written-kept}
use Rattle.pattern_search.proofs.NeededRaises.{read-rests, through-rests}
use Rattle.pattern_search.proofs.RaisedPairs.{grounded-premises, grounded-read}
use Rattle.pattern_search.proofs.SearchedLaws.{ok-weaker}
use Rattle.pattern_search.proofs.search.drafts.Draft.push_raise.Goals as goal

pub line_of-requires-clause-premise : goal.line_of-requires-clause-premise
line_of-requires-clause-premise c =
    let h = c.args.order.now in
    let raises = c.args.reasons.now in
    let all = grounded-premises h c.args.op raises c.requires.grounded c.requires.stands.0 c.args.raise.now c.requires.stands.1 in
    subst (λ (a : OpId). IsPremise h c.args.op raises (length raises) (a, c.in-Through.middle)) (sym c.last_counted-last.ensures)
    (through-rests (IsPremise h c.args.op raises (length raises)) c.args.raise.now c.in-Through.middle c.in-Through.is all).0

pub line_of-requires-in-Through-clause-premise : goal.line_of-requires-in-Through-clause-premise
line_of-requires-in-Through-clause-premise c =
    let h = c.args.order.now in
    let raises = c.args.reasons.now in
    let all = grounded-premises h c.args.op raises c.requires.grounded c.requires.stands.0 c.args.raise.now c.requires.stands.1 in
    (through-rests (IsPremise h c.args.op raises (length raises)) c.args.raise.now c.in-Through.middle c.in-Through.is all).1

pub line_of-requires-in-Through-clause-written : goal.line_of-requires-in-Through-clause-written
line_of-requires-in-Through-clause-written c =
    let h = c.args.order.now in
    let raises = c.args.reasons.now in
    let was = (through-rests (IsWritten h raises c.args.written.now c.args.self.now.1) c.args.raise.now c.in-Through.middle c.in-Through.is c.requires.written).1 in
    written-kept h c.args.op raises c.args.written.now c.args.self.now.1 c.line_of.new.self.1 c.in_ok-first-in-Through.ensures.kept
    (c.in-Through.middle, c.args.raise.now.op) was

pub line_of-requires-in-Read-clause-premise : goal.line_of-requires-in-Read-clause-premise
line_of-requires-in-Read-clause-premise c =
    let h = c.args.order.now in
    let raises = c.args.reasons.now in
    let all = grounded-premises h c.args.op raises c.requires.grounded c.requires.stands.0 c.args.raise.now c.requires.stands.1 in
    subst (λ (a : OpId). IsPremise h c.args.op raises (length raises) (a, c.in-Read.read)) (sym c.last_counted-last.ensures)
    (read-rests (IsPremise h c.args.op raises (length raises)) c.args.raise.now c.in-Read.read c.in-Read.is all)

pub returns-in_ok-second-in-Through : goal.returns-in_ok-second-in-Through
returns-in_ok-second-in-Through c =
    let h = c.args.order.now in
    let o = c.args.op in
    let last = c.last_counted-last.result in
    let b = c.args.raise.now.op in
    let m = c.in-Through.middle in
    let first = c.in_ok-first-in-Through.ensures in
    let second = c.in_ok-second-in-Through.ensures in
    subst (λ (a : OpId). IfOk c.push.result (EndsWithin h o 5 (a, b) c.args.self.now c.push.new.self)) c.last_counted-last.ensures
    (ok-weaker c.push.result (EndsWithin h o 1 (last, b) c.line_of-in-Through.new.self c.push.new.self) (EndsWithin h o 5 (last, b) c.args.self.now c.push.new.self)
    (λ n ends. ends-more h o 4 1 5 (m, b) (last, b) c.args.self.now c.line_of-in-Through.new.self c.push.new.self c.in_ok-second-in-Through.second n (omega arith)
    (within-more h o 2 2 (last, m) (m, b) c.args.self.now c.line_of.new.self c.line_of-in-Through.new.self c.in_ok-first-in-Through.first c.in_ok-second-in-Through.second first second) ends)
    (c.push.ensures h o second.draft (m, second.kept c.in_ok-first-in-Through.first (last, m) first.gives, second.gives)))

pub returns-in_ok-before-in-Read : goal.returns-in_ok-before-in-Read
returns-in_ok-before-in-Read c =
    let h = c.args.order.now in
    let o = c.args.op in
    let last = c.last_counted-last.result in
    let b = c.args.raise.now.op in
    let r = c.in-Read.read in
    let before = c.in_ok-before-in-Read.ensures in
    let rule = grounded-read h o c.args.reasons.now c.requires.grounded c.requires.stands.0 c.args.raise.now c.requires.stands.1 r c.in-Read.is in
    subst (λ (a : OpId). IfOk c.push-in-Read.result (EndsWithin h o 5 (a, b) c.args.self.now c.push-in-Read.new.self)) c.last_counted-last.ensures
    (ok-weaker c.push-in-Read.result (EndsWithin h o 1 (last, b) c.line_of-in-Read.new.self c.push-in-Read.new.self) (EndsWithin h o 5 (last, b) c.args.self.now c.push-in-Read.new.self)
    (λ n ends. ends-more h o 2 1 5 (last, r) (last, b) c.args.self.now c.line_of-in-Read.new.self c.push-in-Read.new.self c.in_ok-before-in-Read.before n (omega arith) before ends)
    (c.push-in-Read.ensures h o before.draft (record {
      before_read = before.gives;
      of_session = rule.0;
      reads = rule.1;
      rivals = subst (λ (a : OpId). AreRivalWrites h a b) (sym c.last_counted-last.ensures) rule.2;
    })))

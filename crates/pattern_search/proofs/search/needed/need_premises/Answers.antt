use Rattle.std.proofs.Common.{sym, subst, ◌∙◌}
use Rattle.std.proofs.lemmas.Option.{slice_get_within}
use Rattle.model_history.specs.declared.op_id.OpId.{OpId}
use Rattle.order_memory.specs.declared.growing_order.Cause.{Cause}
use Rattle.pattern_search.specs.Steps.Reasons.{IsBefore, IsMarked, IsPremise, RestsOn, last_of}
use Rattle.pattern_search.proofs.NeededRaises.{marked-more, marks-more}
use Rattle.pattern_search.proofs.search.needed.need_premises.Goals as goal

pub returns-in-Through-clause-marked : goal.returns-in-Through-clause-marked
returns-in-Through-clause-marked c =
    let h = c.args.order.now in
    let raises = c.args.reasons.now in
    let m = c.in-Through.middle in
    let needed = c.need-in-Through.new.needed.items in
    let first = marked-more h raises c.args.number c.need.new.needed.items needed c.need-in-Through.ensures.marks (c.last_counted-last.result, m) c.need.ensures.marked in
    rw c.in-Through.is (
      subst (λ (a : OpId). IsMarked h raises needed (a, m)) c.last_counted-last.ensures first,
      c.need-in-Through.ensures.marked,
    )

pub need-requires-clause-before : goal.need-requires-clause-before
need-requires-clause-before c =
    let h = c.args.order.now in
    let raises = c.args.reasons.now in
    let n = c.args.number in
    let raise = c.args.raise.now in
    let o = c.requires.grounded.0 in
    let premises = (c.requires.grounded.1.each n raise c.requires.stands).premises in
    let here = subst (λ (cause : Cause). RestsOn (IsPremise h o raises n) (last_of raise) raise.op cause) c.in-Through.is premises in
    subst (λ (a : OpId). IsBefore h raises n (a, c.in-Through.middle)) (sym c.last_counted-last.ensures) here.0.before

pub need-requires-in-Through-clause-before : goal.need-requires-in-Through-clause-before
need-requires-in-Through-clause-before c =
    let h = c.args.order.now in
    let raises = c.args.reasons.now in
    let n = c.args.number in
    let raise = c.args.raise.now in
    let o = c.requires.grounded.0 in
    let premises = (c.requires.grounded.1.each n raise c.requires.stands).premises in
    let here = subst (λ (cause : Cause). RestsOn (IsPremise h o raises n) (last_of raise) raise.op cause) c.in-Through.is premises in
    here.1.before

pub need-requires-in-Read-clause-before : goal.need-requires-in-Read-clause-before
need-requires-in-Read-clause-before c =
    let h = c.args.order.now in
    let raises = c.args.reasons.now in
    let n = c.args.number in
    let raise = c.args.raise.now in
    let o = c.requires.grounded.0 in
    let premises = (c.requires.grounded.1.each n raise c.requires.stands).premises in
    let here = subst (λ (cause : Cause). RestsOn (IsPremise h o raises n) (last_of raise) raise.op cause) c.in-Read.is premises in
    subst (λ (a : OpId). IsBefore h raises n (a, c.in-Read.read)) (sym c.last_counted-last.ensures) here.before

pub need-requires-clause-exists : goal.need-requires-clause-exists
need-requires-clause-exists c = slice_get_within c.args.reasons.now c.args.number c.args.raise.now c.requires.stands

pub need-requires-in-Through-clause-exists : goal.need-requires-in-Through-clause-exists
need-requires-in-Through-clause-exists c = slice_get_within c.args.reasons.now c.args.number c.args.raise.now c.requires.stands

pub need-requires-in-Read-clause-exists : goal.need-requires-in-Read-clause-exists
need-requires-in-Read-clause-exists c = slice_get_within c.args.reasons.now c.args.number c.args.raise.now c.requires.stands

pub need-requires-in-Through-clause-size : goal.need-requires-in-Through-clause-size
need-requires-in-Through-clause-size c = c.need.ensures.marks.size ∙ c.requires.size

pub returns-in-Through-clause-marks : goal.returns-in-Through-clause-marks
returns-in-Through-clause-marks c =
    marks-more c.args.number c.args.needed.now.items c.need.new.needed.items c.need-in-Through.new.needed.items c.need.ensures.marks c.need-in-Through.ensures.marks

pub returns-in-Read-clause-marked : goal.returns-in-Read-clause-marked
returns-in-Read-clause-marked c =
    let needed = c.need-in-Read.new.needed.items in
    rw c.in-Read.is (subst (λ (a : OpId). IsMarked c.args.order.now c.args.reasons.now needed (a, c.in-Read.read)) c.last_counted-last.ensures
    c.need-in-Read.ensures.marked)

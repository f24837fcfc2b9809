use Rattle.std.specs.Prelude.{◌<◌, ◌∷◌, ◌++◌, ℕ, List, [], Some, None, length}
use Rattle.std.proofs.Common.{arith, ap, sym, ◌∙◌, subst}
use Rattle.std.proofs.lemmas.List.{get_or_read}
use Rattle.std.proofs.lemmas.Option.{get_or_from_slice_get}
use Rattle.model_history.specs.declared.op_id.OpId.{OpId}
use Rattle.show_faults.specs.declared.counts.SessionFaults.{SessionFaults}
use Rattle.show_faults.specs.Found.{IsLastRow}
use Rattle.show_faults.specs.Tallies.{AreSessionCounts}
use Rattle.show_faults.proofs.Tallying.{rows-pushed, rows-raised}
use Rattle.show_faults.proofs.tally.add_to_session.Goals as goal

pub returns-in-Some : goal.returns-in-Some
returns-in-Some c all late are =
    let rows : List SessionFaults = c.args.rows.now.items in
    let place : ℕ = c.in-Some.place in
    let of = ap (λ (o : OpId). o.session) c.read-session.ensures in
    let found = subst (λ (xs : List SessionFaults). IsLastRow xs c.read-session.result.session (Some place)) c.deref.ensures.value
    c.in-Some.ensures in
    let end = found.1 in
    let inside : place < length rows = omega arith in
    let same = get_or_read rows _ _ inside c.index.ensures found.0 ∙ get_or_from_slice_get rows place found.0 found.0 found.2 in
    rows-raised all c.args.fault rows are place c.index.result.now c.with.result end
    (found.2 ∙ ap (λ (r : SessionFaults). Some r) (sym same)) (ap (λ (r : SessionFaults). r.session) same ∙ found.3 ∙ of)
    c.with.ensures.session c.with.ensures.counts

pub returns-in_ok-push-in-None : goal.returns-in_ok-push-in-None
returns-in_ok-push-in-None c all late are =
    let rows : List SessionFaults = c.args.rows.now.items in
    let of = ap (λ (o : OpId). o.session) c.read-session.ensures in
    let none = subst (λ (xs : List SessionFaults). IsLastRow xs c.read-session.result.session None) c.deref.ensures.value
    c.in-None.ensures in
    subst (AreSessionCounts (all ++ c.args.fault ∷ [])) (sym c.in_ok-push-in-None.ensures.items)
    (rows-pushed all c.args.fault rows are late (λ j row end at same. none j row end at (same ∙ sym of)) c.of.result
    (c.of.ensures.session ∙ of) c.of.ensures.counts)

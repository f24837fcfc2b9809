use Rattle.std.proofs.Common.{ap, arith, sym, ◌∙◌, subst}
use Rattle.std.specs.Prelude.{Some}
use Rattle.live_cut_plan.proofs.ListPlaces.{read_at}
use Rattle.live_seals.specs.Steps.Tables.{IsReturnFound, is_note}
use Rattle.live_seals.proofs.Sealings.{told_found, told_place, told_within}
use Rattle.live_seals.proofs.sealing_lane.return_note.Goals as goal

pub returns-then-i-best-clause-found : goal.returns-then-i-best-clause-found
returns-then-i-best-clause-found g c =
    let at = read_at c.args.receipts.now c.args.best.at c.index-receipts-best.result (told_place c.args.receipts.now c.args.lane.now c.args.best c.requires.receipts c.args.i c.if-i-best.true) c.index-receipts-best.is in
    told_found c.args.receipts.now c.args.lane.now c.args.best c.requires.receipts c.args.i c.if-i-best.true c.index-receipts-best.result at c.told.result.cell c.told.result.known c.told.ensures.cell c.told.ensures.operation

pub returns-in-Some-clause-found : goal.returns-in-Some-clause-found
returns-in-Some-clause-found g c = subst (λ n. IsReturnFound c.args.lane.now c.args.i n) (sym c.again.ensures) (c.requires.table.returned c.args.i c.in-Some.found (c.found_return.ensures ∙ ap Some c.in-Some.is))

pub returns-then-i-best-clause-looked : goal.returns-then-i-best-clause-looked
returns-then-i-best-clause-looked g c = λ past. let less = c.if-i-best.true in absurd (omega (arith, past, less))

pub returns-in-None-clause-looked : goal.returns-in-None-clause-looked
returns-in-None-clause-looked g c = λ past. ap is_note (c.found_return.ensures ∙ ap Some c.in-None.is)

pub returns-in-None-clause-told : goal.returns-in-None-clause-told
returns-in-None-clause-told g c = λ less. let past = c.if-i-best.false in absurd (omega (arith, past, less))

pub returns-in-Some-clause-looked : goal.returns-in-Some-clause-looked
returns-in-Some-clause-looked g c = λ past. ap is_note (c.found_return.ensures ∙ ap Some c.in-Some.is)

pub bounds-receipts-best : goal.bounds-receipts-best
bounds-receipts-best g c = told_place c.args.receipts.now c.args.lane.now c.args.best c.requires.receipts c.args.i c.if-i-best.true

pub told-requires : goal.told-requires
told-requires g c =
    told_within c.args.receipts.now c.args.lane.now c.args.best c.requires.receipts c.args.i c.if-i-best.true c.index-receipts-best.result
    (read_at c.args.receipts.now c.args.best.at c.index-receipts-best.result (told_place c.args.receipts.now c.args.lane.now c.args.best c.requires.receipts c.args.i c.if-i-best.true) c.index-receipts-best.is)

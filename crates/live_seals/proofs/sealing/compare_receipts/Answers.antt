use Rattle.std.proofs.Common.{◌<◌, ◌≤◌, rules, arith, sym, ◌∙◌, ap, subst, length}
use Rattle.std.specs.Prelude.{slice_get}
use Rattle.std.proofs.lemmas.Option.{slice_get_within}
use Rattle.live_cut_plan.proofs.ListPlaces.{read_at}
use Rattle.live_seals.specs.Steps.Comparing.{SharesCells}
use Rattle.live_seals.proofs.TableLemmas.{some_same}
use Rattle.live_seals.proofs.Histories.{shown_more}
use Rattle.live_seals.proofs.sealing.compare_receipts.Goals as goal

pub compare_receipt-requires : goal.compare_receipt-requires
compare_receipt-requires g c =
    let at = read_at c.args.receipts.now c.loop-receipt.receipt-index c.receipt-item.result c.loop-receipt-test.true c.receipt-item.is in
    let q = c.requires c.loop-receipt.receipt-index c.receipt-item.result at in
    let lane = ap (λ o. o.session) c.op.ensures in
    let place = subst (λ n. n < length c.args.lanes.now.items) (sym lane) (slice_get_within c.args.lanes.now.items c.receipt-item.result.lane q.0 q.1) in
    subst (λ l. SharesCells c.receipt-item.result l) (some_same q.0 c.index.result.now (sym q.1 ∙ (ap (slice_get c.args.lanes.now.items) (sym lane) ∙ read_at c.args.lanes.now.items c.op.result.session c.index.result.now place (rw c.session_place.ensures at c.index.ensures)))) q.2

pub loop-receipt-preserved : goal.loop-receipt-preserved
loop-receipt-preserved g c =
    let at = read_at c.args.receipts.now c.loop-receipt.receipt-index c.receipt-item.result c.loop-receipt-test.true c.receipt-item.is in
    let q = c.requires c.loop-receipt.receipt-index c.receipt-item.result at in
    let lane = ap (λ o. o.session) c.op.ensures in
    let place = subst (λ n. n < length c.args.lanes.now.items) (sym lane) (slice_get_within c.args.lanes.now.items c.receipt-item.result.lane q.0 q.1) in
    shown_more c.args.receipts.now c.args.lanes.now.items c.loop-receipt.receipt-index c.receipt-item.result c.index.result.now at (ap (slice_get c.args.lanes.now.items) (sym lane) ∙ read_at c.args.lanes.now.items c.op.result.session c.index.result.now place (rw c.session_place.ensures at c.index.ensures)) c.compare_receipt.ensures c.loop-receipt.invariant

pub returns : goal.returns
returns g c = λ j r e.
    let w : j < length c.args.receipts.now = slice_get_within c.args.receipts.now j r e in
    let all : length c.args.receipts.now ≤ c.loop-receipt.receipt-index = search (rules, c.loop-receipt-test.false) in
    c.loop-receipt.invariant j r (omega arith) e

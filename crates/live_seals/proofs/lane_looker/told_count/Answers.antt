use Rattle.std.proofs.Common.{◌≤◌, arith, rules, sym, ◌∙◌, subst, length}
use Rattle.std.proofs.lemmas.Option.{slice_get_within}
use Rattle.live_cut_plan.proofs.ListPlaces.{read_at}
use Rattle.live_seals.proofs.TableLemmas.{count_most, count_reached, count_within, best_place, best_some, some_same}
use Rattle.live_recorder.specs.Lanes.{IsLane}
use Rattle.live_seals.proofs.lane_looker.told_count.Goals as goal

pub overflow_cast-result : goal.overflow_cast-result
overflow_cast-result g c =
    let some = best_some c.longest-best.result c.if-best-eq0.false in
    let at = read_at c.args.receipts.now c.longest-best.result.at c.index-receipts-best.result (best_place c.args.receipts.now c.args.s c.longest-best.result c.longest-best.ensures some) c.index-receipts-best.is in
    let h = count_within c.args.lanes.now c.args.receipts.now c.args.s c.len.result c.longest-best.result c.requires.receipts c.longest-best.ensures some c.index-receipts-best.result at c.len.ensures.operations c.len.ensures.cells c.lane.result.now c.places-places.ensures.lane c.lane.ensures in
    let k : c.len.result ≤ length c.lane.result.now.calls = h in let short : length c.lane.result.now.calls ≤ 256 = c.places-places.ensures.lane.short in search rules

pub returns-clause-most : goal.returns-clause-most
returns-clause-most g c =
    let some = best_some c.longest-best.result c.if-best-eq0.false in
    let at = read_at c.args.receipts.now c.longest-best.result.at c.index-receipts-best.result (best_place c.args.receipts.now c.args.s c.longest-best.result c.longest-best.ensures some) c.index-receipts-best.is in
    count_most c.args.lanes.now c.args.receipts.now c.args.s c.len.result c.longest-best.result c.requires.receipts c.longest-best.ensures some c.index-receipts-best.result at c.len.ensures.operations

pub returns-clause-reached : goal.returns-clause-reached
returns-clause-reached g c =
    let some = best_some c.longest-best.result c.if-best-eq0.false in
    let at = read_at c.args.receipts.now c.longest-best.result.at c.index-receipts-best.result (best_place c.args.receipts.now c.args.s c.longest-best.result c.longest-best.ensures some) c.index-receipts-best.is in
    λ h. count_reached c.args.lanes.now c.args.receipts.now c.args.s c.len.result c.longest-best.result c.requires.receipts c.longest-best.ensures some c.index-receipts-best.result at c.len.ensures.operations

pub returns-clause-within : goal.returns-clause-within
returns-clause-within g c =
    let some = best_some c.longest-best.result c.if-best-eq0.false in
    let at = read_at c.args.receipts.now c.longest-best.result.at c.index-receipts-best.result (best_place c.args.receipts.now c.args.s c.longest-best.result c.longest-best.ensures some) c.index-receipts-best.is in
    λ lane e. count_within c.args.lanes.now c.args.receipts.now c.args.s c.len.result c.longest-best.result c.requires.receipts c.longest-best.ensures some c.index-receipts-best.result at c.len.ensures.operations c.len.ensures.cells lane (subst (λ l. IsLane l) (some_same c.lane.result.now lane (sym c.lane.ensures ∙ e)) c.places-places.ensures.lane) e

pub returns-then-best-eq0-clause-most : goal.returns-then-best-eq0-clause-most
returns-then-best-eq0-clause-most g c = λ j r at of. subst (λ n. length r.operations ≤ n) c.if-best-eq0.true (c.longest-best.ensures.most j r (slice_get_within c.args.receipts.now j r at) at of)

pub returns-then-best-eq0-clause-within : goal.returns-then-best-eq0-clause-within
returns-then-best-eq0-clause-within g c = λ lane at. omega arith

pub returns-then-best-eq0-clause-reached : goal.returns-then-best-eq0-clause-reached
returns-then-best-eq0-clause-reached g c = λ some. absurd (omega (arith, some))

pub bounds-receipts-best : goal.bounds-receipts-best
bounds-receipts-best g c =
    best_place c.args.receipts.now c.args.s c.longest-best.result c.longest-best.ensures (best_some c.longest-best.result c.if-best-eq0.false)

use Rattle.std.proofs.Common.{◌≤◌, length, arith}
use Rattle.std.proofs.lemmas.Option.{slice_get_within, slice_get-get_or}
use Rattle.model_history.specs.declared.op_id.OpId.{OpId}
use Rattle.pattern_search.specs.Steps.Routes.{AreWritesBefore}
use Rattle.order_memory.proofs.Elements.{each-more, listed-at}
use Rattle.pattern_search.proofs.ReadPatterns.{past-from_before, no-read, read-found}
use Rattle.pattern_search.proofs.search.reads.overwritten_read.Goals as goal

pub returns-in-Some-clause-found : goal.returns-in-Some-clause-found
returns-in-Some-clause-found c =
    let at = slice_get-get_or c.reads-reads.result.now c.loop-read.read-index _ c.loop-read-test.true in
    let known = c.reads-reads.ensures.reads.no_other _ (listed-at c.reads-reads.result.now c.loop-read.read-index _ at) in
    let found = c.in-Some.ensures in
    let above = past-from_before c.args.order.now c.in-Some.writes.0 c.in-Some.writes.1 found.behind in
    let below = past-from_before c.args.order.now c.in-Some.writes.1 _ found.before in
    read-found c.args.order.now _ known c.in-Some.writes.0 c.in-Some.writes.1 found _ _ (c.in_ok-above.ensures above) (c.in_ok-below.ensures below)

pub loop-read-preserved : goal.loop-read-preserved
loop-read-preserved c i k a b below at =
    each-more (λ k. (a b : OpId) → ¬ AreWritesBefore c.args.order.now k a b) c.reads-reads.result.now c.loop-read.read-index _
    (λ j l less there u v. c.loop-read.invariant j l u v less there) c.loop-read-test.true c.in_default.ensures i k below at a b

pub returns-clause-none : goal.returns-clause-none
returns-clause-none c = λ distinct.
    let ended : length c.reads-reads.result.now ≤ c.loop-read.read-index = omega arith in
    no-read c.args.order.now c.reads-reads.result.now c.reads-reads.ensures.reads distinct
    (λ i k a b at. let inside = slice_get_within c.reads-reads.result.now i k at in c.loop-read.invariant i k a b (omega arith) at)

use Rattle.std.proofs.Common.{◌≤◌, length, arith}
use Rattle.std.proofs.lemmas.Option.{slice_get_within, slice_get-get_or}
use Rattle.model_history.specs.declared.op_id.OpId.{OpId}
use Rattle.pattern_search.specs.Steps.Routes.{IsWriteBefore}
use Rattle.order_memory.proofs.Elements.{each-more, listed-at}
use Rattle.pattern_search.proofs.ReadPatterns.{past-from_before, no-start, start-found}
use Rattle.pattern_search.proofs.search.reads.overwritten_start.Goals as goal

pub returns-in-Some-clause-found : goal.returns-in-Some-clause-found
returns-in-Some-clause-found c =
    let at = slice_get-get_or c.reads-reads.result.now c.loop-read.read-index _ c.loop-read-test.true in
    let known = c.reads-reads.ensures.reads.no_other _ (listed-at c.reads-reads.result.now c.loop-read.read-index _ at) in
    let found = c.in-Some.ensures in
    let past = past-from_before c.args.order.now c.in-Some.write _ found.before in
    start-found c.args.order.now c.reads-reads.ensures.sourced _ known c.in-Some.write found _ (c.in_ok-path_between.ensures past)

pub loop-read-preserved : goal.loop-read-preserved
loop-read-preserved c i k w below at =
    each-more (λ k. (w : OpId) → ¬ IsWriteBefore c.args.order.now k w) c.reads-reads.result.now c.loop-read.read-index _
    (λ j l less there v. c.loop-read.invariant j l v less there) c.loop-read-test.true c.in_default.ensures i k below at w

pub returns-clause-none : goal.returns-clause-none
returns-clause-none c = λ distinct.
    let ended : length c.reads-reads.result.now ≤ c.loop-read.read-index = omega arith in
    no-start c.args.order.now c.reads-reads.result.now c.reads-reads.ensures.reads distinct
    (λ i k w at. let inside = slice_get_within c.reads-reads.result.now i k at in c.loop-read.invariant i k w (omega arith) at)

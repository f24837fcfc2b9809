use Rattle.std.proofs.Common.{◌≤◌, length, arith}
use Rattle.std.proofs.lemmas.Option.{slice_get_within, slice_get-get_or}
use Rattle.model_history.specs.declared.op_id.OpId.{OpId}
use Rattle.pattern_search.specs.Steps.Relations.{IsWriteHappened}
use Rattle.pattern_search.proofs.HappenedReads.{happened-start, no-happened}
use Rattle.order_memory.proofs.Elements.{each-more, listed-at}
use Rattle.pattern_search.proofs.search.happened.overwritten_start_in.Goals as goal

pub returns-in-Some : goal.returns-in-Some
returns-in-Some c =
    let at = slice_get-get_or c.reads-reads.result.now c.loop-read.read-index _ c.loop-read-test.true in
    let known = c.reads-reads.ensures.reads.no_other _ (listed-at c.reads-reads.result.now c.loop-read.read-index _ at) in
    happened-start c.args.order.now c.args.relation.now c.requires c.reads-reads.ensures.sourced _ known c.in-Some.write c.in-Some.ensures

pub loop-read-preserved : goal.loop-read-preserved
loop-read-preserved c i k w below at =
    each-more (λ k. (w : OpId) → ¬ IsWriteHappened c.args.order.now c.args.relation.now.0 k w) c.reads-reads.result.now c.loop-read.read-index _
    (λ j l less there v. c.loop-read.invariant j l v less there) c.loop-read-test.true c.in_default.ensures i k below at w

pub returns : goal.returns
returns c =
    let ended : length c.reads-reads.result.now ≤ c.loop-read.read-index = omega arith in
    no-happened c.args.order.now c.args.relation.now c.requires c.reads-reads.result.now c.reads-reads.ensures.reads
    (λ i k w at. let inside = slice_get_within c.reads-reads.result.now i k at in c.loop-read.invariant i k w (omega arith) at)

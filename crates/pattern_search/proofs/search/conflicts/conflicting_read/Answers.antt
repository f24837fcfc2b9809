use Rattle.std.proofs.Common.{◌≤◌, length, arith}
use Rattle.std.proofs.lemmas.Option.{slice_get-get_or}
use Rattle.pattern_search.specs.Steps.Conflicts.{IsLastConflict}
use Rattle.pattern_search.proofs.ConflictLinks.{conflict-by, no_conflict}
use Rattle.order_memory.proofs.Elements.{each-more, listed-at}
use Rattle.pattern_search.proofs.search.conflicts.conflicting_read.Goals as goal

pub returns-then-are_in_conflict : goal.returns-then-are_in_conflict
returns-then-are_in_conflict c =
    let at = slice_get-get_or c.reads-read-items.result.now c.loop-read.read-index _ c.loop-read-test.true in
    let known = c.reads-read-items.ensures.reads.no_other _ (listed-at c.reads-read-items.result.now c.loop-read.read-index _ at) in
    conflict-by c.args.order.now c.args.write c.args.rival _ known (c.are_in_conflict.ensures.0 c.if-are_in_conflict.true)

pub loop-read-preserved : goal.loop-read-preserved
loop-read-preserved c =
    each-more (λ k. ¬ IsLastConflict c.args.order.now c.args.write c.args.rival k) c.reads-read-items.result.now c.loop-read.read-index _
    c.loop-read.invariant c.loop-read-test.true
    (λ conflict. let yes = c.are_in_conflict.ensures.1 conflict in let no = c.if-are_in_conflict.false in absurd cc)

pub returns : goal.returns
returns c =
    let ended : length c.reads-read-items.result.now ≤ c.loop-read.read-index = omega arith in
    no_conflict c.args.order.now c.args.write c.args.rival c.reads-read-items.result.now c.reads-read-items.ensures.reads c.loop-read.read-index ended
    c.loop-read.invariant

use Rattle.std.proofs.Common.{◌≤◌, length, arith, refl}
use Rattle.std.proofs.lemmas.Option.{slice_get-get_or}
use Rattle.order_memory.specs.Steps.Indexed.{LacksItsSource}
use Rattle.order_memory.proofs.Elements.{each-more, listed-at}
use Rattle.order_memory.proofs.IndexedLaws.{its-missing, none-missing}
use Rattle.order_memory.proofs.known_reads.lacks_source.Goals as goal

pub returns-then-lacks_its_source : goal.returns-then-lacks_its_source
returns-then-lacks_its_source c =
    let at = slice_get-get_or c.args.reads.now c.loop-read.read-index _ c.loop-read-test.true in
    let known = c.requires.no_other _ (listed-at c.args.reads.now c.loop-read.read-index _ at) in
    let lacks = its-missing c.args.h.now _ known (c.lacks_its_source.ensures.0 c.if-lacks_its_source.true) in
    (λ _. lacks, λ _. refl)

pub loop-read-preserved : goal.loop-read-preserved
loop-read-preserved c =
    each-more (λ k. ¬ LacksItsSource c.args.h.now k) c.args.reads.now c.loop-read.read-index _ c.loop-read.invariant c.loop-read-test.true
    (λ lacks. let yes = c.lacks_its_source.ensures.1 lacks in let no = c.if-lacks_its_source.false in absurd cc)

pub returns : goal.returns
returns c =
    let ended : length c.args.reads.now ≤ c.loop-read.read-index = omega arith in
    let none = none-missing c.args.h.now c.args.reads.now c.requires c.loop-read.read-index ended c.loop-read.invariant in
    (λ yes. absurd cc, λ lacks. absurd (none lacks))

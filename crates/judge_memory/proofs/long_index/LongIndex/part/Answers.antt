use Rattle.std.proofs.Common.{subst}
use Rattle.judge_memory.specs.Steps.{many}
use Rattle.judge_memory.specs.Indexed.{Indexed}
use Rattle.judge_memory.specs.Lists.{ListsEach}
use Rattle.judge_memory.specs.Parts.{IsPart}
use Rattle.judge_memory.proofs.IndexedLaws.{part-below}
use Rattle.judge_memory.proofs.ListsLaws.{each-at}
use Rattle.judge_memory.proofs.long_index.LongIndex.part.Goals as goal

pub returns-clause-below : goal.returns-clause-below
returns-clause-below c =
    let lists = subst (λ (v : Indexed). ListsEach v.history (IsPart v.history) (many v.history) c.self.inside.parts.items)
    c.self.view_is c.self.invariant.each_part in
    λ w sourced. part-below c.args.self.now.history _ lists c.args.operation w _ c.requires c.index.ensures sourced

pub returns-clause-part : goal.returns-clause-part
returns-clause-part c =
    let lists = subst (λ (v : Indexed). ListsEach v.history (IsPart v.history) (many v.history) c.self.inside.parts.items)
    c.self.view_is c.self.invariant.each_part in
    λ o is_op at. each-at c.args.self.now.history (IsPart c.args.self.now.history) _ lists o c.args.operation _ is_op at c.index.ensures

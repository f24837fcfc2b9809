use Rattle.std.proofs.Common.{arith, subst, length, ◌+◌}
use Rattle.judge_memory.specs.Indexed.{Indexed}
use Rattle.judge_memory.specs.Lists.{ListsStarts}
use Rattle.judge_memory.proofs.IndexedLaws.{start-within}
use Rattle.judge_memory.proofs.long_index.LongIndex.end.Goals as goal

pub returns-clause-within : goal.returns-clause-within
returns-clause-within c =
    let starts = subst (λ (v : Indexed). ListsStarts v.history (length v.history.1) c.self.inside.starts.items)
    c.self.view_is c.self.invariant.each_start in
    let below = c.requires in
    start-within c.args.self.now.history _ starts (c.args.session + 1) _ (omega arith) c.index.ensures

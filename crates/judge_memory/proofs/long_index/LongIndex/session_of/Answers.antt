use Rattle.std.proofs.Common.{subst}
use Rattle.judge_memory.specs.Steps.{many}
use Rattle.judge_memory.specs.Indexed.{Indexed}
use Rattle.judge_memory.specs.Lists.{IsSessionOf, ListsEach}
use Rattle.judge_memory.proofs.IndexedLaws.{session-below}
use Rattle.judge_memory.proofs.ListsLaws.{each-at}
use Rattle.judge_memory.proofs.long_index.LongIndex.session_of.Goals as goal

pub returns-clause-below : goal.returns-clause-below
returns-clause-below c =
    let lists = subst (λ (v : Indexed). ListsEach v.history IsSessionOf (many v.history) c.self.inside.sessions.items)
    c.self.view_is c.self.invariant.each_session in
    session-below c.args.self.now.history _ lists c.args.operation _ c.requires c.index.ensures

pub returns-clause-session : goal.returns-clause-session
returns-clause-session c =
    let lists = subst (λ (v : Indexed). ListsEach v.history IsSessionOf (many v.history) c.self.inside.sessions.items)
    c.self.view_is c.self.invariant.each_session in
    λ o is_op at. each-at c.args.self.now.history IsSessionOf _ lists o c.args.operation _ is_op at c.index.ensures

use Rattle.std.specs.Prelude.{List, MatchOption}
use Rattle.std.proofs.Common.{subst, sym}
use Rattle.order_memory.specs.declared.writes.Write.{Write}
use Rattle.order_memory.specs.Memory.{MemoryHistory}
use Rattle.order_memory.specs.Steps.Indexed.{HasNoWriteBefore, IsLastWriteBefore}
use Rattle.order_memory.specs.Steps.Written.{AreByVariable, ListsWrites}
use Rattle.order_memory.proofs.IndexedLaws.{last-before}
use Rattle.order_memory.proofs.indexed.IndexedMemory.last_write_before.Goals as goal

pub last_write_before-requires : goal.last_write_before-requires
last_write_before-requires c = subst (λ (ws : List Write). AreByVariable ws) (sym c.deref.ensures.value) c.self.invariant.sorted_by_variable

pub returns : goal.returns
returns c =
    let lists = subst (λ (ws : List Write). ListsWrites c.self.inside.history.now ws) (sym c.deref.ensures.value) c.self.invariant.by_variable in
    subst (λ (h : MemoryHistory). MatchOption c.last_write_before.result (HasNoWriteBefore h c.args.key c.args.end) (IsLastWriteBefore h c.args.key c.args.end)) c.self.view_is
    (last-before c.self.inside.history.now c.deref.result.now lists c.args.key c.args.end c.last_write_before.result c.last_write_before.ensures.session c.last_write_before.ensures.last)

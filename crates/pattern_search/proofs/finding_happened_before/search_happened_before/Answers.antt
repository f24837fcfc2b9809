use Rattle.std.proofs.Common.{◌+◌, ◌≤◌, length, ap, ◌∙◌, arith}
use Rattle.order_memory.specs.HappenedBeforePatterns.{HasHBCycle, HasStartOverwrittenInHB}
use Rattle.order_memory.specs.Memory.{MemoryHistory}
use Rattle.pattern_search.specs.Steps.Relations.{HasNoCycleBefore, HasNoStartBefore}
use Rattle.pattern_search.proofs.SearchedLaws.{searched-all, searched-shown}
use Rattle.pattern_search.proofs.finding_happened_before.search_happened_before.Goals as goal

pub returns-then-is_pattern : goal.returns-then-is_pattern
returns-then-is_pattern c =
    let h = c.args.order.now in
    let s = c.loop-session.session + 1 in
    searched-shown h c.args.most (HasNoStartBefore h s) (HasNoCycleBefore h s) (¬ HasStartOverwrittenInHB h) (¬ HasHBCycle h)
    c.in_ok-searched.searched (c.is_pattern.ensures.0 c.if-is_pattern.true) c.in_ok-searched.ensures

pub returns : goal.returns
returns c =
    let h = c.args.order.now in
    let n = c.loop-session.session in
    let same = ap (λ (g : MemoryHistory). length g.1) (c.history.ensures ∙ c.memory.ensures) in
    let count = c.sessions-session-end.ensures.count in
    let past = c.loop-session-test.false in
    let ended : length h.1 ≤ n = omega arith in
    searched-all h c.args.most n ended c.loop-session.searched c.loop-session.invariant

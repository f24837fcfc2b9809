use Rattle.pattern_search.specs.Searches.{AreSearched}
use Rattle.pattern_search.specs.Steps.Relations.{HasNoCycleBefore, HasNoStartBefore}
use Rattle.pattern_search.proofs.finding_happened_before.search_happened_before.Given as goal

-- what the sessions so far come to
abbrev pub invariant-loop-session : goal.invariant-loop-session
invariant-loop-session l = AreSearched l.order l.most (HasNoStartBefore l.order l.session) (HasNoCycleBefore l.order l.session) l.searched

use Rattle.std.specs.Prelude.{IfNone, IfOk, IfSome}
use Rattle.std.proofs.Common.{subst}
use Rattle.order_memory.specs.Memory.{MemoryHistory}
use Rattle.cert_check.specs.declared.criterion.Criterion.TheVariants.{Cc}
use Rattle.pattern_check.specs.Kinds.{IsFreeOf}
use Rattle.pattern_check.specs.Patterns.{IsBadPattern, kind_of}
use Rattle.pattern_search.specs.FirstKinds.{ComesFirstOrLarge}
use Rattle.pattern_search.specs.Searches.{IsFreeOrLarge}
use Rattle.pattern_search.specs.Steps.Found.{IsFirstFound}
use Rattle.pattern_search.proofs.finding.find.Goals as goal

pub returns-clause-kind : goal.returns-clause-kind
returns-clause-kind c =
    subst (λ (h : MemoryHistory). IfOk c.find_in.result (λ found. IfSome found (λ pattern. ComesFirstOrLarge h c.args.criterion (kind_of pattern))))
    c.in_ok-memory.ensures c.find_in.ensures.kind

pub returns-clause-none : goal.returns-clause-none
returns-clause-none c =
    subst (λ (h : MemoryHistory). IfOk c.find_in.result (λ found. IfNone found (IsFreeOf h Cc))) c.in_ok-memory.ensures c.find_in.ensures.none

pub returns-clause-exact : goal.returns-clause-exact
returns-clause-exact c apart =
    subst (λ (h : MemoryHistory). IfOk c.find_in.result (λ found. IfNone found (IsFreeOf h c.args.criterion))) c.in_ok-memory.ensures
    (c.find_in.ensures.exact apart)

pub returns-clause-happened_before : goal.returns-clause-happened_before
returns-clause-happened_before c is =
    subst (λ (h : MemoryHistory). IfOk c.find_in.result (λ found. IfNone found (IsFreeOrLarge h))) c.in_ok-memory.ensures
    (c.find_in.ensures.happened_before is)

pub returns-clause-found : goal.returns-clause-found
returns-clause-found c =
    subst (λ (h : MemoryHistory). IfOk c.find_in.result (λ found. IfSome found (IsBadPattern h c.args.criterion))) c.in_ok-memory.ensures c.find_in.ensures.found

pub returns-clause-first : goal.returns-clause-first
returns-clause-first c =
    subst (λ (h : MemoryHistory). IfOk c.find_in.result (λ found. IfSome found (IsFirstFound h))) c.in_ok-memory.ensures c.find_in.ensures.first

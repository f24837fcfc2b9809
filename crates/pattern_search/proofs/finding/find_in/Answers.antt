use Rattle.std.specs.Prelude.{IfNone, IfOk, IfSome}
use Rattle.std.proofs.Common.{inl, subst}
use Rattle.order_memory.specs.Memory.{MemoryHistory}
use Rattle.cert_check.specs.declared.criterion.Criterion.TheVariants.{Cc}
use Rattle.pattern_check.specs.Kinds.{IsFreeOf}
use Rattle.pattern_check.specs.Patterns.{kind_of}
use Rattle.pattern_search.specs.FirstKinds.{ComesFirstOrLarge}
use Rattle.pattern_search.specs.Searches.{IsFreeOrLarge}
use Rattle.pattern_search.proofs.finding.find_in.Goals as goal

pub returns-in-Some-clause-kind : goal.returns-in-Some-clause-kind
returns-in-Some-clause-kind c =
    subst (λ (h : MemoryHistory). IfOk c.find_in_order.result (λ found. IfSome found (λ pattern. ComesFirstOrLarge h c.args.criterion (kind_of pattern))))
    c.in-Some.ensures.order c.find_in_order.ensures.kind

pub returns-in-Some-clause-none : goal.returns-in-Some-clause-none
returns-in-Some-clause-none c =
    subst (λ (h : MemoryHistory). IfOk c.find_in_order.result (λ found. IfNone found (IsFreeOf h Cc))) c.in-Some.ensures.order c.find_in_order.ensures.none

pub returns-in-Some-clause-exact : goal.returns-in-Some-clause-exact
returns-in-Some-clause-exact c apart =
    subst (λ (h : MemoryHistory). IfOk c.find_in_order.result (λ found. IfNone found (IsFreeOf h c.args.criterion))) c.in-Some.ensures.order
    (c.find_in_order.ensures.exact apart)

pub returns-in-Some-clause-happened_before : goal.returns-in-Some-clause-happened_before
returns-in-Some-clause-happened_before c is =
    subst (λ (h : MemoryHistory). IfOk c.find_in_order.result (λ found. IfNone found (IsFreeOrLarge h))) c.in-Some.ensures.order
    (c.find_in_order.ensures.happened_before is)

pub returns-in_ok-find_without_order-in-None-clause-found : goal.returns-in_ok-find_without_order-in-None-clause-found
returns-in_ok-find_without_order-in-None-clause-found c = c.in_ok-find_without_order-in-None.ensures.found c.args.criterion

pub returns-in_ok-find_without_order-in-None-clause-kind : goal.returns-in_ok-find_without_order-in-None-clause-kind
returns-in_ok-find_without_order-in-None-clause-kind c = inl (c.in_ok-find_without_order-in-None.ensures.kind c.args.criterion)

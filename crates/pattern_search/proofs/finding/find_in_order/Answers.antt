use Rattle.std.proofs.Common.{◌≡◌, inl}
use Rattle.order_memory.proofs.Outcomes.{none-weaker, some-weaker}
use Rattle.pattern_check.specs.declared.kind.Kind.TheVariants.{CyclicCF}
use Rattle.pattern_check.specs.declared.pattern.Pattern.{Pattern}
use Rattle.pattern_check.specs.Patterns.{IsBadPattern, kind_of}
use Rattle.pattern_search.specs.FirstKinds.{ComesFirstOrLarge}
use Rattle.pattern_search.proofs.FirstKindLaws.{first-conflicts_for, first-happened, happened-found}
use Rattle.pattern_search.proofs.NothingFound.{free-consistent, free-of, free-or-large}
use Rattle.pattern_search.proofs.finding.find_in_order.Goals as goal

pub returns-in-Some-clause-found : goal.returns-in-Some-clause-found
returns-in-Some-clause-found c =
    let found = rw c.in-Some.is at c.in_ok-pattern.ensures.found in found c.args.criterion

pub returns-in-Some-clause-kind : goal.returns-in-Some-clause-kind
returns-in-Some-clause-kind c =
    let kind = rw c.in-Some.is at c.in_ok-pattern.ensures.kind in inl (kind c.args.criterion)

pub returns-in-Some-2-clause-first : goal.returns-in-Some-2-clause-first
returns-in-Some-2-clause-first c =
    happened-found c.args.order.now c.in-Some-2.pattern (rw c.in-Some-2.is at c.in_ok-pattern-2.ensures.kind)

pub returns-in-Some-2-clause-kind : goal.returns-in-Some-2-clause-kind
returns-in-Some-2-clause-kind c =
    let h = c.args.order.now in
    let start = rw c.in_default.is at c.in_ok-pattern.ensures.start in
    let read = rw c.in_default.is at c.in_ok-pattern.ensures.read in
    first-happened h (free-consistent h c.requires.ordered start read) c.args.criterion (kind_of c.in-Some-2.pattern)
    (rw c.in-Some-2.is at c.in_ok-pattern-2.ensures.kind)

pub returns-clause-kind : goal.returns-clause-kind
returns-clause-kind c =
    let h = c.args.order.now in
    let criterion = c.args.criterion in
    let start = rw c.in_default.is at c.in_ok-pattern.ensures.start in
    let read = rw c.in_default.is at c.in_ok-pattern.ensures.read in
    some-weaker c.find_conflicts.result (IsBadPattern h criterion) (λ pattern. kind_of pattern ≡ CyclicCF)
    (λ pattern. ComesFirstOrLarge h criterion (kind_of pattern))
    (λ (pattern : Pattern) (bad : IsBadPattern h criterion pattern) is.
    inl (first-conflicts_for h (free-consistent h c.requires.ordered start read) criterion (kind_of pattern) is bad.against))
    c.find_conflicts.ensures.found c.find_conflicts.ensures.kind

pub returns-clause-none : goal.returns-clause-none
returns-clause-none c =
    let start = rw c.in_default.is at c.in_ok-pattern.ensures.start in
    let read = rw c.in_default.is at c.in_ok-pattern.ensures.read in
    none-weaker c.find_conflicts.result _ _ (λ _. free-consistent c.args.order.now c.requires.ordered start read) c.find_conflicts.ensures.none

pub returns-clause-exact : goal.returns-clause-exact
returns-clause-exact c apart =
    let start = rw c.in_default.is at c.in_ok-pattern.ensures.start in
    let read = rw c.in_default.is at c.in_ok-pattern.ensures.read in
    none-weaker c.find_conflicts.result _ _
    (free-of c.args.order.now c.args.criterion apart (free-consistent c.args.order.now c.requires.ordered start read)) c.find_conflicts.ensures.none

pub returns-clause-happened_before : goal.returns-clause-happened_before
returns-clause-happened_before c is =
    let h = c.args.order.now in
    let start = rw c.in_default.is at c.in_ok-pattern.ensures.start in
    let read = rw c.in_default.is at c.in_ok-pattern.ensures.read in
    let found = rw c.in_default-2.is at (c.in_ok-pattern-2.ensures.none is) in
    none-weaker c.find_conflicts.result _ _
    (λ _. free-or-large h (free-consistent h c.requires.ordered start read) found) c.find_conflicts.ensures.none

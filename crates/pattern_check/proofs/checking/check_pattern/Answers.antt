use Rattle.std.proofs.Common.{Bool, sym, subst, ◌∙◌}
use Rattle.std.specs.Prelude.{◌↔◌, IfOk, IsTrue}
use Rattle.std.proofs.lemmas.Bool.{both_ways}
use Rattle.std.proofs.lemmas.Result.{IfOk-weaker}
use Rattle.order_memory.specs.Memory.{MemoryHistory}
use Rattle.pattern_check.specs.declared.kind.Kind.{Kind}
use Rattle.pattern_check.specs.Kinds.{is_against, IsTrueNo}
use Rattle.pattern_check.specs.Patterns.{IsBadPattern, IsShownBy, kind_of}
use Rattle.pattern_check.proofs.checking.check_pattern.Goals as goal

pub returns-then-not-is_against-clause-exact : goal.returns-then-not-is_against-clause-exact
returns-then-not-is_against-clause-exact c = (
  (λ t. absurd cc),
  λ bad. absurd (both_ways c.is_against.result c.if-not-is_against.true
      (c.is_against.ensures ∙ subst (λ (kind : Kind). IsTrue (is_against kind c.args.criterion)) (sym c.kind.ensures) bad.against)),
)

pub returns-then-not-are_distinct-clause-exact : goal.returns-then-not-are_distinct-clause-exact
returns-then-not-are_distinct-clause-exact c = (
  (λ t. absurd cc),
  λ bad. absurd (both_ways c.are_distinct.result c.if-not-are_distinct.true (c.are_distinct.ensures.1 bad.differentiated)),
)

pub returns-clause-exact : goal.returns-clause-exact
returns-clause-exact c =
    let h = c.args.h.now in
    let pattern = c.args.pattern.now in
    let against = subst (λ (kind : Kind). IsTrue (is_against kind c.args.criterion)) c.kind.ensures (sym c.is_against.ensures ∙ c.if-not-is_against.false) in
    IfOk-weaker c.is_shown.result
    (λ (yes : Bool). IsTrue yes ↔ IsShownBy h pattern)
    (λ (yes : Bool). IsTrue yes ↔ IsBadPattern h c.args.criterion pattern)
    (λ yes exactly. (
      (λ t. record {
        differentiated = c.are_distinct.ensures.0 c.if-not-are_distinct.false;
        against = against;
        shown = exactly.0 t;
      }),
      λ bad. exactly.1 bad.shown,
    ))
    (subst (λ (now : MemoryHistory). IfOk c.is_shown.result (λ (yes : Bool). IsTrue yes ↔ IsShownBy now pattern)) c.of.ensures c.is_shown.ensures)

pub returns-clause-true_no : goal.returns-clause-true_no
returns-clause-true_no c =
    let h = c.args.h.now in
    let pattern = c.args.pattern.now in
    IfOk-weaker c.is_shown.result
    (λ (yes : Bool). IsTrue yes ↔ IsBadPattern h c.args.criterion pattern)
    (λ (yes : Bool). IsTrue yes → IsTrueNo h c.args.criterion (kind_of pattern))
    (λ yes exactly t. c.bad_patterns_exclude_criteria.ensures h c.args.criterion pattern (exactly.0 t))
    (returns-clause-exact c)

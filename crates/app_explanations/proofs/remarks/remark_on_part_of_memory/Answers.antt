-- The kind that was found is one of the history without these variables.
use Rattle.std.specs.Prelude.{ℕ, List, Option, IfSome}
use Rattle.std.proofs.Common.{subst}
use Rattle.judge_subhistories.specs.WithoutVariables.{without_variables}
use Rattle.pattern_check.specs.declared.kind.Kind.{Kind}
use Rattle.pattern_check.specs.Kinds.{IsTrueNo}
use Rattle.app_explanations.proofs.remarks.remark_on_part_of_memory.Goals as goal

pub returns-in-Some : goal.returns-in-Some
returns-in-Some c =
    let found =
    subst (λ (o : Option Kind). IfSome o (IsTrueNo (without_variables c.deref.result.now c.args.history.now) c.args.criterion)) c.in-Some.is
    c.in_ok-kind.ensures in
    subst (λ (l : List ℕ). IsTrueNo (without_variables l c.args.history.now) c.args.criterion c.in-Some.kind) c.deref.ensures.value found

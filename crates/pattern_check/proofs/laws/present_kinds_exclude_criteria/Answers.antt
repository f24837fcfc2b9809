use Rattle.pattern_check.proofs.Shown.{kind-excludes}
use Rattle.pattern_check.proofs.laws.present_kinds_exclude_criteria.Goals as goal

pub returns : goal.returns
returns c = λ h criterion kind against present.
    kind-excludes h (c.causal_memory_is_causally_consistent.ensures h) (c.causal_convergence_is_causally_consistent.ensures h) present.0 criterion kind against present.1

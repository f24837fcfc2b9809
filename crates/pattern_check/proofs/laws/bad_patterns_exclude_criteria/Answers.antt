use Rattle.pattern_check.proofs.Shown.{pattern-excludes}
use Rattle.pattern_check.proofs.laws.bad_patterns_exclude_criteria.Goals as goal

pub returns : goal.returns
returns c = λ h. pattern-excludes h (c.present_kinds_exclude_criteria.ensures h)

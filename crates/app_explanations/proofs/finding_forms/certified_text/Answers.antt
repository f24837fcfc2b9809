use Rattle.std.proofs.Common.{◌≤◌, ap, subst, sym, ◌∙◌}
use Rattle.serde_json.specs.Data.{depth}
use Rattle.serde_json.specs.Read.{max_depth}
use Rattle.serde_json.specs.Written.{has_float}
use Rattle.app_explanations.proofs.FindingForms.{certified_depth, certified_has_no_float}
use Rattle.app_explanations.proofs.finding_forms.certified_text.Goals as goal

pub line_of_value-requires-clause-no_float : goal.line_of_value-requires-clause-no_float
line_of_value-requires-clause-no_float c = ap has_float c.in_ok-value.ensures ∙ certified_has_no_float c.args.findings.now c.args.remarks.now

pub line_of_value-requires-clause-nests : goal.line_of_value-requires-clause-nests
line_of_value-requires-clause-nests c = subst (λ d. depth d ≤ max_depth) (sym c.in_ok-value.ensures) (certified_depth c.args.findings.now c.args.remarks.now)

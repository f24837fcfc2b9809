use Rattle.app_findings.specs.declared.kept.Kept.TheVariants.{Patterns}
use Rattle.app_explanations.proofs.Reports.{found_limited}
use Rattle.app_explanations.proofs.history_forms.json_with_names.Goals as goal

pub json_of_findings-text-requires : goal.json_of_findings-text-requires
json_of_findings-text-requires g c = found_limited Patterns c.args.history.now c.in_ok-findings.findings c.in_ok-findings.ensures

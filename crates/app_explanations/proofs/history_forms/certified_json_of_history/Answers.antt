use Rattle.std.proofs.Common.{refl}
use Rattle.app_findings.specs.declared.kept.Kept.TheVariants.{Certificates}
use Rattle.app_explanations.proofs.Reports.{found_limited}
use Rattle.app_explanations.proofs.history_forms.certified_json_of_history.Goals as goal

pub certified_json_of_findings-text-requires : goal.certified_json_of_findings-text-requires
certified_json_of_findings-text-requires g c =
    let found = c.in_ok-findings.ensures in
    (found_limited Certificates c.args.history.now c.in_ok-findings.findings found, λ criterion. (found criterion).keeps refl)

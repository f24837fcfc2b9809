use Rattle.app_findings.specs.declared.kept.Kept.TheVariants.{Patterns}
use Rattle.app_orders.specs.declared.length.Length.TheVariants.{Limited}
use Rattle.app_explanations.proofs.Reports.{found_limited}
use Rattle.app_explanations.proofs.fault_lists.json_in_limited.Goals as goal

pub returns : goal.returns
returns g c =
    let findings = c.in_ok-findings.findings in
    c.text_of_parts.ensures Limited c.args.clients c.args.most c.args.history.now (found_limited Patterns c.args.history.now findings c.in_ok-findings.ensures)
    c.remarks_on-remarks.ensures c.in_ok-faults.ensures

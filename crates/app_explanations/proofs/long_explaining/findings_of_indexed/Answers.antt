use Rattle.app_explanations.proofs.Reports.{long_findings}
use Rattle.app_explanations.proofs.long_explaining.findings_of_indexed.Goals as goal

pub returns-in-Ok : goal.returns-in-Ok
returns-in-Ok g c =
    let of_cc = rw c.in-Ok.ensures.cc at c.finding_of-cc.ensures in
    let of_cm = rw c.in-Ok.ensures.cm at c.finding_of-cm.ensures in
    let of_ccv = rw c.in-Ok.ensures.ccv at c.finding_of-ccv.ensures in
    long_findings c.args.index.now.history c.requires.over c.in-Ok.findings of_cc of_cm of_ccv

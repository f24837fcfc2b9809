-- What is so of each of three remarks is so of all.
use Rattle.cert_check.specs.declared.criterion.Criterion.TheVariants.{Cc, Cm, Ccv}
use Rattle.json_histories.specs.declared.any_history.AnyHistory.{AnyHistory}
use Rattle.app_findings.specs.declared.finding.Findings.{Findings}
use Rattle.app_explanations.specs.declared.clients.Clients.{Clients}
use Rattle.app_explanations.specs.declared.remarks.Remarks.{Remarks}
use Rattle.app_explanations.specs.Remarks.{EachIsRemark, IsRemark}

pub each_remark : (clients : Clients) (history : AnyHistory) (findings : Findings) (remarks : Remarks) → IsRemark clients history Cc findings.cc remarks.cc
    → IsRemark clients history Cm findings.cm remarks.cm → IsRemark clients history Ccv findings.ccv remarks.ccv
    → EachIsRemark clients history findings remarks
each_remark clients history findings remarks of_cc of_cm of_ccv Cc = of_cc
each_remark clients history findings remarks of_cc of_cm of_ccv Cm = of_cm
each_remark clients history findings remarks of_cc of_cm of_ccv Ccv = of_ccv

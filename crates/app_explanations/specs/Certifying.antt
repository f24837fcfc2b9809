-- Why each criterion is met, not met, or unknown, as JSON, with the certificates of what is met.
use Rattle.std.specs.Prelude.{ℕ, List, [], ◌∷◌, Option, Some, None}
use Rattle.serde_json.specs.Data.{Data, string}
use Rattle.json_histories.specs.declared.any_history.AnyHistory.{AnyHistory}
use Rattle.json_histories.specs.Json.{list}
use Rattle.json_histories.specs.Reads.{worded}
use Rattle.cert_check.specs.declared.criterion.Criterion.{Criterion}
use Rattle.cert_check.specs.declared.criterion.Criterion.TheVariants.{Cc, Cm, Ccv}
use Rattle.cert_check.specs.CertificateForm.{form_of as certificate_form}
use Rattle.cert_check.specs.CriterionNames.{name_of}
use Rattle.app_orders.specs.declared.length.Length.TheVariants.{Limited}
use Rattle.app_findings.specs.declared.finding.Finding.{Finding}
use Rattle.app_findings.specs.declared.finding.Finding.TheVariants.{Met, Shown, Present, Unexplained}
use Rattle.app_findings.specs.declared.finding.Findings.{Findings}
use Rattle.app_findings.specs.Findings.{EachKeepsCertificate}
use Rattle.app_explanations.specs.declared.clients.Clients.TheVariants.{Sessions}
use Rattle.app_explanations.specs.declared.remarks.Remark.{Remark}
use Rattle.app_explanations.specs.declared.remarks.Remarks.{Remarks}
use Rattle.app_explanations.specs.Remarks.{EachIsRemark, beside}
use Rattle.app_explanations.specs.Explaining.{Explanation, IsToldOf, shown_form, word_of}
use Rattle.app_explanations.specs.Report.{AreFindingsOf}

-- what shows a finding, with the certificate of what is met
abbrev pub proof_form : Finding → Data
proof_form (Met (Some certificate)) = certificate_form certificate
proof_form (Met None) = shown_form (Met None)
proof_form (Shown pattern) = shown_form (Shown pattern)
proof_form (Present kind) = shown_form (Present kind)
proof_form (Unexplained place certificate) = shown_form (Unexplained place certificate)

-- the form of a finding: the name of the criterion, whether it is met, what shows it, and the remark on it, if there is one
abbrev pub proved_form : Criterion → Finding → Option Remark → Data
proved_form criterion finding remark = worded (name_of criterion) (string (word_of finding) ∷ proof_form finding ∷ beside remark)

-- the form of findings, one for each criterion
abbrev pub certified_form : Findings → Remarks → Data
certified_form findings remarks = list (
    proved_form Cc findings.cc remarks.cc ∷ proved_form Cm findings.cm remarks.cm ∷ proved_form Ccv findings.ccv remarks.ccv ∷ []
    )

abbrev pub certified_explanation_form : Explanation → Data
certified_explanation_form said = certified_form said.findings said.remarks

-- the findings are those of a history within the limits, and each has the certificate that may not lack
abbrev pub EachIsEvidence : AnyHistory → Findings → Type 0
EachIsEvidence history findings = AreFindingsOf Limited history findings × EachKeepsCertificate history findings

-- and each remark is one on it
abbrev pub IsEvidence : AnyHistory → Explanation → Type 0
IsEvidence history said = EachIsEvidence history said.findings × EachIsRemark Sessions history said.findings said.remarks

-- the text explains the history in the input with certificates, by findings of that history
abbrev pub IsCertifiedExplanation : List ℕ → List ℕ → Type 0
IsCertifiedExplanation = IsToldOf Limited certified_explanation_form IsEvidence

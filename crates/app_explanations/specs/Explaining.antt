-- Why each criterion is met, not met, or unknown, as JSON.
use Rattle.std.specs.Prelude.{◌≡◌, ℕ, List, [], ◌∷◌, ◌++◌, codes, Option, Some, None}
use Rattle.serde_json.specs.Data.{Data, null, string}
use Rattle.serde_json.specs.Written.{compact_text}
use Rattle.json_histories.specs.declared.any_history.AnyHistory.{AnyHistory}
use Rattle.json_histories.specs.AnyForm.{form_of, IsJson}
use Rattle.json_histories.specs.Json.{list}
use Rattle.json_histories.specs.Reads.{worded}
use Rattle.cert_check.specs.declared.criterion.Criterion.{Criterion}
use Rattle.cert_check.specs.declared.criterion.Criterion.TheVariants.{Cc, Cm, Ccv}
use Rattle.cert_check.specs.CriterionNames.{name_of}
use Rattle.pattern_check.specs.KindNames.{kind_name}
use Rattle.pattern_json.specs.PatternForm.{form_of as pattern_form, op_form}
use Rattle.app_orders.specs.declared.length.Length.{Length}
use Rattle.app_orders.specs.declared.length.Length.TheVariants.{Limited}
use Rattle.app_findings.specs.declared.finding.Finding.{Finding}
use Rattle.app_findings.specs.declared.finding.Finding.TheVariants.{Met, Shown, Present, Unexplained}
use Rattle.app_findings.specs.declared.finding.Findings.{Findings}
use Rattle.app_explanations.specs.declared.clients.Clients.{Clients}
use Rattle.app_explanations.specs.declared.clients.Clients.TheVariants.{Sessions}
use Rattle.app_explanations.specs.declared.remarks.Remark.{Remark}
use Rattle.app_explanations.specs.declared.remarks.Remarks.{Remarks}
use Rattle.app_explanations.specs.Lengths.{IsHistoryOf}
use Rattle.app_explanations.specs.Remarks.{EachIsRemark, beside}
use Rattle.app_explanations.specs.Report.{AreFindingsOf}

-- whether the criterion is met
abbrev pub word_of : Finding → List ℕ
word_of (Met certificate) = codes "yes"
word_of (Shown pattern) = codes "no"
word_of (Present kind) = codes "no"
word_of (Unexplained place certificate) = codes "unknown"

-- what shows it, without certificates
abbrev pub shown_form : Finding → Data
shown_form (Met certificate) = null
shown_form (Shown pattern) = pattern_form pattern
shown_form (Present kind) = string (kind_name kind)
shown_form (Unexplained None certificate) = null
shown_form (Unexplained (Some o) certificate) = op_form o

-- the form of a finding: the name of the criterion, whether it is met, what shows it, and the remark on it, if there is one
abbrev pub finding_form : Criterion → Finding → Option Remark → Data
finding_form criterion finding remark = worded (name_of criterion) (string (word_of finding) ∷ shown_form finding ∷ beside remark)

-- the form of findings, one for each criterion
abbrev pub findings_form : Findings → Remarks → Data
findings_form findings remarks = list (
    finding_form Cc findings.cc remarks.cc ∷ finding_form Cm findings.cm remarks.cm ∷ finding_form Ccv findings.ccv remarks.ccv ∷ []
    )

-- what is found of a history, and the remarks on it
pub record Explanation : Type 0 where
  pub findings : Findings
  pub remarks : Remarks

abbrev pub explanation_form : Explanation → Data
explanation_form said = findings_form said.findings said.remarks

-- the findings are those of a history, which may be that long, and each remark is one on its finding
abbrev pub IsExplanationOf : Length → Clients → AnyHistory → Explanation → Type 0
IsExplanationOf long clients history said =
    AreFindingsOf long history said.findings × EachIsRemark clients history said.findings said.remarks

-- the text says what is true of the history in the input, which may be that long: it is the JSON text of what is said, and a line feed
pub record IsToldOf {T : Type 0} (long : Length) (form : T → Data) (is_so : AnyHistory → T → Type 0) (input text : List ℕ) : Type 0 where
  pub history : AnyHistory
  pub said : T
  pub is_history : IsHistoryOf long history
  pub read : IsJson input (form_of history)
  pub true_of : is_so history said
  pub json : IsJson (compact_text (form said)) (form said)
  pub whole : text ≡ compact_text (form said) ++ codes "\n"

-- the text explains the history in the input, which may be that long, by findings of that history and the remarks on them
abbrev pub IsExplanationAt : Length → List ℕ → List ℕ → Type 0
IsExplanationAt long = IsToldOf long explanation_form (IsExplanationOf long Sessions)

abbrev pub IsExplanation : List ℕ → List ℕ → Type 0
IsExplanation = IsExplanationAt Limited

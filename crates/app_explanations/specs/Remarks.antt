-- What an explanation says of a finding beside what shows it: which guarantee a stale read breaks, and that a history without some of its
-- variables has a bad pattern.
use Rattle.std.specs.Prelude.{◌≡◌, ⊤, List, [], ◌∷◌, Option, Some, None, option_map}
use Rattle.serde_json.specs.Data.{Data, string}
use Rattle.json_histories.specs.declared.any_history.AnyHistory.{AnyHistory}
use Rattle.json_histories.specs.declared.any_history.AnyHistory.TheVariants.{Memory}
use Rattle.json_histories.specs.Json.{list}
use Rattle.json_histories.specs.Reads.{list_form, number_form}
use Rattle.cert_check.specs.declared.criterion.Criterion.{Criterion}
use Rattle.cert_check.specs.declared.criterion.Criterion.TheVariants.{Cc, Cm, Ccv}
use Rattle.pattern_check.specs.KindNames.{kind_name}
use Rattle.pattern_check.specs.Kinds.{IsTrueNo}
use Rattle.pattern_check.specs.declared.pattern.Pattern.{Pattern}
use Rattle.judge_subhistories.specs.WithoutVariables.{without_variables}
use Rattle.show_words.specs.declared.guarantees.Guarantee.{Guarantee}
use Rattle.show_words.specs.Guarantees.{guarantee_name}
use Rattle.app_findings.specs.declared.finding.Finding.{Finding}
use Rattle.app_findings.specs.declared.finding.Finding.TheVariants.{Met, Shown, Present, Unexplained}
use Rattle.app_findings.specs.declared.finding.Findings.{Findings}
use Rattle.app_findings.specs.Findings.{finding_for}
use Rattle.app_explanations.specs.declared.clients.Clients.{Clients}
use Rattle.app_explanations.specs.declared.remarks.Remark.{Remark}
use Rattle.app_explanations.specs.declared.remarks.Remark.TheVariants.{Breaks, Without}
use Rattle.app_explanations.specs.declared.remarks.Remarks.{Remarks}
use Rattle.app_explanations.specs.BrokenGuarantees.{IsBrokenBy}

-- the form of a remark: the name of the guarantee, or the variables and the name of the kind
abbrev pub remark_form : Remark → Data
remark_form (Breaks guarantee) = string (guarantee_name guarantee)
remark_form (Without variables kind) = list (list_form number_form variables.items ∷ string (kind_name kind) ∷ [])

-- what stands after what shows a finding
abbrev pub beside : Option Remark → List Data
beside None = []
beside (Some remark) = remark_form remark ∷ []

-- the remark on a pattern names the guarantee that its stale read breaks; there is none where it shows no stale read
abbrev pub IsRemarkOnPattern : Clients → Pattern → Option Remark → Type 0
IsRemarkOnPattern clients pattern remark =
    (broken : Option Guarantee) × IsBrokenBy clients pattern broken × (remark ≡ option_map (λ guarantee. Breaks guarantee) broken)

-- a remark on what is unknown is true: the history without these variables has a bad pattern of the kind against the criterion
abbrev pub IsRemarkOnPart : AnyHistory → Criterion → Option Remark → Type 0
IsRemarkOnPart history criterion None = ⊤
IsRemarkOnPart (Memory h) criterion (Some (Without variables kind)) = IsTrueNo (without_variables variables.items h) criterion kind
IsRemarkOnPart history criterion (Some remark) = ⊥

-- the remark on a finding of a history, or none
abbrev pub IsRemark : Clients → AnyHistory → Criterion → Finding → Option Remark → Type 0
IsRemark clients history criterion (Met certificate) remark = remark ≡ None
IsRemark clients history criterion (Shown pattern) remark = IsRemarkOnPattern clients pattern remark
IsRemark clients history criterion (Present kind) remark = remark ≡ None
IsRemark clients history criterion (Unexplained place certificate) remark = IsRemarkOnPart history criterion remark

-- the remark for a criterion
abbrev pub remark_for : Remarks → Criterion → Option Remark
remark_for remarks Cc = remarks.cc
remark_for remarks Cm = remarks.cm
remark_for remarks Ccv = remarks.ccv

-- each remark is one on the finding of a history
abbrev pub EachIsRemark : Clients → AnyHistory → Findings → Remarks → Type 0
EachIsRemark clients history findings remarks =
    (criterion : Criterion) → IsRemark clients history criterion (finding_for findings criterion) (remark_for remarks criterion)

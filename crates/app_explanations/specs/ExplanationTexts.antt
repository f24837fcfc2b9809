-- What is written of a history, which may be of any length, in each form.
use Rattle.std.specs.Prelude.{◌≡◌, ℕ, List, ◌++◌, codes}
use Rattle.serde_json.specs.Written.{compact_text}
use Rattle.app_orders.specs.declared.form.LongForm.{LongForm}
use Rattle.app_orders.specs.declared.form.LongForm.TheVariants.{Words, Json, Picture}
use Rattle.app_orders.specs.declared.length.Length.{Length}
use Rattle.app_orders.specs.declared.length.Length.TheVariants.{Any}
use Rattle.json_histories.specs.declared.any_history.AnyHistory.{AnyHistory}
use Rattle.json_histories.specs.AnyForm.{IsJson}
use Rattle.show_pictures.specs.Markup.{IsSvgElement}
use Rattle.app_findings.specs.declared.finding.Findings.{Findings}
use Rattle.app_explanations.specs.declared.clients.Clients.{Clients}
use Rattle.app_explanations.specs.declared.clients.Clients.TheVariants.{Named}
use Rattle.app_explanations.specs.Explaining.{Explanation, IsExplanationOf, explanation_form}
use Rattle.app_explanations.specs.Certifying.{IsEvidence, certified_explanation_form}
use Rattle.app_explanations.specs.ExplainingInWords.{TellsEach}
use Rattle.app_explanations.specs.Report.{AreFindingsOf}

-- the text gives what is found of a history in words, as JSON, or is a picture
abbrev pub IsWordsOf : Length → AnyHistory → List ℕ → Type 0
IsWordsOf long history text = (findings : Findings) × AreFindingsOf long history findings × TellsEach long history findings text

abbrev pub IsJsonOf : Length → Clients → AnyHistory → List ℕ → Type 0
IsJsonOf long clients history text =
    (said : Explanation) × IsExplanationOf long clients history said
    × IsJson (compact_text (explanation_form said)) (explanation_form said)
    × (text ≡ compact_text (explanation_form said) ++ codes "\n")

-- the same with certificates
abbrev pub IsCertifiedJsonOf : AnyHistory → List ℕ → Type 0
IsCertifiedJsonOf history text =
    (said : Explanation) × IsEvidence history said
    × IsJson (compact_text (certified_explanation_form said)) (certified_explanation_form said)
    × (text ≡ compact_text (certified_explanation_form said) ++ codes "\n")

abbrev pub IsExplainedBy : Length → Clients → LongForm → AnyHistory → List ℕ → Type 0
IsExplainedBy long clients Words history text = IsWordsOf long history text
IsExplainedBy long clients Json history text = IsJsonOf long clients history text
IsExplainedBy long clients Picture history text = IsSvgElement text

-- the same of a history of any length where sessions are those of named clients
abbrev pub IsExplainedAs : LongForm → AnyHistory → List ℕ → Type 0
IsExplainedAs = IsExplainedBy Any Named

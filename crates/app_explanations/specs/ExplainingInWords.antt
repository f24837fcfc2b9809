-- Why each criterion is met, not met, or unknown, in words. What the words say is no promise: these are the line of `judge`, with an
-- answer that it may give, the cores, and the form of the text, by which that line is found.
use Rattle.std.specs.Prelude.{◌≡◌, ℕ, List, ◌++◌}
use Rattle.json_histories.specs.declared.any_history.AnyHistory.{AnyHistory}
use Rattle.json_histories.specs.AnyForm.{form_of, IsJson}
use Rattle.cert_check.specs.declared.criterion.Criterion.{Criterion}
use Rattle.cert_check.specs.declared.criterion.Criterion.TheVariants.{Cc, Cm, Ccv}
use Rattle.app_orders.specs.declared.length.Length.{Length}
use Rattle.app_orders.specs.declared.length.Length.TheVariants.{Limited}
use Rattle.app_explanations.specs.CoresInWords.{AreWordsOn}
use Rattle.app_explanations.specs.Lengths.{IsHistoryOf}
use Rattle.app_findings.specs.declared.finding.Findings.{Findings}
use Rattle.app_findings.specs.declared.finding.Finding.{Finding}
use Rattle.app_findings.specs.Findings.{answer_of}
use Rattle.app_explanations.specs.Report.{AreFindingsOf, line_for}

-- the text tells a finding of a history, which may be that long: the line of `judge`, and lines behind two spaces, in which cores are true
abbrev pub Tells : Length → AnyHistory → Criterion → Finding → List ℕ → Type 0
Tells long history criterion finding text =
    (words : List ℕ) × AreWordsOn long history criterion words × (text ≡ line_for criterion (answer_of finding) ++ words)

-- the text tells three findings, one after the other
abbrev pub TellsEach : Length → AnyHistory → Findings → List ℕ → Type 0
TellsEach long history findings text =
    (cc cm ccv : List ℕ) × Tells long history Cc findings.cc cc × Tells long history Cm findings.cm cm
    × Tells long history Ccv findings.ccv ccv × (text ≡ cc ++ (cm ++ ccv))

-- the text explains the history in the input, which may be that long, in words: it tells findings of that history
pub record IsWordedAt (long : Length) (input text : List ℕ) : Type 0 where
  pub history : AnyHistory
  pub findings : Findings
  pub is_history : IsHistoryOf long history
  pub read : IsJson input (form_of history)
  pub found : AreFindingsOf long history findings
  pub told : TellsEach long history findings text

abbrev pub IsWorded : List ℕ → List ℕ → Type 0
IsWorded = IsWordedAt Limited

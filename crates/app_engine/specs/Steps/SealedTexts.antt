-- What is written of sealed histories, one after the other.
use Rattle.std.specs.Prelude.{◌≡◌, ⊤, ℕ, List, [], ◌∷◌, Some, slice_get}
use Rattle.std.specs.List.{flat_map}
use Rattle.model_history.specs.History.{HistoryValue}
use Rattle.live_seals.specs.Seals.{SealState}
use Rattle.live_driver.specs.Drives.{IsOfInput}
use Rattle.json_histories.specs.declared.any_history.AnyHistory.{AnyHistory}
use Rattle.json_histories.specs.AnyForm.{IsAnyHistory}
use Rattle.app_findings.specs.declared.finding.Findings.{Findings}
use Rattle.app_findings.specs.declared.kept.Kept.TheVariants.{Answers}
use Rattle.app_findings.specs.Findings.{EachIsFound}
use Rattle.app_engine.specs.Driving.{IsTrueReport, SealedReport, text_of}

-- the text says what a history is, with a true report
abbrev pub IsTrueText : AnyHistory → AnyHistory → List ℕ → Type 0
IsTrueText input history text = (s : SealedReport) × (s.history ≡ history) × IsTrueReport input s × (text ≡ text_of s)

-- the text says what a history is, with what is found of it
abbrev pub IsReportedText : AnyHistory → List ℕ → Type 0
IsReportedText history text =
    (report : Findings) × IsAnyHistory history × EachIsFound Answers history report × (text ≡ text_of (record { history = history; report = report }))

module _ {S C R : Type 0} where
  -- each history was sealed from the input
  abbrev pub AreSealedFrom : HistoryValue S C R → List (SealState S C R) → Type 0
  AreSealedFrom input seals = (j : ℕ) (x : SealState S C R) → slice_get seals j ≡ Some x → IsOfInput input x.history

  -- each report is a true one of its history
  abbrev pub AreTrueReports : (HistoryValue S C R → AnyHistory) → HistoryValue S C R → List (SealState S C R) → List SealedReport → Type 0
  AreTrueReports any input [] [] = ⊤
  AreTrueReports any input [] (s ∷ reports) = ⊥
  AreTrueReports any input (x ∷ seals) [] = ⊥
  AreTrueReports any input (x ∷ seals) (s ∷ reports) =
      (s.history ≡ any x.history) × IsTrueReport (any input) s × AreTrueReports any input seals reports

  -- the text says what each of them is, with a true report
  abbrev pub AreTrueTexts : (HistoryValue S C R → AnyHistory) → HistoryValue S C R → List (SealState S C R) → List ℕ → Type 0
  AreTrueTexts any input seals text = (reports : List SealedReport) × AreTrueReports any input seals reports × (text ≡ flat_map text_of reports)

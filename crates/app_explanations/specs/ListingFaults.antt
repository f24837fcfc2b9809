-- Reads of a history that show a fault, in a list.
use Rattle.std.specs.Prelude.{◌≡◌, ◌+◌, ◌≤◌, ℕ, List, [], ◌∷◌, ◌++◌, length, Option, Some, None}
use Rattle.serde_json.specs.Data.{Data, null}
use Rattle.json_histories.specs.declared.any_history.AnyHistory.{AnyHistory}
use Rattle.json_histories.specs.declared.any_history.AnyHistory.TheVariants as histories
use Rattle.json_histories.specs.AnyForm.{form_of, IsJson}
use Rattle.json_histories.specs.Json.{list}
use Rattle.order_memory.specs.Memory.{MemoryHistory}
use Rattle.show_faults.specs.declared.tally.Faults.{Faults}
use Rattle.show_faults.specs.Tallies.{IsTallyOf}
use Rattle.show_faults.specs.FaultsForm.{faults_form}
use Rattle.app_orders.specs.declared.form.ListForm.{ListForm}
use Rattle.app_orders.specs.declared.form.ListForm.TheVariants.{Words, Json}
use Rattle.app_orders.specs.declared.length.Length.{Length}
use Rattle.app_orders.specs.declared.listing.Listing.{Listing}
use Rattle.app_explanations.specs.declared.fault_lists.FaultReport.{FaultReport}
use Rattle.app_findings.specs.declared.finding.Findings.{Findings}
use Rattle.app_explanations.specs.declared.clients.Clients.{Clients}
use Rattle.app_explanations.specs.declared.clients.Clients.TheVariants.{Sessions}
use Rattle.app_explanations.specs.Remarks.{EachIsRemark}
use Rattle.app_explanations.specs.Explaining.{findings_form, IsToldOf}
use Rattle.app_explanations.specs.CoresInWords.{AreIndented}
use Rattle.app_explanations.specs.ExplainingInWords.{TellsEach}
use Rattle.app_explanations.specs.Lengths.{IsHistoryOf}
use Rattle.app_explanations.specs.Report.{AreFindingsOf}
use Rattle.app_findings.specs.Answers.{LacksDistinctValues}

-- the faults are the first ones of a memory, at most so many, with the counts of all, and what at most so many of them break
pub record AreFirstFaults (h : MemoryHistory) (most : ℕ) (faults : Faults) : Type 0 where
  pub tally : IsTallyOf h most faults.listed.items faults.counts faults.by_session.items
  pub few : length faults.listed.items ≤ most
  pub few_broken : length faults.broken.listed.items ≤ most

-- of a memory these are the first faults; none are given where values are not distinct, and of other objects
abbrev pub AreFaultsIn : ℕ → AnyHistory → Option Faults → Type 0
AreFaultsIn most history None = LacksDistinctValues history
AreFaultsIn most (histories.Memory h) (Some faults) = AreFirstFaults h most faults
AreFaultsIn most _ (Some faults) = ⊥

-- the findings are those of a history, which may be that long, the remarks are on them, and the faults are those of the history
pub record IsFaultReportOf (long : Length) (clients : Clients) (most : ℕ) (history : AnyHistory) (report : FaultReport) : Type 0 where
  pub found : AreFindingsOf long history report.findings
  pub remarks : EachIsRemark clients history report.findings report.remarks
  pub faults : AreFaultsIn most history report.faults

-- the form of a list: that of an explanation, and that of the faults, if values are distinct
abbrev pub list_form : Option Faults → Data
list_form None = null
list_form (Some faults) = faults_form faults.counts faults.by_session.items faults.listed.items faults.broken

abbrev pub fault_report_form : FaultReport → Data
fault_report_form report = list (findings_form report.findings report.remarks ∷ list_form report.faults ∷ [])

-- how many lines a list has at most besides one for each fault: one for each of three kinds and of five guarantees, one for each of
-- sixteen sessions and one for the others, and one on what is left out
abbrev pub OTHER_LINES : ℕ
OTHER_LINES = 26

-- the text is that of findings, and lines after it: at most so many for faults
abbrev pub AreLinesAfter : Length → ℕ → AnyHistory → Findings → List ℕ → Type 0
AreLinesAfter long most history findings text =
    (first rest : List ℕ) × (lines : List (List ℕ)) × TellsEach long history findings first × (length lines ≤ most + OTHER_LINES) × AreIndented lines rest
    × (text ≡ first ++ rest)

-- the text gives what is found of the history in the input, which may be that long, and after that lines that begin with two spaces, at
-- most so many for faults
pub record IsListedInWords (long : Length) (most : ℕ) (input text : List ℕ) : Type 0 where
  pub history : AnyHistory
  pub findings : Findings
  pub is_history : IsHistoryOf long history
  pub read : IsJson input (form_of history)
  pub found : AreFindingsOf long history findings
  pub told : AreLinesAfter long most history findings text

abbrev pub IsListedAs : ListForm → Length → ℕ → List ℕ → List ℕ → Type 0
IsListedAs Words long most input text = IsListedInWords long most input text
IsListedAs Json long most input text = IsToldOf long fault_report_form (IsFaultReportOf long Sessions most) input text

abbrev pub IsFaultReport : Listing → List ℕ → List ℕ → Type 0
IsFaultReport listing input text = IsListedAs listing.form listing.length listing.most input text

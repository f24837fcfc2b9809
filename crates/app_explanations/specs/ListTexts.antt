-- What is written of a history, which may be of any length, where its faults are listed, in each form.
use Rattle.std.specs.Prelude.{◌≡◌, ℕ, List, ◌++◌, Option, Some, None, codes}
use Rattle.serde_json.specs.Written.{compact_text}
use Rattle.app_orders.specs.declared.form.ListForm.{ListForm}
use Rattle.app_orders.specs.declared.form.ListForm.TheVariants.{Words, Json}
use Rattle.app_orders.specs.declared.length.Length.{Length}
use Rattle.app_orders.specs.declared.length.Length.TheVariants.{Any}
use Rattle.json_histories.specs.declared.any_history.AnyHistory.{AnyHistory}
use Rattle.json_histories.specs.declared.any_history.AnyHistory.TheVariants as histories
use Rattle.json_histories.specs.AnyForm.{IsJson}
use Rattle.order_memory.specs.Memory.{MemoryHistory}
use Rattle.app_explanations.specs.declared.clients.Clients.{Clients}
use Rattle.app_explanations.specs.declared.clients.Clients.TheVariants.{Named}
use Rattle.app_explanations.specs.declared.fault_lists.FaultReport.{FaultReport}
use Rattle.app_findings.specs.declared.finding.Findings.{Findings}
use Rattle.app_explanations.specs.ListingFaults.{AreLinesAfter, IsFaultReportOf, fault_report_form}
use Rattle.app_explanations.specs.Report.{AreFindingsOf}

-- the text gives what is found of a history, and lines after it, at most so many for faults
abbrev pub IsListInWords : Length → ℕ → AnyHistory → List ℕ → Type 0
IsListInWords long most history text =
    (findings : Findings) × AreFindingsOf long history findings × AreLinesAfter long most history findings text

-- the text lists the faults of a history, at most so many
abbrev pub IsListBy : Length → Clients → ListForm → ℕ → AnyHistory → List ℕ → Type 0
IsListBy long clients Words most history text = IsListInWords long most history text
IsListBy long clients Json most history text =
    (report : FaultReport) × IsFaultReportOf long clients most history report
    × IsJson (compact_text (fault_report_form report)) (fault_report_form report)
    × (text ≡ compact_text (fault_report_form report) ++ codes "\n")

-- the same of a history of any length where sessions are those of named clients
abbrev pub IsListOf : ListForm → ℕ → AnyHistory → List ℕ → Type 0
IsListOf = IsListBy Any Named

-- a memory as a history of any length; none of another object
abbrev pub IsLongOf : AnyHistory → Option MemoryHistory → Type 0
IsLongOf (histories.Memory h) (Some g) = g ≡ h
IsLongOf (histories.Memory h) None = ⊥
IsLongOf _ (Some g) = ⊥
IsLongOf _ None = Unit {0}

-- What is written of findings, and of faults in a list, is written of the history that they are of.
use Rattle.std.proofs.Common.{◌≡◌, ◌+◌, ◌≤◌, ◌++◌, ℕ, List, Option, Some, None, Result, Ok, Err, length, take, arith, subst, sym}
use Rattle.std.proofs.lemmas.List.{length-take}
use Rattle.std.specs.Prelude.{codes, IfOk, OnOk}
use Rattle.serde_json.specs.Written.{compact_text}
use Rattle.app_orders.specs.declared.form.ListForm.TheVariants as list_forms
use Rattle.app_orders.specs.declared.length.Length.{Length}
use Rattle.json_histories.specs.declared.any_history.AnyHistory.{AnyHistory}
use Rattle.json_histories.specs.declared.any_history.AnyHistory.TheVariants as histories
use Rattle.json_histories.specs.AnyForm.{IsJson}
use Rattle.order_memory.specs.Memory.{MemoryHistory}
use Rattle.show_faults.specs.declared.fault.Fault.{Fault}
use Rattle.show_faults.specs.declared.tally.Faults.{Faults}
use Rattle.show_faults.specs.Tallies.{IsTallyOf}
use Rattle.app_findings.specs.Answers.{LacksDistinctValues}
use Rattle.app_findings.specs.declared.finding.Findings.{Findings}
use Rattle.app_explanations.specs.declared.fault_lists.FaultReport.{FaultReport}
use Rattle.app_explanations.specs.ExplainingInWords.{TellsEach}
use Rattle.app_explanations.specs.ListingFaults.{AreFaultsIn, AreFirstFaults, AreLinesAfter, IsFaultReportOf, OTHER_LINES, fault_report_form}
use Rattle.app_explanations.specs.ListTexts.{IsListBy, IsListInWords, IsLongOf}
use Rattle.app_explanations.specs.ExplanationTexts.{IsCertifiedJsonOf, IsJsonOf, IsWordsOf}
use Rattle.app_explanations.specs.declared.clients.Clients.{Clients}
use Rattle.app_explanations.specs.declared.clients.Clients.TheVariants.{Sessions}
use Rattle.app_explanations.specs.declared.remarks.Remarks.{Remarks}
use Rattle.app_explanations.specs.Remarks.{EachIsRemark}
use Rattle.app_explanations.specs.Explaining.{findings_form}
use Rattle.app_explanations.specs.Certifying.{EachIsEvidence, certified_form}
use Rattle.app_explanations.specs.Report.{AreFindingsOf}
use Rattle.app_explanations.specs.Steps.ShortTexts.{IsIndentedUpTo}

-- what is put into words of findings of a history, and lines after it
pub told_in_words : {T E : Type 0} (bytes : T → List ℕ) (long : Length) (history : AnyHistory) (findings : Findings) (r : Result T E)
    → AreFindingsOf long history findings → IfOk r (λ text. TellsEach long history findings (bytes text)) → IfOk r (λ text. IsWordsOf long history (bytes text))
told_in_words bytes long history findings (Ok text) found tells = (findings, found, tells)
told_in_words bytes long history findings (Err e) found tells = tt

pub told_as_json : {T E : Type 0} (bytes : T → List ℕ) (long : Length) (clients : Clients) (history : AnyHistory) (findings : Findings) (remarks : Remarks)
    (r : Result T E) → AreFindingsOf long history findings → EachIsRemark clients history findings remarks
    → IfOk r (λ text. bytes text ≡ compact_text (findings_form findings remarks) ++ codes "\n")
    → OnOk r (IsJson (compact_text (findings_form findings remarks)) (findings_form findings remarks)) → IfOk r (λ text. IsJsonOf long clients history (bytes text))
told_as_json bytes long clients history findings remarks (Ok text) found on whole json =
    (record { findings = findings; remarks = remarks }, (found, on), json, whole)
told_as_json bytes long clients history findings remarks (Err e) found on whole json = tt

pub told_with_certificates : {T E : Type 0} (bytes : T → List ℕ) (history : AnyHistory) (findings : Findings) (remarks : Remarks) (r : Result T E)
    → EachIsEvidence history findings → EachIsRemark Sessions history findings remarks
    → IfOk r (λ text. bytes text ≡ compact_text (certified_form findings remarks) ++ codes "\n")
    → OnOk r (IsJson (compact_text (certified_form findings remarks)) (certified_form findings remarks)) → IfOk r (λ text. IsCertifiedJsonOf history (bytes text))
told_with_certificates bytes history findings remarks (Ok text) found on whole json =
    (record { findings = findings; remarks = remarks }, (found, on), json, whole)
told_with_certificates bytes history findings remarks (Err e) found on whole json = tt

pub listed_in_words : {T E : Type 0} (bytes : T → List ℕ) (long : Length) (most : ℕ) (history : AnyHistory) (findings : Findings) (r : Result T E)
    → AreFindingsOf long history findings → IfOk r (λ text. AreLinesAfter long most history findings (bytes text))
    → IfOk r (λ text. IsListInWords long most history (bytes text))
listed_in_words bytes long most history findings (Ok text) found lines = (findings, found, lines)
listed_in_words bytes long most history findings (Err e) found lines = tt

-- the JSON text of a report lists its faults
pub listed_as_json : {T E : Type 0} (bytes : T → List ℕ) (long : Length) (clients : Clients) (most : ℕ) (history : AnyHistory) (report : FaultReport) (r : Result T E)
    → IsFaultReportOf long clients most history report → IfOk r (λ text. bytes text ≡ compact_text (fault_report_form report) ++ codes "\n")
    → OnOk r (IsJson (compact_text (fault_report_form report)) (fault_report_form report))
    → IfOk r (λ text. IsListBy long clients list_forms.Json most history (bytes text))
listed_as_json bytes long clients most history report (Ok text) is whole json = (report, is, json, whole)
listed_as_json bytes long clients most history report (Err e) is whole json = tt

-- lines after the text of findings
pub lines_after : (long : Length) (most : ℕ) (history : AnyHistory) (findings : Findings) (first rest text : List ℕ) (n : ℕ)
    → TellsEach long history findings first → IsIndentedUpTo n rest → n ≤ most + OTHER_LINES → text ≡ first ++ rest
    → AreLinesAfter long most history findings text
lines_after long most history findings first rest text n tells is few same =
    (first, rest, is.0, tells, omega (arith, is.1), is.2, same)

-- the first of all faults are at most so many
few_first : (most : ℕ) (all listed : List Fault) → listed ≡ take most all → length listed ≤ most
few_first most all listed same = subst (λ (fs : List Fault). length fs ≤ most) (sym same) (omega (arith, length-take most all))

pub first_faults : (h : MemoryHistory) (most : ℕ) (faults : Faults) → IsTallyOf h most faults.listed.items faults.counts faults.by_session.items
    → length faults.broken.listed.items ≤ most → AreFirstFaults h most faults
first_faults h most faults tally few =
    record { tally = tally; few = few_first most tally.0 faults.listed.items tally.2.first; few_broken = few }

-- the faults of a memory as one of any length are those of the memory; of another object none are given
pub faults_of_long : {E : Type 0} (most : ℕ) (history : AnyHistory) (g : MemoryHistory) (r : Result (Option Faults) E) → IsLongOf history (Some g)
    → IfOk r (AreFaultsIn most (histories.Memory g)) → IfOk r (AreFaultsIn most history)
faults_of_long most (histories.Memory h) g r same are = subst (λ (x : MemoryHistory). IfOk r (AreFaultsIn most (histories.Memory x))) same are
faults_of_long most (histories.Register h) g r same are = absurd same
faults_of_long most (histories.Counter h) g r same are = absurd same
faults_of_long most (histories.Set h) g r same are = absurd same
faults_of_long most (histories.Queue h) g r same are = absurd same
faults_of_long most (histories.Counters h) g r same are = absurd same
faults_of_long most (histories.Sets h) g r same are = absurd same
faults_of_long most (histories.Queues h) g r same are = absurd same

pub no_faults : (history : AnyHistory) → IsLongOf history None → LacksDistinctValues history
no_faults (histories.Memory h) same = absurd same
no_faults (histories.Register h) same = tt
no_faults (histories.Counter h) same = tt
no_faults (histories.Set h) same = tt
no_faults (histories.Queue h) same = tt
no_faults (histories.Counters h) same = tt
no_faults (histories.Sets h) same = tt
no_faults (histories.Queues h) same = tt

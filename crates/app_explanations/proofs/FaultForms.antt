-- The form of a list of faults nests little, and has no float: what is written of it is read back.
use Rattle.std.proofs.Common.{◌≡◌, ◌≤◌, false, Option, Some, None, refl, arith}
use Rattle.serde_json.specs.Data.{depth}
use Rattle.serde_json.specs.Read.{max_depth}
use Rattle.serde_json.specs.Written.{has_float}
use Rattle.pattern_json.proofs.PatternDepth.{deepest-map, no_float-map}
use Rattle.show_words.specs.declared.guarantees.Guarantee.{Guarantee}
use Rattle.show_faults.specs.declared.counts.SessionFaults.{SessionFaults}
use Rattle.show_faults.specs.declared.fault.Fault.{Fault}
use Rattle.show_faults.specs.declared.fault.Fault.TheVariants.{ThinAirRead, WriteCOInitRead, WriteCORead}
use Rattle.show_faults.specs.declared.tally.Faults.{Faults}
use Rattle.show_faults.specs.FaultsForm.{breaks_form, fault_form, name_form, session_form}
use Rattle.app_explanations.specs.declared.fault_lists.FaultReport.{FaultReport}
use Rattle.app_explanations.specs.ListingFaults.{fault_report_form, list_form}
use Rattle.app_explanations.proofs.FindingForms.{beside_depth, findings_have_no_float, shown_depth}

fault_depth : (fault : Fault) → depth (fault_form fault) ≤ 2
fault_depth (ThinAirRead r) = omega arith
fault_depth (WriteCOInitRead r a) = omega arith
fault_depth (WriteCORead r w a) = omega arith

row_depth : (row : SessionFaults) → depth (session_form row) ≤ 3
row_depth row = omega arith

name_depth : (guarantee : Option Guarantee) → depth (name_form guarantee) ≤ 0
name_depth None = omega arith
name_depth (Some guarantee) = omega arith

list_depth : (faults : Option Faults) → depth (list_form faults) ≤ 5
list_depth None = omega arith
list_depth (Some faults) =
    let rows = deepest-map session_form 3 row_depth faults.by_session.items in
    let listed = deepest-map fault_form 2 fault_depth faults.listed.items in
    let broken = deepest-map breaks_form 0 (λ breaks. name_depth breaks.guarantee) faults.broken.listed.items in
    omega arith

pub fault_report_depth : (report : FaultReport) → depth (fault_report_form report) ≤ max_depth
fault_report_depth report =
    let cc = shown_depth report.findings.cc in
    let cm = shown_depth report.findings.cm in
    let ccv = shown_depth report.findings.ccv in
    let beside_cc = beside_depth report.remarks.cc in
    let beside_cm = beside_depth report.remarks.cm in
    let beside_ccv = beside_depth report.remarks.ccv in
    let listed = list_depth report.faults in
    omega arith

fault_has_no_float : (fault : Fault) → has_float (fault_form fault) ≡ false
fault_has_no_float (ThinAirRead r) = refl
fault_has_no_float (WriteCOInitRead r a) = refl
fault_has_no_float (WriteCORead r w a) = refl

name_has_no_float : (guarantee : Option Guarantee) → has_float (name_form guarantee) ≡ false
name_has_no_float None = refl
name_has_no_float (Some guarantee) = refl

list_has_no_float : (faults : Option Faults) → has_float (list_form faults) ≡ false
list_has_no_float None = refl
list_has_no_float (Some faults) =
    rw (
      no_float-map session_form (λ row. refl) faults.by_session.items,
      no_float-map fault_form fault_has_no_float faults.listed.items,
      no_float-map breaks_form (λ breaks. name_has_no_float breaks.guarantee) faults.broken.listed.items,
    ) refl

pub fault_report_has_no_float : (report : FaultReport) → has_float (fault_report_form report) ≡ false
fault_report_has_no_float report = rw (findings_have_no_float report.findings report.remarks, list_has_no_float report.faults) refl

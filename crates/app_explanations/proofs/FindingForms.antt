-- The form of findings nests little, and has no float: what is written of them is read back.
use Rattle.std.proofs.Common.{◌≡◌, ◌≤◌, ℕ, false, Option, refl, arith, Some, None}
use Rattle.serde_json.specs.Data.{depth}
use Rattle.serde_json.specs.Read.{max_depth}
use Rattle.serde_json.specs.View.{items_of}
use Rattle.serde_json.specs.Written.{has_float, items_have_float}
use Rattle.json_histories.specs.Reads.{number_form}
use Rattle.pattern_json.proofs.CertificateDepth.{certificate_depth, certificate_has_no_float}
use Rattle.pattern_json.proofs.PatternDepth.{deepest, deepest-map, no_float-map, pattern_depth, pattern_has_no_float}
use Rattle.app_findings.specs.declared.finding.Finding.{Finding}
use Rattle.app_findings.specs.declared.finding.Finding.TheVariants.{Met, Shown, Present, Unexplained}
use Rattle.app_findings.specs.declared.finding.Findings.{Findings}
use Rattle.app_explanations.specs.declared.remarks.Remark.{Remark}
use Rattle.app_explanations.specs.declared.remarks.Remark.TheVariants.{Breaks, Without}
use Rattle.app_explanations.specs.declared.remarks.Remarks.{Remarks}
use Rattle.app_explanations.specs.Certifying.{certified_form, proof_form}
use Rattle.app_explanations.specs.Explaining.{findings_form, shown_form}
use Rattle.app_explanations.specs.Remarks.{beside}

pub shown_depth : (finding : Finding) → depth (shown_form finding) ≤ 5
shown_depth (Met certificate) = omega arith
shown_depth (Shown pattern) = pattern_depth pattern
shown_depth (Present kind) = omega arith
shown_depth (Unexplained None certificate) = omega arith
shown_depth (Unexplained (Some o) certificate) = omega arith

proof_depth : (finding : Finding) → depth (proof_form finding) ≤ 5
proof_depth (Met (Some certificate)) = certificate_depth certificate
proof_depth (Met None) = omega arith
proof_depth (Shown pattern) = pattern_depth pattern
proof_depth (Present kind) = omega arith
proof_depth (Unexplained None certificate) = omega arith
proof_depth (Unexplained (Some o) certificate) = omega arith

pub beside_depth : (remark : Option Remark) → deepest (beside remark) ≤ 2
beside_depth None = omega arith
beside_depth (Some (Breaks guarantee)) = omega arith
beside_depth (Some (Without variables kind)) =
    let numbers = deepest-map number_form 0 (λ (n : ℕ). omega arith) variables.items in
    omega arith

pub findings_depth : (findings : Findings) (remarks : Remarks) → depth (findings_form findings remarks) ≤ max_depth
findings_depth findings remarks =
    let cc = shown_depth findings.cc in
    let cm = shown_depth findings.cm in
    let ccv = shown_depth findings.ccv in
    let beside_cc = beside_depth remarks.cc in
    let beside_cm = beside_depth remarks.cm in
    let beside_ccv = beside_depth remarks.ccv in
    omega arith

pub certified_depth : (findings : Findings) (remarks : Remarks) → depth (certified_form findings remarks) ≤ max_depth
certified_depth findings remarks =
    let cc = proof_depth findings.cc in
    let cm = proof_depth findings.cm in
    let ccv = proof_depth findings.ccv in
    let beside_cc = beside_depth remarks.cc in
    let beside_cm = beside_depth remarks.cm in
    let beside_ccv = beside_depth remarks.ccv in
    omega arith

pub shown_has_no_float : (finding : Finding) → has_float (shown_form finding) ≡ false
shown_has_no_float (Met certificate) = refl
shown_has_no_float (Shown pattern) = pattern_has_no_float pattern
shown_has_no_float (Present kind) = refl
shown_has_no_float (Unexplained None certificate) = refl
shown_has_no_float (Unexplained (Some o) certificate) = refl

proof_has_no_float : (finding : Finding) → has_float (proof_form finding) ≡ false
proof_has_no_float (Met (Some certificate)) = certificate_has_no_float certificate
proof_has_no_float (Met None) = refl
proof_has_no_float (Shown pattern) = pattern_has_no_float pattern
proof_has_no_float (Present kind) = refl
proof_has_no_float (Unexplained None certificate) = refl
proof_has_no_float (Unexplained (Some o) certificate) = refl

beside_has_no_float : (remark : Option Remark) → items_have_float (items_of (beside remark)) ≡ false
beside_has_no_float None = refl
beside_has_no_float (Some (Breaks guarantee)) = refl
beside_has_no_float (Some (Without variables kind)) = rw (no_float-map number_form (λ (n : ℕ). refl) variables.items) refl

pub findings_have_no_float : (findings : Findings) (remarks : Remarks) → has_float (findings_form findings remarks) ≡ false
findings_have_no_float findings remarks =
    rw (
      shown_has_no_float findings.cc,
      shown_has_no_float findings.cm,
      shown_has_no_float findings.ccv,
      beside_has_no_float remarks.cc,
      beside_has_no_float remarks.cm,
      beside_has_no_float remarks.ccv,
    ) refl

pub certified_has_no_float : (findings : Findings) (remarks : Remarks) → has_float (certified_form findings remarks) ≡ false
certified_has_no_float findings remarks =
    rw (
      proof_has_no_float findings.cc,
      proof_has_no_float findings.cm,
      proof_has_no_float findings.ccv,
      beside_has_no_float remarks.cc,
      beside_has_no_float remarks.cm,
      beside_has_no_float remarks.ccv,
    ) refl

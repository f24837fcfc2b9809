-- The form of a certificate nests little, and has no float: what is written of it is read back.
use Rattle.std.proofs.Common.{◌≡◌, ◌≤◌, ℕ, false, List, refl, arith}
use Rattle.serde_json.specs.Data.{depth}
use Rattle.serde_json.specs.Written.{has_float}
use Rattle.json_histories.specs.Reads.{list_form, number_form}
use Rattle.order_causal.specs.Vectors.{ByOperation}
use Rattle.cert_check.specs.declared.certificate.Certificate.{Certificate}
use Rattle.cert_check.specs.declared.certificate.Certificate.TheVariants.{Cc, Cm, Ccv}
use Rattle.cert_check.specs.CertificateForm.{form_of, lists_form}
use Rattle.pattern_json.proofs.PatternDepth.{deepest-map, no_float-map}

number_depth : (n : ℕ) → depth (number_form n) ≤ 0
number_depth n = omega arith

row_depth : (row : List ℕ) → depth (list_form number_form row) ≤ 1
row_depth row = let numbers = deepest-map number_form 0 number_depth row in omega arith

rows_depth : (rows : List (List ℕ)) → depth (list_form (list_form number_form) rows) ≤ 2
rows_depth rows = let lists = deepest-map (list_form number_form) 1 row_depth rows in omega arith

lists_depth : (lists : ByOperation ℕ) → depth (lists_form lists) ≤ 3
lists_depth lists = let sessions = deepest-map (list_form (list_form number_form)) 2 rows_depth lists in omega arith

-- the form of a certificate nests to four lists
pub certificate_depth : (certificate : Certificate) → depth (form_of certificate) ≤ 5
certificate_depth (Cc vectors schedules) =
    let above = lists_depth vectors in
    let below = lists_depth schedules in
    omega arith
certificate_depth (Cm vectors schedules) =
    let above = lists_depth vectors in
    let below = lists_depth schedules in
    omega arith
certificate_depth (Ccv vectors arbitration) =
    let above = lists_depth vectors in
    let below = row_depth arbitration in
    omega arith

row_has_no_float : (row : List ℕ) → has_float (list_form number_form row) ≡ false
row_has_no_float row = no_float-map number_form (λ n. refl) row

rows_have_no_float : (rows : List (List ℕ)) → has_float (list_form (list_form number_form) rows) ≡ false
rows_have_no_float rows = no_float-map (list_form number_form) row_has_no_float rows

lists_have_no_float : (lists : ByOperation ℕ) → has_float (lists_form lists) ≡ false
lists_have_no_float lists = no_float-map (list_form (list_form number_form)) rows_have_no_float lists

pub certificate_has_no_float : (certificate : Certificate) → has_float (form_of certificate) ≡ false
certificate_has_no_float (Cc vectors schedules) = rw (lists_have_no_float vectors, lists_have_no_float schedules) refl
certificate_has_no_float (Cm vectors schedules) = rw (lists_have_no_float vectors, lists_have_no_float schedules) refl
certificate_has_no_float (Ccv vectors arbitration) = rw (lists_have_no_float vectors, row_has_no_float arbitration) refl

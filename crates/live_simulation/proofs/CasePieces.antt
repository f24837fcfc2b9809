-- A case has a row for each piece of its file, and no other.
use Rattle.std.proofs.Common.{◌≡◌, ℕ, ◌<◌, List, length, arith, sym, subst, refl}
use Rattle.std.specs.Prelude.{true, Option, Some, None, is_some}
use Rattle.model_history.specs.declared.op_id.OpId.{OpId}
use Rattle.model_history.specs.History.{HistoryValue, session}
use Rattle.cert_check.specs.declared.certificate.Certificate.{Certificate}
use Rattle.cert_check.specs.Certificates.{CaseRecord}
use Rattle.live_case_board.specs.Boards.{CaseState}
use Rattle.live_case_board.specs.Events.{IsRow}
use Rattle.live_simulation.specs.declared.place.Place.{Place}
use Rattle.live_case_board.specs.CaseFiles.{HasPiece}
use Rattle.live_simulation.specs.Steps.KeptCases.{Log, IsCase, rows_for}

module _ {S C R : Type 0} (h : HistoryValue S C R) where
  rows_with : (x : Option Certificate) (t : ℕ) → is_some x ≡ true → length (session h t) ≡ rows_for h x t
  rows_with None t e = absurd (cc)
  rows_with (Some x) t e = refl

  rows_from : (x : Option Certificate) (o : OpId) → o.index < rows_for h x o.session → (is_some x ≡ true) × (o.index < length (session h o.session))
  rows_from None o below = absurd (omega arith)
  rows_from (Some x) o below = (refl, below)

module _ {S C R : Type 0} (answer : S → List C → C → R) (l : Log) (c : ℕ) (f : CaseRecord S C R) (s : CaseState Place) (is : IsCase answer l c f s) where
  pub piece_row : (o : OpId) → HasPiece f o → IsRow s o
  piece_row o piece = subst (λ (n : ℕ). o.index < n) (sym (is.sizes o.session)) (subst (λ (n : ℕ). o.index < n) (rows_with f.0 f.2 o.session piece.0) piece.1)

  pub row_piece : (o : OpId) → IsRow s o → HasPiece f o
  row_piece o row = rows_from f.0 f.2 o (subst (λ (n : ℕ). o.index < n) (is.sizes o.session) row)

-- The pieces of a case file, what their checks come to, and the rows of its case. (This project's profile.)
use Rattle.std.specs.Prelude.{◌≡◌, ◌↔◌, Bool, true, false, List, [], Some, None, IsSome}
use Rattle.model_history.specs.declared.op_id.OpId.{OpId}
use Rattle.model_history.specs.History.{IsOp}
use Rattle.cert_check.specs.declared.checking.Outcome.{Outcome}
use Rattle.cert_check.specs.declared.checking.Outcome.TheVariants.{Explained}
use Rattle.cert_check.specs.Certificates.{CaseRecord, IsExplainedIn}
use Rattle.live_case_board.specs.Boards.{SessionRows, AreRowsOf}

module _ {S C R : Type 0} where
  -- the file has a certificate, and so a piece for each operation of its history
  abbrev pub HasPiece : CaseRecord S C R → OpId → Type 0
  HasPiece file o = IsSome file.2 × IsOp file.0 o

  -- what the check of the piece of o comes to
  abbrev pub IsOutcome : (S → List C → C → R) → CaseRecord S C R → OpId → Outcome → Type 0
  IsOutcome answer file o outcome = (outcome ≡ Explained) ↔ IsExplainedIn answer file o

  -- the rows of a file that is to be filed: whether it has a certificate, and rows without a verdict
  abbrev pub AreRowsFor : CaseRecord S C R → Bool × List SessionRows → Type 0
  AreRowsFor (h, criterion, None) rows = rows ≡ (false, [])
  AreRowsFor (h, criterion, Some certificate) rows = (rows.0 ≡ true) × AreRowsOf h rows.1

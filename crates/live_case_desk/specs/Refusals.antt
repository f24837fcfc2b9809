-- Why a desk refuses. What only the board under the lock can tell is said of the board.
use Rattle.std.specs.Prelude.{⊤}
use Rattle.model_history.specs.declared.op_id.OpId.{OpId}
use Rattle.cert_check.specs.declared.desk_error.DeskError.{DeskError}
use Rattle.cert_check.specs.declared.desk_error.DeskError.TheVariants.{Memory, Full, NotThatPattern, Doubled, Stranger, NoSuch}
use Rattle.cert_check.specs.Certificates.{CaseRecord}
use Rattle.live_case_board.specs.CaseFiles.{HasPiece}
use Rattle.live_case_desk.specs.Files.{CaseOf, VerdictOf, IsSameCase}

-- why a case file is not filed: memory ran out, or the board was full when the lock was held
abbrev pub RefusesFile : DeskError → Type 0
RefusesFile Memory = ⊤
RefusesFile Full = ⊤
RefusesFile _ = ⊥

module _ {S C R : Type 0} where
  -- why a piece is not checked
  abbrev pub RefusesCheck : CaseRecord S C R → OpId → DeskError → Type 0
  RefusesCheck file o NoSuch = ¬ HasPiece file o
  RefusesCheck file o Memory = HasPiece file o
  RefusesCheck file o _ = ⊥

  -- why a verdict is not put: it is of another case; else its row had one when the lock was held
  abbrev pub RefusesVerdict : CaseOf S C R → VerdictOf S C R → DeskError → Type 0
  RefusesVerdict ticket verdict Stranger = ¬ IsSameCase verdict.case_of ticket
  RefusesVerdict ticket verdict Doubled = IsSameCase verdict.case_of ticket
  RefusesVerdict ticket verdict _ = ⊥

-- why a pattern is not taken: it does not pass its test, or memory ran out
abbrev pub RefusesPattern : Type 0 → DeskError → Type 0
RefusesPattern passes NotThatPattern = ¬ passes
RefusesPattern passes Memory = ⊤
RefusesPattern passes _ = ⊥

-- What the pieces of a certificate show.
use Rattle.std.specs.Prelude.{◌≡◌, List, MatchOption, Some, None}
use Rattle.model_history.specs.History.{HistoryValue}
use Rattle.cert_check.specs.declared.certificate.Certificate.{Certificate}
use Rattle.cert_check.specs.Certificates.{CaseRecord, IsExplainedThroughout, IsFirstUnexplained}
use Rattle.live_case_board.specs.declared.answer.Answer.{Answer}
use Rattle.live_case_board.specs.declared.answer.Answer.TheVariants.{Yes, No, Unknown, Open}

module _ {S C R : Type 0} (answer : S → List C → C → R) where
  -- what is said of a certificate of a history: yes where every piece explains its operation, and else unknown with the
  -- first that doesn't
  abbrev pub IsSaidOf : HistoryValue S C R → Certificate → Answer → Type 0
  IsSaidOf h certificate Yes = IsExplainedThroughout answer h certificate
  IsSaidOf h certificate (No kind) = ⊥
  IsSaidOf h certificate (Unknown None) = ⊥
  IsSaidOf h certificate (Unknown (Some o)) = IsFirstUnexplained answer h certificate o
  IsSaidOf h certificate (Open n) = ⊥

  -- what is said of a case file: what its certificate shows, and unknown where it has none
  abbrev pub IsSaidOfFile : CaseRecord S C R → Answer → Type 0
  IsSaidOfFile file said = MatchOption file.2 (said ≡ Unknown None) (λ certificate. IsSaidOf file.0 certificate said)

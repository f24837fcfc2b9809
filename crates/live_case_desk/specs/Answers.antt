-- When what a desk answers of a case is true of the case's file.
use Rattle.std.specs.Prelude.{◌≡◌, ℕ, ◌<◌, ◌≤◌, List, length, Some, None, IsSome}
use Rattle.std.specs.List.{sum_by}
use Rattle.model_history.specs.declared.op_id.OpId.{OpId}
use Rattle.model_history.specs.History.{HistoryValue}
use Rattle.cert_check.specs.declared.criterion.Criterion.{Criterion}
use Rattle.cert_check.specs.declared.certificate.Certificate.{Certificate}
use Rattle.cert_check.specs.Certificates.{CaseRecord, IsExplainedThroughout, IsFirstUnexplained}
use Rattle.pattern_check.specs.declared.kind.Kind.{Kind}
use Rattle.pattern_check.specs.declared.pattern.Pattern.{Pattern}
use Rattle.pattern_check.specs.Patterns.{kind_of}
use Rattle.live_case_board.specs.declared.answer.Answer.{Answer}
use Rattle.live_case_board.specs.declared.answer.Answer.TheVariants.{Yes, No, Unknown, Open}
use Rattle.live_case_desk.specs.Files.{PassesFor}

module _ {S C R : Type 0} where
  -- how many operations a history has
  abbrev pub operations_of : HistoryValue S C R → ℕ
  operations_of h = sum_by length h.1

  -- the file has a certificate of which every piece explains its operation
  abbrev pub IsExplained : (S → List C → C → R) → CaseRecord S C R → Type 0
  IsExplained answer file =
      (certificate : Certificate) × (file.2 ≡ Some certificate) × IsExplainedThroughout answer file.0 certificate

  -- the file has a certificate, and o is the first operation whose piece does not explain it
  abbrev pub IsLeftAt : (S → List C → C → R) → CaseRecord S C R → OpId → Type 0
  IsLeftAt answer file o =
      (certificate : Certificate) × (file.2 ≡ Some certificate) × IsFirstUnexplained answer file.0 certificate o

  -- a pattern of this kind passes its test for the file
  abbrev pub IsRefutedBy : (HistoryValue S C R → Criterion → Pattern → Type 0) → CaseRecord S C R → Kind → Type 0
  IsRefutedBy passes file kind = (p : Pattern) × (kind_of p ≡ kind) × PassesFor passes file p

module _ {S C R : Type 0} (answer : S → List C → C → R) (passes : HistoryValue S C R → Criterion → Pattern → Type 0) (file : CaseRecord S C R) where
  -- an answer is true of a file: with a yes every piece of its certificate explains; a no names the kind of a pattern that
  -- passes; unknown names the first operation that its piece does not explain, or says that there is no certificate; and
  -- where so many rows are open there are as many operations
  abbrev pub IsTrueAnswer : Answer → Type 0
  IsTrueAnswer Yes = IsExplained answer file
  IsTrueAnswer (No kind) = IsRefutedBy passes file kind
  IsTrueAnswer (Unknown None) = file.2 ≡ None
  IsTrueAnswer (Unknown (Some o)) = IsLeftAt answer file o
  IsTrueAnswer (Open n) = IsSome file.2 × (0 < n) × (n ≤ operations_of file.0)

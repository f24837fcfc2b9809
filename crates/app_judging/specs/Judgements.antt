-- What is said of a history and a criterion, and when it is true.
use Rattle.std.specs.Prelude.{◌≡◌, ⊤, ℕ, List, Some, None}
use Rattle.model_history.specs.declared.op_id.OpId.{OpId}
use Rattle.model_history.specs.History.{HistoryValue}
use Rattle.judge_workers.specs.Workers.{AreWorkers}
use Rattle.cert_check.specs.declared.certificate.Certificate.{Certificate}
use Rattle.cert_check.specs.declared.criterion.Criterion.{Criterion}
use Rattle.cert_check.specs.declared.desk_error.DeskError.{DeskError}
use Rattle.cert_check.specs.declared.desk_error.DeskError.TheVariants.{BadWorkers, Memory}
use Rattle.cert_check.specs.Criteria.{Meets}
use Rattle.cert_check.specs.Certificates.{HasShapeOf, IsFirstUnexplained, criterion_of}
use Rattle.pattern_check.specs.declared.kind.Kind.{Kind}
use Rattle.live_case_board.specs.declared.answer.Answer.{Answer}
use Rattle.live_case_board.specs.declared.answer.Answer.TheVariants.{Yes, No, Unknown, Open}

module _ {S C R : Type 0} (answer : S → List C → C → R) (h : HistoryValue S C R) where
  -- a certificate of the criterion has the shape of the history, and o is the first operation that it doesn't explain
  abbrev pub IsUnexplainedOf : Criterion → OpId → Type 0
  IsUnexplainedOf criterion o =
      (certificate : Certificate) × (criterion_of certificate ≡ criterion) × HasShapeOf h certificate × IsFirstUnexplained answer h certificate o

-- an answer is founded: with a yes the criterion is met; a no names a kind that excludes it; unknown names an operation
-- only where it is unexplained; and nothing is open
abbrev pub IsFounded : Type 0 → (Kind → Type 0) → (OpId → Type 0) → Answer → Type 0
IsFounded met excluded unexplained Yes = met
IsFounded met excluded unexplained (No kind) = excluded kind
IsFounded met excluded unexplained (Unknown None) = ⊤
IsFounded met excluded unexplained (Unknown (Some o)) = unexplained o
IsFounded met excluded unexplained (Open n) = ⊥

-- an answer is founded by a certificate of a history, which excludes no criterion
abbrev pub IsFoundedByCertificate : {S C R : Type 0} → (S → List C → C → R) → HistoryValue S C R → Criterion → Answer → Type 0
IsFoundedByCertificate answer h criterion said = IsFounded (Meets answer h criterion) (λ kind. ⊥) (IsUnexplainedOf answer h criterion) said

-- an answer is a yes or a no
abbrev pub IsKnown : Answer → Type 0
IsKnown Yes = ⊤
IsKnown (No kind) = ⊤
IsKnown (Unknown place) = ⊥
IsKnown (Open n) = ⊥

-- why nothing is said: there may not be so many workers, or memory ran out
abbrev pub IsJudgeError : ℕ → DeskError → Type 0
IsJudgeError workers BadWorkers = ¬ AreWorkers workers
IsJudgeError workers Memory = AreWorkers workers
IsJudgeError workers _ = ⊥

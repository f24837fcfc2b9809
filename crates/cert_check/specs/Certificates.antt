-- Certificates: for each operation of a history a vector of its past, and schedules or one list that explain the known
-- returns, as a criterion demands (this project's profile).
use Rattle.std.specs.Prelude.{◌≡◌, ◌≢◌, ℕ, List, Option, Some, filter, length, nat_lt}
use Rattle.model_history.specs.declared.op_id.OpId.{OpId}
use Rattle.model_history.specs.History.{HistoryValue, IsOp, session}
use Rattle.order_causal.specs.Orders.{Ops, IsEarlier, StandsAt, only, program_past}
use Rattle.order_causal.specs.Vectors.{Counts, list_of, count, HasOneEach, AreVectorsOf, IsCounted, IsVectorOk}
use Rattle.cert_check.specs.declared.criterion.Criterion.{Criterion}
use Rattle.cert_check.specs.declared.criterion.Criterion.TheVariants as criteria
use Rattle.cert_check.specs.declared.certificate.Certificate.{Certificate}
use Rattle.cert_check.specs.declared.certificate.Certificate.TheVariants.{Cc, Cm, Ccv}
use Rattle.cert_check.specs.Criteria.{Explains}
use Rattle.cert_check.specs.Schedules.{named, StandsBefore, IsSchedule}
use Rattle.order_causal.specs.Schedules.{placed}

-- the criterion of a certificate
abbrev pub criterion_of : Certificate → Criterion
criterion_of (Cc vectors schedules) = criteria.Cc
criterion_of (Cm vectors schedules) = criteria.Cm
criterion_of (Ccv vectors arbitration) = criteria.Ccv

-- the vectors of a certificate
abbrev pub vectors_of : Certificate → Counts
vectors_of (Cc vectors schedules) = vectors
vectors_of (Cm vectors schedules) = vectors
vectors_of (Ccv vectors arbitration) = vectors

-- what the vector of o counts
abbrev pub counted : Counts → OpId → Ops
counted v o a = nat_lt a.index (count v o a.session)

module _ {S C R : Type 0} where
  -- a certificate has the shape of a history: a vector for each operation, and a schedule for each or one list in which
  -- each session occurs as often as it has operations, and no other number occurs
  abbrev pub HasShapeOf : HistoryValue S C R → Certificate → Type 0
  HasShapeOf h (Cc vectors schedules) = AreVectorsOf h vectors × HasOneEach h schedules
  HasShapeOf h (Cm vectors schedules) = AreVectorsOf h vectors × HasOneEach h schedules
  HasShapeOf h (Ccv vectors arbitration) = AreVectorsOf h vectors × ((s : ℕ) → placed arbitration s ≡ length (session h s))

module _ {S C R : Type 0} (answer : S → List C → C → R) (h : HistoryValue S C R) where
  -- the piece of o by a schedule: its vector and its schedule are good, and the operations that the schedule names
  -- explain the known returns that are kept
  pub record IsScheduledPiece (v : Counts) (schedule : List ℕ) (o : OpId) (kept : Ops) : Type 0 where
    pub vector : IsVectorOk h v o
    pub schedules : IsSchedule h v o schedule
    pub explains : Explains answer h (named schedule) kept

  -- the piece of o by one list: its vector is good, the others that its vector counts stand before it in the list, and
  -- what the vector counts, in the list's order, explains the known return of o
  pub record IsArbitratedPiece (v : Counts) (arbitration : List ℕ) (o : OpId) : Type 0 where
    pub vector : IsVectorOk h v o
    pub after_counted : (k : ℕ) (a : OpId) → StandsAt (named arbitration) k o → IsCounted v o a → a ≢ o → StandsBefore (named arbitration) k a
    pub explains : Explains answer h (filter (counted v o) (named arbitration)) (only o)

  -- the piece of the operation o in a certificate explains it
  abbrev pub IsExplainedPiece : Certificate → OpId → Type 0
  IsExplainedPiece (Cc vectors schedules) o = IsScheduledPiece vectors (list_of schedules o) o (only o)
  IsExplainedPiece (Cm vectors schedules) o = IsScheduledPiece vectors (list_of schedules o) o (program_past o)
  IsExplainedPiece (Ccv vectors arbitration) o = IsArbitratedPiece vectors arbitration o

  -- every piece explains its operation
  abbrev pub IsExplainedThroughout : Certificate → Type 0
  IsExplainedThroughout certificate = (o : OpId) → IsOp h o → IsExplainedPiece certificate o

  -- a certificate of a criterion and of good shape, of which every piece explains its operation
  abbrev pub Certifies : Criterion → Certificate → Type 0
  Certifies criterion certificate =
      (criterion_of certificate ≡ criterion) × HasShapeOf h certificate × IsExplainedThroughout certificate

  -- the first operation whose piece doesn't explain it
  pub record IsFirstUnexplained (certificate : Certificate) (o : OpId) : Type 0 where
    pub is_op : IsOp h o
    pub unexplained : ¬ IsExplainedPiece certificate o
    pub earlier : (a : OpId) → IsOp h a → IsEarlier a o → IsExplainedPiece certificate a

-- a case file: a history, a criterion and, where there is one, a certificate
abbrev pub CaseRecord : Type 0 → Type 0 → Type 0 → Type 0
CaseRecord S C R = HistoryValue S C R × Criterion × Option Certificate

module _ {S C R : Type 0} where
  -- the certificate, where there is one, is for the criterion and has the shape of the history
  abbrev pub IsCaseFile : CaseRecord S C R → Type 0
  IsCaseFile file =
      (certificate : Certificate) → file.2 ≡ Some certificate → (criterion_of certificate ≡ file.1) × HasShapeOf file.0 certificate

  -- the certificate of a case file has a piece that explains the operation o
  abbrev pub IsExplainedIn : (S → List C → C → R) → CaseRecord S C R → OpId → Type 0
  IsExplainedIn answer file o =
      (certificate : Certificate) × (file.2 ≡ Some certificate) × IsExplainedPiece answer file.0 certificate o

-- What is known between one piece and the next, in terms of the checker's own data.
use Rattle.std.specs.Prelude.{⊤, ◌≡◌, ℕ, List, Some, length}
use Rattle.model_history.specs.declared.op_id.OpId.{OpId}
use Rattle.model_history.specs.History.{HistoryValue}
use Rattle.order_causal.specs.Orders.{program_past}
use Rattle.order_causal.specs.Vectors.{AreVectorsOf, Counts}
use Rattle.cert_check.specs.declared.certificate.Certificate.{Certificate}
use Rattle.cert_check.specs.declared.certificate.Certificate.TheVariants.{Cc, Cm, Ccv}
use Rattle.cert_check.specs.declared.need.Need.{Need}
use Rattle.cert_check.specs.Certificates.{CaseRecord, HasShapeOf, vectors_of}
use Rattle.cert_check.specs.Steps.Namings.{AreCountsAt, AreNamedWell}
use Rattle.cert_check.specs.Steps.Needs.{AreNeedsOf}
use Rattle.cert_check.specs.Steps.Replays.{AreAnswered}

module _ {S C R : Type 0} where
  -- a schedule that names operations well was gone through to its end
  pub record IsAtEnd (h : HistoryValue S C R) (v : Counts) (listed : List (List Need)) (schedule counts : List ℕ) : Type 0 where
    pub shape : AreVectorsOf h v
    pub needs : AreNeedsOf v listed
    pub counting : AreCountsAt schedule (length schedule) (length h.1) counts
    pub well : AreNamedWell h v schedule (length schedule)

  -- the known returns of a session are the answers at their places in a schedule
  pub record AnswersSession (answer : S → List C → C → R) (h : HistoryValue S C R) (schedule : List ℕ) (s : ℕ) : Type 0 where
    pub each : (o : OpId) → o.session ≡ s → AreAnswered answer h (program_past o) schedule (length schedule)

  -- a walk over the one list of a certificate, where it has one, has counted what is named before its place
  abbrev pub IsListWalkOf : HistoryValue S C R → Certificate → ℕ → List ℕ → Type 0
  IsListWalkOf h (Cc vectors schedules) place counts = ⊤
  IsListWalkOf h (Cm vectors schedules) place counts = ⊤
  IsListWalkOf h (Ccv vectors arbitration) place counts = AreCountsAt arbitration place (length h.1) counts

  -- a checker holds the certificate of a case file, and what it goes through and replays is of that
  pub record IsCheckerOf (file : CaseRecord S C R) (held : Certificate) (walked : HistoryValue S C R × Counts) (replayed : HistoryValue S C R)
      (place : ℕ) (counts : List ℕ) : Type 0 where
    pub certificate : file.2 ≡ Some held
    pub shape : HasShapeOf file.0 held
    pub walk : walked ≡ (file.0, vectors_of held)
    pub past : replayed ≡ file.0
    pub list : IsListWalkOf file.0 held place counts

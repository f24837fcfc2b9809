-- Which reply a step of a worker or of the desk's users has, read off the steps and replies before.
use Rattle.std.specs.Prelude.{◌≡◌, ◌≢◌, ◌⊎◌, ℕ, ◌<◌, if◌then◌else◌, List, [], length, Option, Some, None, option_map, slice_get, nat_lt}
use Rattle.live_case_board.specs.declared.board.TheConstants.{MAX_CASES}
use Rattle.model_history.specs.declared.op_id.OpId.{OpId}
use Rattle.model_history.specs.History.{HistoryValue, IsOp}
use Rattle.order_causal.specs.Orders.{IsEarlier}
use Rattle.cert_check.specs.declared.criterion.Criterion.{Criterion}
use Rattle.cert_check.specs.declared.certificate.Certificate.{Certificate}
use Rattle.cert_check.specs.declared.checking.Outcome.{Outcome}
use Rattle.cert_check.specs.Certificates.{CaseRecord, IsCaseFile, IsExplainedThroughout, IsFirstUnexplained}
use Rattle.pattern_check.specs.declared.pattern.Pattern.{Pattern}
use Rattle.pattern_check.specs.Patterns.{kind_of}
use Rattle.live_case_board.specs.CaseFiles.{HasPiece, IsOutcome}
use Rattle.live_case_board.specs.declared.piece.Piece.{Piece}
use Rattle.live_case_board.specs.declared.answer.Answer.{Answer as Standing}
use Rattle.live_case_board.specs.declared.answer.Answer.TheVariants.{Yes, No, Unknown, Open}
use Rattle.live_simulation.specs.declared.step.StepOf.{StepOf}
use Rattle.live_simulation.specs.declared.step.StepOf.TheVariants.{File, Take, Work, Put, Refute, Ask}
use Rattle.live_simulation.specs.declared.reply.ReplyOf.{ReplyOf}
use Rattle.live_simulation.specs.declared.reply.ReplyOf.TheVariants.{Case, Taken, Verdict, Accepted, Answer, Refused}
use Rattle.live_simulation.specs.declared.refusal.Refusal.TheVariants.{ShapeMismatch, Full, NotThatPattern, Doubled, Stranger, NoSuch}
use Rattle.live_simulation.specs.Happened.{events}
use Rattle.live_simulation.specs.LaneReplies.{seal}
use Rattle.live_simulation.specs.Cases.{Filing, filings, verdicts, patterns, case_file, WasTaken, HasVerdict}

module _ {S C R : Type 0} (es : List (StepOf C R × ReplyOf (HistoryValue S C R))) where
  -- the next case, where 64 are not filed
  abbrev pub next_case : ReplyOf (HistoryValue S C R)
  next_case = if nat_lt (length (filings es)) MAX_CASES then Case (length (filings es)) else Refused Full

  -- a history is filed where the certificate, if there is one, fits it
  abbrev pub IsFileReply : Criterion → Option Certificate → Option (HistoryValue S C R) → ReplyOf (HistoryValue S C R) → Type 0
  IsFileReply criterion certificate None r = r ≡ Refused NoSuch
  IsFileReply criterion certificate (Some h) r =
      (IsCaseFile (h, criterion, certificate) × (r ≡ next_case)) ⊎ ((¬ IsCaseFile (h, criterion, certificate)) × (r ≡ Refused ShapeMismatch))

  -- a verdict is accepted by its own case, once for each operation
  abbrev pub IsPutTo : ℕ → Piece → ReplyOf (HistoryValue S C R) → Type 0
  IsPutTo c piece r =
      ((piece.number ≢ c) × (r ≡ Refused Stranger))
      ⊎ ((piece.number ≡ c) × ((HasVerdict es c piece.op × (r ≡ Refused Doubled)) ⊎ ((¬ HasVerdict es c piece.op) × (r ≡ Accepted))))

  abbrev pub IsPutReply : ℕ → Option Filing → Option Piece → ReplyOf (HistoryValue S C R) → Type 0
  IsPutReply c None piece r = r ≡ Refused NoSuch
  IsPutReply c (Some f) None r = r ≡ Refused NoSuch
  IsPutReply c (Some f) (Some piece) r = IsPutTo c piece r

  -- a pattern is accepted where it passes
  abbrev pub IsRefuteReply : (HistoryValue S C R → Criterion → Pattern → Type 0) → Pattern → Option (CaseRecord S C R) → ReplyOf (HistoryValue S C R) → Type 0
  IsRefuteReply passes pattern None r = r ≡ Refused NoSuch
  IsRefuteReply passes pattern (Some f) r = (passes f.0 f.1 pattern × (r ≡ Accepted)) ⊎ ((¬ passes f.0 f.1 pattern) × (r ≡ Refused NotThatPattern))

  -- so many operations of the case have no verdict: as many as a list of them has, in which each stands once
  pub record AreOpen (c : ℕ) (f : CaseRecord S C R) (n : ℕ) : Type 0 where
    pub ops : List OpId
    pub many : length ops ≡ n
    pub each : (o : OpId) → IsOp f.0 o → ¬ HasVerdict es c o → (i : ℕ) × (slice_get ops i ≡ Some o)
    pub no_other : (i : ℕ) (o : OpId) → slice_get ops i ≡ Some o → IsOp f.0 o × ¬ HasVerdict es c o
    pub once : (i j : ℕ) (o : OpId) → slice_get ops i ≡ Some o → slice_get ops j ≡ Some o → i ≡ j

module _ {S C R : Type 0} (answer : S → List C → C → R) (es : List (StepOf C R × ReplyOf (HistoryValue S C R))) where
  -- a piece is checked: the next verdict says whether it explains its operation
  abbrev pub IsWorkReply : OpId → Option (CaseRecord S C R) → ReplyOf (HistoryValue S C R) → Type 0
  IsWorkReply o None r = r ≡ Refused NoSuch
  IsWorkReply o (Some f) r =
      ((¬ HasPiece f o) × (r ≡ Refused NoSuch))
      ⊎ (HasPiece f o × ((outcome : Outcome) × (r ≡ Verdict (length (verdicts es)) outcome) × IsOutcome answer f o outcome))

  -- no pattern was accepted against the case, and it has this certificate
  abbrev pub IsUndecided : ℕ → CaseRecord S C R → Certificate → Type 0
  IsUndecided c f certificate = (patterns es c ≡ []) × (f.2 ≡ Some certificate)

  -- how a case stands: refuted by the first pattern that was accepted, or else without a certificate, or else with so many
  -- operations without a verdict, or else explained or not by its certificate
  abbrev pub IsAnswer : ℕ → CaseRecord S C R → Standing → Type 0
  IsAnswer c f (No kind) = option_map kind_of (slice_get (patterns es c) 0) ≡ Some kind
  IsAnswer c f (Unknown None) = (patterns es c ≡ []) × (f.2 ≡ None)
  IsAnswer c f (Open n) = (certificate : Certificate) × IsUndecided c f certificate × AreOpen es c f n × (0 < n)
  IsAnswer c f Yes = (certificate : Certificate) × IsUndecided c f certificate × AreOpen es c f 0 × IsExplainedThroughout answer f.0 certificate
  IsAnswer c f (Unknown (Some o)) = (certificate : Certificate) × IsUndecided c f certificate × AreOpen es c f 0 × IsFirstUnexplained answer f.0 certificate o

  abbrev pub IsAskReply : ℕ → Option (CaseRecord S C R) → ReplyOf (HistoryValue S C R) → Type 0
  IsAskReply c None r = r ≡ Refused NoSuch
  IsAskReply c (Some f) r = (standing : Standing) × (r ≡ Answer standing) × IsAnswer c f standing

module _ {S C R : Type 0} (start : S) (k : ℕ) (es : List (StepOf C R × ReplyOf (HistoryValue S C R))) where
  -- a piece that may be taken: of a case with a certificate that no pattern refutes, not taken yet and without a verdict
  pub record IsFree (c : ℕ) (o : OpId) : Type 0 where
    pub file : CaseRecord S C R
    pub filed : case_file start k es c ≡ Some file
    pub piece : HasPiece file o
    pub unrefuted : patterns es c ≡ []
    pub not_taken : ¬ WasTaken es c o
    pub no_verdict : ¬ HasVerdict es c o

  -- the first such piece is taken: of the first case, and of its operations the first
  pub record IsFirstFree (piece : Piece) : Type 0 where
    pub free : IsFree piece.number piece.op
    pub first_case : (c : ℕ) (o : OpId) → c < piece.number → ¬ IsFree c o
    pub first_op : (o : OpId) → IsEarlier o piece.op → ¬ IsFree piece.number o

  abbrev pub IsTake : Option Piece → Type 0
  IsTake None = (c : ℕ) (o : OpId) → ¬ IsFree c o
  IsTake (Some piece) = IsFirstFree piece

  abbrev pub IsTakeReply : ReplyOf (HistoryValue S C R) → Type 0
  IsTakeReply r = (piece : Option Piece) × (r ≡ Taken piece) × IsTake piece

module _ {S C R : Type 0} (answer : S → List C → C → R) (passes : HistoryValue S C R → Criterion → Pattern → Type 0) (start : S) (k : ℕ) (es : List (StepOf C R × ReplyOf (HistoryValue S C R))) where
  -- the reply of a step of a worker or of the desk's users, where these were the steps before. Of other steps it says nothing
  abbrev pub IsBoardReply : StepOf C R → ReplyOf (HistoryValue S C R) → Type 0
  IsBoardReply (File z criterion certificate) r = IsFileReply es criterion certificate (seal start k (events es) z) r
  IsBoardReply Take r = IsTakeReply start k es r
  IsBoardReply (Work c o) r = IsWorkReply answer es o (case_file start k es c) r
  IsBoardReply (Put c v) r = IsPutReply es c (slice_get (filings es) c) (slice_get (verdicts es) v) r
  IsBoardReply (Refute c pattern) r = IsRefuteReply es passes pattern (case_file start k es c) r
  IsBoardReply (Ask c) r = IsAskReply answer es c (case_file start k es c) r
  IsBoardReply _ r = Unit {0}

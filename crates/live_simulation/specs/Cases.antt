-- Cases, verdicts and what was put to the board, read off steps with their replies.
use Rattle.std.specs.Prelude.{◌≡◌, ℕ, ◌==◌, if◌then◌else◌, List, Option, Some, None, slice_get}
use Rattle.std.specs.List.{filter_map}
use Rattle.model_history.specs.declared.op_id.OpId.{OpId}
use Rattle.model_history.specs.History.{HistoryValue}
use Rattle.cert_check.specs.declared.criterion.Criterion.{Criterion}
use Rattle.cert_check.specs.declared.certificate.Certificate.{Certificate}
use Rattle.cert_check.specs.Certificates.{CaseRecord}
use Rattle.pattern_check.specs.declared.pattern.Pattern.{Pattern}
use Rattle.live_case_board.specs.declared.piece.Piece.{Piece}
use Rattle.live_simulation.specs.declared.step.StepOf.{StepOf}
use Rattle.live_simulation.specs.declared.step.StepOf.TheVariants.{File, Take, Work, Put, Refute}
use Rattle.live_simulation.specs.declared.reply.ReplyOf.{ReplyOf}
use Rattle.live_simulation.specs.declared.reply.ReplyOf.TheVariants.{Case, Taken, Verdict, Accepted}
use Rattle.live_simulation.specs.Happened.{events}
use Rattle.live_simulation.specs.LaneReplies.{seal}

-- what a case was filed from: a sealer's history, a criterion, and a certificate or none
pub record Filing : Type 0 where
  pub sealer : ℕ
  pub criterion : Criterion
  pub certificate : Option Certificate

module _ {H : Type 0} where
  abbrev pub if_filed : Filing → ReplyOf H → Option Filing
  if_filed filing (Case c) = Some filing
  if_filed filing _ = None

  abbrev pub if_given : Piece → ReplyOf H → Option Piece
  if_given piece (Verdict v outcome) = Some piece
  if_given piece _ = None

  abbrev pub if_accepted : {A : Type 0} → A → ReplyOf H → Option A
  if_accepted a Accepted = Some a
  if_accepted a _ = None

  abbrev pub if_taken : ReplyOf H → Option Piece
  if_taken (Taken piece) = piece
  if_taken _ = None

module _ {C R H : Type 0} where
  -- what a step did where it was not refused: it filed a case, gave a verdict on a piece, put a verdict to a case, put a
  -- pattern against this case, or took a piece
  abbrev pub filed : StepOf C R → ReplyOf H → Option Filing
  filed (File z criterion certificate) reply = if_filed record { sealer = z; criterion = criterion; certificate = certificate } reply
  filed _ reply = None

  abbrev pub given : StepOf C R → ReplyOf H → Option Piece
  given (Work c o) reply = if_given record { number = c; op = o } reply
  given _ reply = None

  abbrev pub put : StepOf C R → ReplyOf H → Option (ℕ × ℕ)
  put (Put c v) reply = if_accepted (c, v) reply
  put _ reply = None

  abbrev pub refuted : ℕ → StepOf C R → ReplyOf H → Option Pattern
  refuted c (Refute d pattern) reply = if d == c then if_accepted pattern reply else None
  refuted c _ reply = None

  abbrev pub took : StepOf C R → ReplyOf H → Option Piece
  took Take reply = if_taken reply
  took _ reply = None

module _ {C R H : Type 0} (es : List (StepOf C R × ReplyOf H)) where
  -- the cases, the pieces that verdicts are of, which verdicts were put to which case, the patterns that were accepted against
  -- a case, and the pieces that were taken; each in order
  abbrev pub filings : List Filing
  filings = filter_map (λ (e : StepOf C R × ReplyOf H). filed e.0 e.1) es

  abbrev pub verdicts : List Piece
  verdicts = filter_map (λ (e : StepOf C R × ReplyOf H). given e.0 e.1) es

  abbrev pub puts : List (ℕ × ℕ)
  puts = filter_map (λ (e : StepOf C R × ReplyOf H). put e.0 e.1) es

  abbrev pub patterns : ℕ → List Pattern
  patterns c = filter_map (λ (e : StepOf C R × ReplyOf H). refuted c e.0 e.1) es

  abbrev pub taken : List Piece
  taken = filter_map (λ (e : StepOf C R × ReplyOf H). took e.0 e.1) es

  -- the piece was taken
  abbrev pub WasTaken : ℕ → OpId → Type 0
  WasTaken c o = (n : ℕ) × (slice_get taken n ≡ Some record { number = c; op = o })

  -- a verdict on the operation was put to the case
  abbrev pub HasVerdict : ℕ → OpId → Type 0
  HasVerdict c o = (n v : ℕ) × (slice_get puts n ≡ Some (c, v)) × (slice_get verdicts v ≡ Some record { number = c; op = o })

-- a filing with the history that was filed
abbrev pub filed_with : {S C R : Type 0} → Filing → Option (HistoryValue S C R) → Option (CaseRecord S C R)
filed_with f None = None
filed_with f (Some h) = Some (h, f.criterion, f.certificate)

module _ {S C R : Type 0} (start : S) (k : ℕ) (es : List (StepOf C R × ReplyOf (HistoryValue S C R))) where
  abbrev pub file_of : Option Filing → Option (CaseRecord S C R)
  file_of None = None
  file_of (Some f) = filed_with f (seal start k (events es) f.sealer)

  -- the file of a case: the history of the sealer that it was filed from, its criterion and its certificate
  abbrev pub case_file : ℕ → Option (CaseRecord S C R)
  case_file c = file_of (slice_get (filings es) c)

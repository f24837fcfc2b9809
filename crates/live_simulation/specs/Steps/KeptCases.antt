-- What the cases of a running world keep, and that it is what the steps before say of them.
use Rattle.std.specs.Prelude.{◌≡◌, ◌⊎◌, ℕ, ◌<◌, ◌≤◌, ◌==◌, Bool, if◌then◌else◌, List, [], ◌∷◌, ◌++◌, map, length, Option, Some, None, is_some, slice_get, slice_set}
use Rattle.model_history.specs.declared.op_id.OpId.{OpId}
use Rattle.model_history.specs.History.{HistoryValue, session}
use Rattle.cert_check.specs.declared.criterion.Criterion.{Criterion}
use Rattle.cert_check.specs.declared.certificate.Certificate.{Certificate}
use Rattle.cert_check.specs.declared.checking.Outcome.{Outcome}
use Rattle.cert_check.specs.Certificates.{CaseRecord}
use Rattle.pattern_check.specs.declared.pattern.Pattern.{Pattern}
use Rattle.live_case_board.specs.declared.piece.Piece.{Piece}
use Rattle.live_case_board.specs.declared.board_error.BoardError.{BoardError}
use Rattle.live_case_board.specs.Boards.{CaseState, SessionRows, fresh_case, session_of, row_of}
use Rattle.live_case_board.specs.CaseFiles.{AreRowsFor, HasPiece, IsOutcome}
use Rattle.live_case_board.specs.Events.{IsRow}
use Rattle.live_simulation.specs.declared.place.Place.{Place}
use Rattle.live_simulation.specs.declared.given_verdict.GivenVerdict.{GivenVerdict}
use Rattle.live_simulation.specs.declared.step.StepOf.{StepOf}
use Rattle.live_simulation.specs.declared.step.StepOf.TheVariants.{File}
use Rattle.live_simulation.specs.declared.reply.ReplyOf.{ReplyOf}
use Rattle.live_simulation.specs.declared.reply.ReplyOf.TheVariants.{Accepted, Refused}
use Rattle.live_simulation.specs.declared.refusal.Refusal.{Refusal}
use Rattle.live_simulation.specs.declared.refusal.Refusal.TheVariants.{NotThatPattern, NoSuch}
use Rattle.live_simulation.specs.Refusals.{refusal_of}
use Rattle.live_simulation.specs.Happened.{events}
use Rattle.live_simulation.specs.LaneReplies.{seal}
use Rattle.live_simulation.specs.Cases.{filings, verdicts, puts, patterns, taken, case_file}
use Rattle.live_simulation.specs.BoardReplies.{IsBoardReply}
use Rattle.live_simulation.specs.Steps.Recordings.{after}

-- accepted, where the board refuses nothing
abbrev pub accepted_unless : {H : Type 0} → Option BoardError → ReplyOf H
accepted_unless None = Accepted
accepted_unless (Some e) = Refused (refusal_of e)

-- the place that a mark names
abbrev pub place_of : Place → ℕ
place_of p = p.number

-- which verdicts were put to which case, the pieces that verdicts are of, the patterns that were accepted against each case,
-- and the pieces that were taken
pub record Log : Type 0 where
  pub puts : List (ℕ × ℕ)
  pub verdicts : List Piece
  pub patterns : ℕ → List Pattern
  pub taken : List Piece

-- what steps with their replies say of these
abbrev pub log_of : {C R H : Type 0} → List (StepOf C R × ReplyOf H) → Log
log_of es = record { puts = puts es; verdicts = verdicts es; patterns = patterns es; taken = taken es }

-- with one more verdict given, put or taken piece, and with one more pattern against a case
abbrev pub with_given : Log → Piece → Log
with_given l p = record { puts = l.puts; verdicts = l.verdicts ++ p ∷ []; patterns = l.patterns; taken = l.taken }

abbrev pub with_put : Log → ℕ → ℕ → Log
with_put l c v = record { puts = l.puts ++ (c, v) ∷ []; verdicts = l.verdicts; patterns = l.patterns; taken = l.taken }

abbrev pub with_taken : Log → Piece → Log
with_taken l p = record { puts = l.puts; verdicts = l.verdicts; patterns = l.patterns; taken = l.taken ++ p ∷ [] }

abbrev pub with_pattern : Log → ℕ → Pattern → Log
with_pattern l c p = record { puts = l.puts; verdicts = l.verdicts; patterns = λ d. after (l.patterns d) (if c == d then Some p else None); taken = l.taken }

-- the piece was taken, and a verdict on the operation was put to the case
abbrev pub WasTakenIn : Log → ℕ → OpId → Type 0
WasTakenIn l c o = (n : ℕ) × (slice_get l.taken n ≡ Some record { number = c; op = o })

abbrev pub HasVerdictIn : Log → ℕ → OpId → Type 0
HasVerdictIn l c o = (n v : ℕ) × (slice_get l.puts n ≡ Some (c, v)) × (slice_get l.verdicts v ≡ Some record { number = c; op = o })

-- nothing is known of cases from this number on, nor was a verdict put that was not given
pub record IsKnown (l : Log) (n : ℕ) : Type 0 where
  pub puts : (i c v : ℕ) → slice_get l.puts i ≡ Some (c, v) → (c < n) × (v < length l.verdicts)
  pub patterns : (c : ℕ) → n ≤ c → l.patterns c ≡ []
  pub taken : (i : ℕ) (p : Piece) → slice_get l.taken i ≡ Some p → p.number < n

-- the files of the cases, the board, and the verdicts that were given
pub record CasesState (S C R : Type 0) : Type 0 where
  pub files : List (CaseRecord S C R)
  pub board : List (CaseState Place)
  pub verdicts : List GivenVerdict

module _ {S C R : Type 0} where
  -- how many rows a session of a case has: one for each operation, and none without a certificate
  abbrev pub rows_for : HistoryValue S C R → Option Certificate → ℕ → ℕ
  rows_for h None t = 0
  rows_for h (Some certificate) t = length (session h t)

  -- the case has this piece
  abbrev pub HasPieceAt : List (CaseRecord S C R) → ℕ → OpId → Type 0
  HasPieceAt files c o = (f : CaseRecord S C R) × (slice_get files c ≡ Some f) × HasPiece f o

  -- after the board became this, after a case of it did, and after one more verdict was given
  abbrev pub with_board : CasesState S C R → List (CaseState Place) → CasesState S C R
  with_board w b = record { files = w.files; board = b; verdicts = w.verdicts }

  abbrev pub with_case : CasesState S C R → ℕ → CaseState Place → CasesState S C R
  with_case w c s = with_board w (slice_set w.board c s)

  abbrev pub with_verdict_given : CasesState S C R → GivenVerdict → CasesState S C R
  with_verdict_given w g = record { files = w.files; board = w.board; verdicts = w.verdicts ++ g ∷ [] }

  -- after one more case was filed
  abbrev pub with_file : CasesState S C R → CaseRecord S C R → CaseState Place → CasesState S C R
  with_file w f s = record { files = w.files ++ f ∷ []; board = w.board ++ s ∷ []; verdicts = w.verdicts }

  -- after one more file came
  abbrev pub with_one_file : CasesState S C R → CaseRecord S C R → CasesState S C R
  with_one_file w f = record { files = w.files ++ f ∷ []; board = w.board; verdicts = w.verdicts }

  -- one more case was filed, with such rows
  abbrev pub IsAdded : CaseRecord S C R → CasesState S C R → CasesState S C R → Type 0
  IsAdded f old new = (rows : Bool × List SessionRows) × AreRowsFor f rows × (new ≡ with_file old f (fresh_case record { number = length old.files } rows))

  -- why a pattern is refused, at a case that is there or is not
  abbrev pub IsRefusal : (HistoryValue S C R → Criterion → Pattern → Type 0) → Pattern → Option (CaseRecord S C R) → Option Refusal → Type 0
  IsRefusal passes pattern None r = r ≡ Some NoSuch
  IsRefusal passes pattern (Some f) r = (passes f.0 f.1 pattern × (r ≡ None)) ⊎ ((¬ passes f.0 f.1 pattern) × (r ≡ Some NotThatPattern))

module _ {S C R : Type 0} (answer : S → List C → C → R) where
  -- a verdict is on a piece of one of these files, and true
  pub record IsVerdict (files : List (CaseRecord S C R)) (g : GivenVerdict) : Type 0 where
    pub file : CaseRecord S C R
    pub filed : slice_get files g.piece.number ≡ Some file
    pub piece : HasPiece file g.piece.op
    pub outcome : IsOutcome answer file g.piece.op g.outcome

  -- a case of the board is what is known of the case of this number and file: a row for each piece, filled where a verdict was
  -- put, with what the check of the piece comes to; the first pattern; and in each session no row before the next is free
  pub record IsCase (l : Log) (c : ℕ) (f : CaseRecord S C R) (s : CaseState Place) : Type 0 where
    pub mark : s.mark.number ≡ c
    pub certificate : s.has_certificate ≡ is_some f.2
    pub sizes : (t : ℕ) → length (session_of s t).rows ≡ rows_for f.0 f.2 t
    pub empty : (o : OpId) → row_of s o ≡ Some None → ¬ HasVerdictIn l c o
    pub filled : (o : OpId) (outcome : Outcome) → row_of s o ≡ Some (Some outcome) → HasVerdictIn l c o × IsOutcome answer f o outcome
    pub pattern : s.pattern ≡ slice_get (l.patterns c) 0
    pub behind : (o : OpId) → WasTakenIn l c o → o.index < (session_of s o.session).next
    pub passed : (o : OpId) → IsRow s o → o.index < (session_of s o.session).next → WasTakenIn l c o ⊎ HasVerdictIn l c o

  -- a state is what is known of its files
  pub record AreCases (l : Log) (w : CasesState S C R) : Type 0 where
    pub as_many : length w.board ≡ length w.files
    pub cases : (c : ℕ) (f : CaseRecord S C R) (s : CaseState Place) → slice_get w.files c ≡ Some f → slice_get w.board c ≡ Some s → IsCase l c f s
    pub given : map (λ (g : GivenVerdict). g.piece) w.verdicts ≡ l.verdicts
    pub true_verdicts : (v : ℕ) (g : GivenVerdict) → slice_get w.verdicts v ≡ Some g → IsVerdict w.files g
    pub known : IsKnown l (length w.files)

module _ {S C R : Type 0} (start : S) (k : ℕ) (es : List (StepOf C R × ReplyOf (HistoryValue S C R))) where
  -- these are the files of the cases
  pub record AreFiles (files : List (CaseRecord S C R)) : Type 0 where
    pub many : length files ≡ length (filings es)
    pub each : (c : ℕ) → slice_get files c ≡ case_file start k es c

-- the state is the one behind these steps
pub record ShowsCases {S C R : Type 0} (answer : S → List C → C → R) (start : S) (k : ℕ) (es : List (StepOf C R × ReplyOf (HistoryValue S C R))) (w : CasesState S C R) : Type 0 where
  pub files : AreFiles start k es w.files
  pub cases : AreCases answer (log_of es) w

module _ {S C R : Type 0} (answer : S → List C → C → R) (passes : HistoryValue S C R → Criterion → Pattern → Type 0) where
  -- from all steps that may have been taken where this was the old state, the reply is that of the step, and the new state is
  -- the one behind it
  abbrev pub TakesOn : StepOf C R → CasesState S C R → ReplyOf (HistoryValue S C R) → CasesState S C R → Type 0
  TakesOn step old reply new =
      (start : S) (k : ℕ) (es : List (StepOf C R × ReplyOf (HistoryValue S C R))) → ShowsCases answer start k es old
      → IsBoardReply answer passes start k es step reply × ShowsCases answer start k (es ++ (step, reply) ∷ []) new

  -- the same of filing, where this is the history of the sealer
  abbrev pub Files : HistoryValue S C R → Criterion → Option Certificate → CasesState S C R → ReplyOf (HistoryValue S C R) → CasesState S C R → Type 0
  Files h criterion certificate old reply new =
      (start : S) (k : ℕ) (es : List (StepOf C R × ReplyOf (HistoryValue S C R))) (z : ℕ) → ShowsCases answer start k es old → seal start k (events es) z ≡ Some h
      → IsBoardReply answer passes start k es (File z criterion certificate) reply × ShowsCases answer start k (es ++ (File z criterion certificate, reply) ∷ []) new

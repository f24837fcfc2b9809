-- What the events of a board answer and change.
use Rattle.std.specs.Prelude.{◌≡◌, ℕ, ◌==◌, ◌<◌, ◌≤◌, Bool, true, false, if◌then◌else◌, List, length, Option, Some, None, option_map, slice_get, slice_set}
use Rattle.cert_check.specs.declared.checking.Outcome.TheVariants.{Explained, Unexplained}
use Rattle.pattern_check.specs.Patterns.{kind_of}
use Rattle.model_history.specs.declared.op_id.OpId.{OpId}
use Rattle.order_causal.specs.Orders.{IsEarlier}
use Rattle.live_case_board.specs.Boards.{CaseState, SessionRows, Row, session_of, row_of, open_rows}
use Rattle.live_case_board.specs.declared.board_error.BoardError.{BoardError}
use Rattle.live_case_board.specs.declared.board_error.BoardError.TheVariants.{NotThatPattern, Doubled, Stranger, NoSuch}
use Rattle.live_case_board.specs.declared.piece.Piece.{Piece}
use Rattle.live_case_board.specs.declared.answer.Answer.{Answer}
use Rattle.live_case_board.specs.declared.answer.Answer.TheVariants.{Yes, No, Unknown, Open}

-- why a verdict on a row is refused: there is no such row, or it has one already
abbrev pub row_refusal : Option Row → Option BoardError
row_refusal None = Some NoSuch
row_refusal (Some (Some outcome)) = Some Doubled
row_refusal (Some None) = None

-- a row that may be handed out: it was not, and no verdict came
abbrev pub IsFreeIn : SessionRows → ℕ → Type 0
IsFreeIn t i = (t.next ≤ i) × (slice_get t.rows i ≡ Some None)

module _ {M : Type 0} where
  -- the one case became what f says, and every other stays
  abbrev pub IsChanged : ℕ → (CaseState M → CaseState M) → List (CaseState M) → List (CaseState M) → Type 0
  IsChanged number f old new = (s : CaseState M) → slice_get old number ≡ Some s → new ≡ slice_set old number (f s)

  abbrev pub IsFree : CaseState M → OpId → Type 0
  IsFree s o = IsFreeIn (session_of s o.session) o.index

  -- the operation of a case that is handed out: the first free one, where no pattern refutes the case
  pub record IsDue (s : CaseState M) (o : OpId) : Type 0 where
    pub unrefuted : s.pattern ≡ None
    pub free : IsFree s o
    pub first : (a : OpId) → IsEarlier a o → ¬ IsFree s a

  -- nothing of the case is handed out
  abbrev pub IsIdle : CaseState M → Type 0
  IsIdle s = (o : OpId) → s.pattern ≡ None → ¬ IsFree s o

  abbrev pub IsIdleAt : List (CaseState M) → ℕ → Type 0
  IsIdleAt b number = (s : CaseState M) → slice_get b number ≡ Some s → IsIdle s

  -- the piece that is handed out: of the first case that has one
  pub record IsDueOf (b : List (CaseState M)) (p : Piece) : Type 0 where
    pub filed : p.number < length b
    pub due : (s : CaseState M) → slice_get b p.number ≡ Some s → IsDue s p.op
    pub first : (number : ℕ) → number < p.number → IsIdleAt b number

  -- what is asked of a case whose mark is of another place is refused before all else
  abbrev pub of_this_file : (M → ℕ) → CaseState M → M → Option BoardError → Option BoardError
  of_this_file place s mark refusal = if place s.mark == place mark then refusal else Some Stranger

  abbrev pub put_refusal_of : (M → ℕ) → CaseState M → M → OpId → Option BoardError
  put_refusal_of place s mark o = of_this_file place s mark (row_refusal (row_of s o))

  abbrev pub refute_refusal_of : (M → ℕ) → CaseState M → M → Bool → Option BoardError
  refute_refusal_of place s mark passes = of_this_file place s mark (if passes then None else Some NotThatPattern)

  abbrev pub ask_refusal_of : (M → ℕ) → CaseState M → M → Option BoardError
  ask_refusal_of place s mark = of_this_file place s mark None

  -- why a verdict, a pattern or a question is refused, at a case that is there or is not
  abbrev pub put_refusal : (M → ℕ) → Option (CaseState M) → M → OpId → Option BoardError
  put_refusal place None mark o = Some NoSuch
  put_refusal place (Some s) mark o = put_refusal_of place s mark o

  abbrev pub refute_refusal : (M → ℕ) → Option (CaseState M) → M → Bool → Option BoardError
  refute_refusal place None mark passes = Some NoSuch
  refute_refusal place (Some s) mark passes = refute_refusal_of place s mark passes

  abbrev pub ask_refusal : (M → ℕ) → Option (CaseState M) → M → Option BoardError
  ask_refusal place None mark = Some NoSuch
  ask_refusal place (Some s) mark = ask_refusal_of place s mark

  -- the operation has a row, and one with a verdict which explains it
  abbrev pub IsRow : CaseState M → OpId → Type 0
  IsRow s o = o.index < length (session_of s o.session).rows

  abbrev pub IsExplained : CaseState M → OpId → Type 0
  IsExplained s o = row_of s o ≡ Some (Some Explained)

  abbrev pub AllExplained : CaseState M → Type 0
  AllExplained s = (o : OpId) → IsRow s o → IsExplained s o

  -- the first operation that its verdict does not explain
  pub record IsFirstUnexplained (s : CaseState M) (o : OpId) : Type 0 where
    pub unexplained : row_of s o ≡ Some (Some Unexplained)
    pub earlier : (a : OpId) → IsRow s a → IsEarlier a o → IsExplained s a

  -- nothing refutes the case, and it has a certificate
  abbrev pub IsUndecided : CaseState M → Type 0
  IsUndecided s = (s.pattern ≡ None) × (s.has_certificate ≡ true)

  -- how a case stands: refuted, or else without a certificate, or else with open rows, or else all explained or not
  abbrev pub IsStanding : CaseState M → Answer → Type 0
  IsStanding s (No kind) = option_map kind_of s.pattern ≡ Some kind
  IsStanding s (Unknown None) = (s.pattern ≡ None) × (s.has_certificate ≡ false)
  IsStanding s (Open n) = IsUndecided s × (open_rows s ≡ n) × (0 < n)
  IsStanding s Yes = IsUndecided s × (open_rows s ≡ 0) × AllExplained s
  IsStanding s (Unknown (Some o)) = IsUndecided s × (open_rows s ≡ 0) × IsFirstUnexplained s o

-- What is handed out, and what a verdict is taken on, is a row of its case.
use Rattle.std.proofs.Common.{◌≡◌, ℕ, ◌<◌, ◌==◌, Bool, true, false, List, length, Option, Some, None, slice_get, inl, inr, arith, subst, refl}
use Rattle.std.specs.Prelude.{slice_index_or, if◌then◌else◌}
use Rattle.std.proofs.lemmas.Bool.{cases_lt}
use Rattle.std.proofs.lemmas.List.{get_or_past}
use Rattle.std.proofs.lemmas.Option.{slice_get_within}
use Rattle.model_history.specs.declared.op_id.OpId.{OpId}
use Rattle.live_case_board.specs.Boards.{CaseState, SessionRows, Row, no_rows, session_of, row_of}
use Rattle.live_case_board.specs.Events.{IsDueOf, IsRow, row_refusal, put_refusal, refute_refusal}
use Rattle.live_case_board.specs.Steps.InSessions.{HasRowAt}
use Rattle.live_case_board.specs.declared.board_error.BoardError.{BoardError}
use Rattle.live_case_board.specs.declared.board_error.BoardError.TheVariants.{Stranger}
use Rattle.live_case_board.specs.declared.piece.Piece.{Piece}

-- a session with rows is there
session_inside : (ts : List SessionRows) (n i : ℕ) → i < length (slice_index_or ts n no_rows).rows → n < length ts
session_inside ts n i inside =
    elim (cases_lt n (length ts)) [
      | inl below ↦ below
      | inr above ↦
          let past : slice_index_or ts n no_rows ≡ no_rows = get_or_past ts n no_rows (omega arith) in
          let none : i < 0 = subst (λ (t : SessionRows). i < length t.rows) past inside in
          absurd (omega arith)
    ]

unless_other : (same : Bool) (r : Option BoardError) → (if same then r else Some Stranger) ≡ None → r ≡ None
unless_other true r e = e
unless_other false r e = absurd cc

waiting : (row : Option Row) → row_refusal row ≡ None → row ≡ Some None
waiting None e = absurd cc
waiting (Some None) e = refl
waiting (Some (Some outcome)) e = absurd cc

module _ {M : Type 0} where
  pub is_inside : (s : CaseState M) (o : OpId) → IsRow s o → o.session < length s.sessions
  is_inside s o inside = session_inside s.sessions o.session o.index inside

  pub waiting_row : (s : CaseState M) (o : OpId) → row_of s o ≡ Some None → IsRow s o
  waiting_row s o at = slice_get_within (session_of s o.session).rows o.index None at

  -- the piece that is handed out
  pub due_is_row : (b : List (CaseState M)) (p : Piece) → IsDueOf b p → HasRowAt b p.number p.op
  due_is_row b p d s at = waiting_row s p.op ((d.due s at).free.1)

  module _ (place : M → ℕ) (b : List (CaseState M)) (n : ℕ) (mark : M) (o : OpId) where
    filed : (x : Option (CaseState M)) → slice_get b n ≡ x → put_refusal place x mark o ≡ None → n < length b
    filed None at e = absurd cc
    filed (Some s) at e = slice_get_within b n s at

    -- the piece of which a verdict is taken
    pub put_is_filed : put_refusal place (slice_get b n) mark o ≡ None → n < length b
    put_is_filed e = filed (slice_get b n) refl e

    pub put_is_row : put_refusal place (slice_get b n) mark o ≡ None → HasRowAt b n o
    put_is_row e s at =
        let taken : put_refusal place (Some s) mark o ≡ None = subst (λ (x : Option (CaseState M)). put_refusal place x mark o ≡ None) at e in
        waiting_row s o (waiting (row_of s o) (unless_other (place s.mark == place mark) (row_refusal (row_of s o)) taken))

  -- the case that a pattern is taken against
  pub refute_is_filed : (place : M → ℕ) (b : List (CaseState M)) (n : ℕ) (mark : M) (passes : Bool)
      → refute_refusal place (slice_get b n) mark passes ≡ None → n < length b
  refute_is_filed place b n mark passes e = there (slice_get b n) refl e
    where
      there : (x : Option (CaseState M)) → slice_get b n ≡ x → refute_refusal place x mark passes ≡ None → n < length b
      there None at e = absurd cc
      there (Some s) at e = slice_get_within b n s at

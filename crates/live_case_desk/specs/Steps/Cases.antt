-- What the board of a desk does with a case file, a verdict or a question about a case.
use Rattle.std.specs.Prelude.{◌≡◌, ◌∷◌, ◌++◌, Bool, List, [], length, Option, slice_get}
use Rattle.live_case_board.specs.declared.board_error.BoardError.{BoardError}
use Rattle.live_case_board.specs.Boards.{CaseState, SessionRows, fresh_case, with_verdict}
use Rattle.live_case_board.specs.Events.{IsChanged, put_refusal, ask_refusal}
use Rattle.live_case_desk.specs.Files.{CaseOf, FileAt, VerdictOf, file_at, place_of}

module _ {S C R : Type 0} where
  -- the case of a ticket with these rows is the last one, and nothing else changed
  abbrev pub IsFiled : CaseOf S C R → Bool × List SessionRows → List (CaseState (FileAt S C R)) → List (CaseState (FileAt S C R)) → Type 0
  IsFiled ticket rows old new = (ticket.number ≡ length old) × (new ≡ old ++ fresh_case (file_at ticket) rows ∷ [])

  -- what a verdict is refused for, if anything
  abbrev pub refusal_of_verdict : List (CaseState (FileAt S C R)) → VerdictOf S C R → Option BoardError
  refusal_of_verdict cases verdict = put_refusal place_of (slice_get cases verdict.case_of.number) (file_at verdict.case_of) verdict.op

  -- the verdict stands in the row of its operation, and nothing else changed
  abbrev pub IsPut : VerdictOf S C R → List (CaseState (FileAt S C R)) → List (CaseState (FileAt S C R)) → Type 0
  IsPut verdict = IsChanged verdict.case_of.number (λ s. with_verdict s verdict.op verdict.outcome)

  -- what a question about a case, or a pattern against it, is refused for, if anything
  abbrev pub refusal_of_ticket : List (CaseState (FileAt S C R)) → CaseOf S C R → Option BoardError
  refusal_of_ticket cases ticket = ask_refusal place_of (slice_get cases ticket.number) (file_at ticket)

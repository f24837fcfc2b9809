-- The refusals of steps, and their numbers.
use Rattle.std.specs.Prelude.{ℕ}
use Rattle.live_case_board.specs.declared.board_error.BoardError.{BoardError}
use Rattle.live_case_board.specs.declared.board_error.BoardError.TheVariants as boards
use Rattle.live_simulation.specs.declared.refusal.Refusal.{Refusal}
use Rattle.live_simulation.specs.declared.refusal.Refusal.TheVariants.{LaneFull, StillPending, NothingPending, WrongReturn, ShapeMismatch, Full, NotThatPattern, Doubled, Stranger, NoSuch}

abbrev pub number_of : Refusal → ℕ
number_of LaneFull = 11
number_of StillPending = 12
number_of NothingPending = 14
number_of WrongReturn = 17
number_of ShapeMismatch = 21
number_of Full = 22
number_of NotThatPattern = 23
number_of Doubled = 24
number_of Stranger = 25
number_of NoSuch = 26

-- the refusal of a step that a refusal of the board is
abbrev pub refusal_of : BoardError → Refusal
refusal_of boards.Full = Full
refusal_of boards.NotThatPattern = NotThatPattern
refusal_of boards.Doubled = Doubled
refusal_of boards.Stranger = Stranger
refusal_of boards.NoSuch = NoSuch

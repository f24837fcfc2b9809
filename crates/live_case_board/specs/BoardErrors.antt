-- The refusals of a board, and their numbers.
use Rattle.std.specs.Prelude.{ℕ}
use Rattle.live_case_board.specs.declared.board_error.BoardError.{BoardError}
use Rattle.live_case_board.specs.declared.board_error.BoardError.TheVariants.{Full, NotThatPattern, Doubled, Stranger, NoSuch}

abbrev pub number_of : BoardError → ℕ
number_of Full = 22
number_of NotThatPattern = 23
number_of Doubled = 24
number_of Stranger = 25
number_of NoSuch = 26

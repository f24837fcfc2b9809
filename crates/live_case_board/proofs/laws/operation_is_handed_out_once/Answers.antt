use Rattle.live_case_board.proofs.BoardsLaws.{taking_rows, taken_once}
use Rattle.live_case_board.proofs.laws.operation_is_handed_out_once.Goals as goal

pub returns-clause-rows : goal.returns-clause-rows
returns-clause-rows g c = λ s o a inside. taking_rows s o inside a

pub returns-clause-once : goal.returns-clause-once
returns-clause-once g c = λ s o inside. taken_once s o inside

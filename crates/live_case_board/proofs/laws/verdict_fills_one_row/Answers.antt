use Rattle.live_case_board.proofs.BoardsLaws.{verdict_row, verdict_others}
use Rattle.live_case_board.proofs.laws.verdict_fills_one_row.Goals as goal

pub returns-clause-row : goal.returns-clause-row
returns-clause-row g c = λ s o outcome inside. verdict_row s o inside outcome

pub returns-clause-others : goal.returns-clause-others
returns-clause-others g c = λ s o a outcome inside apart. verdict_others s o inside a outcome apart

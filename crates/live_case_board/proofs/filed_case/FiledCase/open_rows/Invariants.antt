use Rattle.std.proofs.Common.{◌≡◌, ◌≤◌, ◌*◌, take}
use Rattle.std.specs.List.{sum_by}
use Rattle.live_case_board.specs.Boards.{open_of}
use Rattle.live_case_board.proofs.filed_case.FiledCase.open_rows.Given as goal

-- the count of the sessions so far, at most 256 each
abbrev pub invariant-loop-session : goal.invariant-loop-session
invariant-loop-session g l = (l.open ≡ sum_by open_of (take l.session l.self.sessions)) × (l.open ≤ 256 * l.session)

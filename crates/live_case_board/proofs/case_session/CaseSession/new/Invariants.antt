use Rattle.std.proofs.Common.{◌≡◌, replicate, None}
use Rattle.live_case_board.proofs.case_session.CaseSession.new.Given as goal

-- so many rows, none with a verdict
abbrev pub invariant-loop-row : goal.invariant-loop-row
invariant-loop-row l = l.rows.items ≡ replicate l._row None

use Rattle.std.proofs.Common.{◌≡◌, ◌≤◌, ◌*◌, length, take}
use Rattle.std.specs.List.{sum_by}
use Rattle.live_case_desk.proofs.file_rows.operations_in.Given as goal

-- the count of the sessions so far, at most 256 each
abbrev pub invariant-loop-session : goal.invariant-loop-session
invariant-loop-session g l = (l.operations ≡ sum_by length (take l.session l.h.1)) × (l.operations ≤ 256 * l.session)

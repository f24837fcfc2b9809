use Rattle.std.proofs.Common.{◌≡◌, map, take}
use Rattle.judge_witnesses.specs.Relabelled.{back}
use Rattle.judge_witnesses.specs.Renamed.{renamed}
use Rattle.judge_witnesses.proofs.relabelled.relabelled_session.Given as goal

-- the operations so far become those of the session
abbrev pub invariant-loop-index : goal.invariant-loop-index
invariant-loop-index l = map (renamed (back l.history l.written)) l.row.items ≡ take l.index l.operations

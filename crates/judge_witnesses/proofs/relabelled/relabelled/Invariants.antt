use Rattle.std.proofs.Common.{◌≡◌, map, take}
use Rattle.judge_witnesses.specs.Relabelled.{back}
use Rattle.judge_witnesses.specs.Renamed.{renamed}
use Rattle.judge_witnesses.proofs.relabelled.relabelled.Given as goal

-- the sessions so far become those of the history
abbrev pub invariant-loop-session : goal.invariant-loop-session
invariant-loop-session l = map (map (renamed (back l.history l.written))) l.sessions ≡ take l.session l.history.1

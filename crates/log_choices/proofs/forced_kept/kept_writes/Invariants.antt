use Rattle.std.specs.Prelude.{All, Bool}
use Rattle.log_choices.specs.ForcedSteps.{IsKeptWrite}
use Rattle.log_choices.proofs.forced_kept.kept_writes.Given as goal

-- the writes so far
abbrev pub invariant-loop-call : goal.invariant-loop-call
invariant-loop-call l = (in_time : Bool) → All (IsKeptWrite in_time l.log) l.writes.items

use Rattle.std.proofs.Common.{◌≡◌, map, take}
use Rattle.judge_reader.proofs.limits.copy_of_sessions.Given as goal

abbrev pub invariant-loop-s : goal.invariant-loop-s
invariant-loop-s l = map (λ s. s.items) l.copy.items ≡ take l.s l.history.1

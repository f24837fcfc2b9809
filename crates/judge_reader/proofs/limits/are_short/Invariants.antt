use Rattle.std.proofs.Common.{ℕ, ◌<◌, ◌≤◌, length}
use Rattle.model_history.specs.History.{session}
use Rattle.judge_reader.proofs.limits.are_short.Given as goal

abbrev pub invariant-loop-s : goal.invariant-loop-s
invariant-loop-s l = (s : ℕ) → s < l.s → length (session l.history s) ≤ 256

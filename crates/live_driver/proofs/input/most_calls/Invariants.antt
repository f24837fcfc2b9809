use Rattle.std.proofs.Common.{ℕ, ◌<◌, ◌≤◌, length}
use Rattle.model_history.specs.History.{session}
use Rattle.model_history.specs.declared.limits.TheConstants.{MAX_OPERATIONS}
use Rattle.live_driver.proofs.input.most_calls.Given as goal

abbrev pub invariant-loop-s : goal.invariant-loop-s
invariant-loop-s g l = record {
  some : 1 ≤ l.most;
  few : l.most ≤ MAX_OPERATIONS;
  most : (s : ℕ) → s < l.s → length (session l.input s) ≤ l.most;
}

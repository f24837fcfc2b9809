use Rattle.std.specs.Prelude.{◌≡◌, ◌≤◌}
use Rattle.model_history.specs.History.{many_before}
use Rattle.judge_memory.specs.declared.limits.TheConstants.{MAX_NUMBERS}
use Rattle.judge_memory.proofs.long_history.LongHistory.of.Given as goal

-- the operations of the sessions so far are counted
abbrev pub invariant-loop-session : goal.invariant-loop-session
invariant-loop-session l = record {
  count : l.operations ≡ many_before (l.fn.start, l.fn.sessions) l.session;
  few : l.operations ≤ MAX_NUMBERS;
}

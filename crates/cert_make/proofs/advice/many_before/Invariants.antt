use Rattle.std.specs.Prelude.{◌≡◌, ◌*◌, ◌≤◌}
use Rattle.model_history.specs.declared.limits.TheConstants.{MAX_OPERATIONS}
use Rattle.model_history.specs.History.{many_before}
use Rattle.cert_make.proofs.advice.many_before.Given as goal

-- the operations of the sessions so far are counted
abbrev pub invariant-loop-session : goal.invariant-loop-session
invariant-loop-session g l = record {
  many : l.many ≡ many_before l.h l.session;
  few : l.many ≤ MAX_OPERATIONS * l.session;
}

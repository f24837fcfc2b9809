use Rattle.std.proofs.Common.{◌<◌}
use Rattle.model_history.specs.declared.op_id.OpId.{OpId}
use Rattle.pattern_search.specs.Steps.Routes.{IsWriteBefore}
use Rattle.pattern_search.proofs.search.reads.write_before.Given as goal

-- the sessions so far have no such write
abbrev pub invariant-loop-session : goal.invariant-loop-session
invariant-loop-session l = (w : OpId) → w.session < l.session → ¬ IsWriteBefore l.order l.read w

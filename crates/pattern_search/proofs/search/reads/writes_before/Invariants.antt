use Rattle.std.proofs.Common.{◌<◌}
use Rattle.model_history.specs.declared.op_id.OpId.{OpId}
use Rattle.pattern_search.specs.Steps.Routes.{AreWritesBefore}
use Rattle.pattern_search.proofs.search.reads.writes_before.Given as goal

-- the sessions so far have no such writes
abbrev pub invariant-loop-session : goal.invariant-loop-session
invariant-loop-session l = (a b : OpId) → b.session < l.session → ¬ AreWritesBefore l.order l.read a b

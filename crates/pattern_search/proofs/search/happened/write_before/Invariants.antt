use Rattle.std.proofs.Common.{◌<◌}
use Rattle.model_history.specs.declared.op_id.OpId.{OpId}
use Rattle.pattern_search.specs.Steps.Relations.{IsWriteHappened}
use Rattle.pattern_search.proofs.search.happened.write_before.Given as goal

-- the sessions so far have no such write
abbrev pub invariant-loop-session : goal.invariant-loop-session
invariant-loop-session l = (w : OpId) → w.session < l.session → ¬ IsWriteHappened l.order l.relation.0 l.read w

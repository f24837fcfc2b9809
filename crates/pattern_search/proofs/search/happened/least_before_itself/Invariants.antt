use Rattle.std.proofs.Common.{◌<◌}
use Rattle.model_history.specs.declared.op_id.OpId.{OpId}
use Rattle.order_memory.specs.Relations.{HB}
use Rattle.pattern_search.proofs.search.happened.least_before_itself.Given as goal

-- no operation of the sessions so far is before itself
abbrev pub invariant-loop-session : goal.invariant-loop-session
invariant-loop-session l = (a : OpId) → a.session < l.session → ¬ HB l.order l.relation.0 a a

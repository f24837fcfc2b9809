use Rattle.std.proofs.Common.{◌≡◌, map, take}
use Rattle.model_history.proofs.history.copy_sessions.Given as goal

abbrev pub invariant-loop-operations : goal.invariant-loop-operations
invariant-loop-operations g l = map (λ v. v.items) l.copies.items ≡ map (λ v. v.items) (take l.operations-index l.sessions)

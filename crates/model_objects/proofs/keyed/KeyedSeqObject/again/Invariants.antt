use Rattle.std.proofs.Common.{◌≡◌, ◌++◌}
use Rattle.model_objects.proofs.keyed.KeyedSeqObject.again.Given as goal

-- the copies so far, and then the states that are left
abbrev pub invariant-loop-key : goal.invariant-loop-key
invariant-loop-key g l = l.states.entries ++ l.key-iterator ≡ l.self.1

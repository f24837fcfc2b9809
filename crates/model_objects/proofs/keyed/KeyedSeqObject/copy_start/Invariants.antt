use Rattle.std.proofs.Common.{◌≡◌, take}
use Rattle.model_objects.proofs.keyed.KeyedSeqObject.copy_start.Given as goal

-- the entries so far are copied
abbrev pub invariant-loop-key : goal.invariant-loop-key
invariant-loop-key g l = l.copy ≡ take l.key-index l.start

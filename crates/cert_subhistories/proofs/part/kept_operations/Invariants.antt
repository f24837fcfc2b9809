use Rattle.std.proofs.Common.{◌≡◌}
use Rattle.cert_subhistories.proofs.KeptParts.{kept_of_front}
use Rattle.cert_subhistories.proofs.part.kept_operations.Given as goal

-- what is kept of the operations so far
abbrev pub invariant-loop-index : goal.invariant-loop-index
invariant-loop-index g l = l.part.items ≡ kept_of_front (g.K.Keeps.kept l.kept) l.index l.session l.operations

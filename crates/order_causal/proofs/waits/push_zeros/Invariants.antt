use Rattle.std.proofs.Common.{length}
use Rattle.order_causal.specs.Steps.Gathered.{AreGatheredUpTo}
use Rattle.order_causal.specs.Steps.Waiting.{AreZeros}
use Rattle.order_causal.proofs.waits.push_zeros.Given as goal

-- the operations so far wait for none
abbrev pub invariant-loop-index : goal.invariant-loop-index
invariant-loop-index g l = AreGatheredUpTo l.h (λ _. AreZeros (length l.h.1)) l.session l._index l.counts

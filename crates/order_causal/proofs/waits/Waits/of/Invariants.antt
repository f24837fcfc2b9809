use Rattle.std.proofs.Common.{◌<◌, ◌≤◌, ℕ, length}
use Rattle.model_history.specs.History.{session}
use Rattle.order_causal.specs.Steps.Gathered.{AreGatheredBefore}
use Rattle.order_causal.specs.Steps.Waiting.{AreZeros}
use Rattle.order_causal.proofs.waits.Waits.of.Given as goal

-- the operations of the sessions so far wait for none
abbrev pub invariant-loop-session : goal.invariant-loop-session
invariant-loop-session g l = record {
  so_far : AreGatheredBefore l.h (λ _. AreZeros (length l.h.1)) l.session l.counts;
  short : (s : ℕ) → s < l.session → length (session l.h s) ≤ 256;
}

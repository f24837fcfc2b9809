use Rattle.std.proofs.Common.{◌≡◌, ℕ, length, get_or, []}
use Rattle.order_memory.proofs.placing.no_vectors.Given as goal

-- so many sessions, with no vectors
abbrev pub invariant-loop-session : goal.invariant-loop-session
invariant-loop-session l = record {
  sessions : length l.vectors ≡ l._session;
  empty : (s : ℕ) → get_or l.vectors s [] ≡ [];
}

use Rattle.std.proofs.Common.{◌≡◌, ℕ, ◌+◌, ◌<◌, length}
use Rattle.order_memory.specs.HappenedBeforeVectors.{IsHBVectors}
use Rattle.order_causal.specs.Orders.{op}
use Rattle.order_memory.specs.Steps.HappenedBefores.{HasFewPairs, HasMorePairs, IsMade, most_of, raises_of, session_of, taken_of, vectors_of}
use Rattle.pattern_search.proofs.search.relations.Relation.of_last.Given as goal

-- the relation of the session's operation before the next one
abbrev pub invariant-loop-index : goal.invariant-loop-index
invariant-loop-index l = record {
  made : IsMade l.order l.happened;
  session : session_of l.happened ≡ l.session;
  taken : taken_of l.happened ≡ l.index;
  most : most_of l.happened ≡ l.fn.most;
  exact : (n : ℕ) → l.index ≡ n + 1 → IsHBVectors l.order (op l.session n) (vectors_of l.happened);
  few : (n : ℕ) → l.index ≡ n + 1 → HasFewPairs l.order (op l.session n) l.fn.most;
  more : (n : ℕ) → l.index ≡ n + 1 → (k : ℕ) → k < length (raises_of l.happened) → HasMorePairs l.order (op l.session n) k;
}

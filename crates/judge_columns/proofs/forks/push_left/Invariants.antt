use Rattle.std.specs.Prelude.{◌≡◌, ◌↔◌, ◌⊎◌, ◌<◌, ℕ, slice_index_or}
use Rattle.judge_columns.specs.Forks.{IsLeftIn}
use Rattle.judge_columns.specs.Swept.{HasEdge}
use Rattle.judge_columns.proofs.forks.push_left.Given as goal

abbrev pub invariant-loop-to : goal.invariant-loop-to
invariant-loop-to l = (a b : ℕ) → HasEdge l.edges.items a b ↔ (HasEdge l.fn.edges.items a b
    ⊎ ((n : ℕ) × (n < l.to) × ((b ≡ n) × IsLeftIn l.writes l.from (slice_index_or l.late n 0) a)))

use Rattle.std.specs.Prelude.{◌≡◌, ◌↔◌, ◌⊎◌, ◌+◌, ◌<◌, ℕ, Some, slice_get}
use Rattle.judge_columns.specs.Swept.{HasEdge}
use Rattle.judge_columns.specs.Words.{HasBit}
use Rattle.judge_columns.proofs.forks.push_word.Given as goal

abbrev pub invariant-loop-bit : goal.invariant-loop-bit
invariant-loop-bit l = (a b : ℕ) → HasEdge l.edges.items a b ↔ (HasEdge l.fn.edges.items a b
    ⊎ ((k : ℕ) × (k < l.bit) × ((b ≡ l.to) × ((slice_get l.writes (l.from + k) ≡ Some a) × HasBit l.word k))))

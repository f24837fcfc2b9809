use Rattle.std.specs.Prelude.{◌≡◌, ◌⊎◌, ◌↔◌, ℕ, ◌+◌, ◌<◌, ◌≤◌, length, slice_index_or}
use Rattle.judge_columns.specs.Swept.{HasEdge}
use Rattle.judge_columns.proofs.swept.push_edges.Given as goal

abbrev pub invariant-loop-to : goal.invariant-loop-to
invariant-loop-to l = record {
  size : length l.late.items ≡ length l.fn.late.items;
  clear : (n : ℕ) → n < l.to → slice_index_or l.late.items n 0 ≡ 0;
  left : (n : ℕ) → l.to ≤ n → slice_index_or l.late.items n 0 ≡ slice_index_or l.fn.late.items n 0;
  edges : (a b : ℕ) → HasEdge l.edges.items a b
      ↔ (HasEdge l.fn.edges.items a b ⊎ ((b < l.to) × (slice_index_or l.fn.late.items b 0 ≡ a + 1)));
}

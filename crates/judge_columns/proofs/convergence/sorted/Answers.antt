use Rattle.std.specs.Prelude.{ℕ}
use Rattle.std.proofs.Common.{rules}
use Rattle.std.proofs.lemmas.List.Sorted.{IsNonDecreasingBy-from_sort_by_key}
use Rattle.judge_columns.proofs.EdgeLists.{sorted-edges}
use Rattle.judge_columns.proofs.convergence.sorted.Goals as goal

pub returns-clause-sorted : goal.returns-clause-sorted
returns-clause-sorted c =
    sorted-edges _ (IsNonDecreasingBy-from_sort_by_key (λ (e : ℕ × ℕ). e.1) _ c.in_ok-sort_by_key.ensures.sorted
    (λ a r q k. search rules))

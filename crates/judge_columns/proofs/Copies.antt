-- A column that is copied from a lane is right where the lane is.
use Rattle.std.specs.Prelude.{◌≡◌, ◌↔◌, ℕ, ◌+◌, ◌<◌, ◌≤◌, List, slice_index_or}
use Rattle.std.proofs.Common.{arith, ap, sym, ◌∙◌, subst}
use Rattle.model_history.specs.declared.op_id.OpId.{OpId}
use Rattle.model_history.specs.History.{IsOp, many_before, number}
use Rattle.order_memory.specs.Memory.{MemoryHistory}
use Rattle.order_memory.specs.Relations.{IsPast}
use Rattle.judge_memory.specs.Steps.{many}
use Rattle.judge_memory.proofs.Numbers.{number-all}
use Rattle.judge_columns.specs.Columns.{AreFirsts, ArePastEnds, AreWithinSession}
use Rattle.judge_columns.specs.Lanes.{lane_of}

module _ (h : MemoryHistory) (t : ℕ) (column copy : ℕ → ℕ) (same : (n : ℕ) → n < many h → copy n ≡ column n) where
  same-of : (o : OpId) → IsOp h o → column (number h o) ≡ copy (number h o)
  same-of o is_op = sym (same (number h o) (number-all h o is_op))

  pub ends-copied : ArePastEnds h t column → ArePastEnds h t copy
  ends-copied right o c is_op is_c of_t =
      subst (λ (n : ℕ). (number h c < n) ↔ IsPast h o c) (same-of o is_op) (right o c is_op is_c of_t)

  pub within-copied : AreWithinSession h t column → AreWithinSession h t copy
  within-copied right o is_op =
      subst (λ (n : ℕ). (many_before h t ≤ n) × (n ≤ many_before h (t + 1))) (same-of o is_op) (right o is_op)

  pub firsts-copied : AreFirsts h t column → AreFirsts h t copy
  firsts-copied right o c is_op is_c of_t =
      subst (λ (n : ℕ). (n ≤ number h c) ↔ IsPast h c o) (same-of o is_op) (right o c is_op is_c of_t)

-- the numbers of a list are those of a lane, where the list is read by another name
pub lane-copied : (many : ℕ) (rows : List (List ℕ)) (lane : ℕ) (column copy : List ℕ) {before : ℕ} → before ≡ many → copy ≡ column
    → ((n : ℕ) → n < before → slice_index_or column n 0 ≡ lane_of rows lane n)
    → (n : ℕ) → n < many → slice_index_or copy n 0 ≡ lane_of rows lane n
lane-copied many rows lane column copy size same taken n below =
    ap (λ (xs : List ℕ). slice_index_or xs n 0) same ∙ taken n (omega arith)

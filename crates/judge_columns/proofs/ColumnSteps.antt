-- One operation more of the sweep of a column, by its number.
use Rattle.std.specs.Prelude.{◌≡◌, ℕ, ◌+◌, ◌<◌, ◌≤◌, Bool, length}
use Rattle.std.proofs.Common.{arith, ap, sym, subst}
use Rattle.model_history.specs.declared.op_id.OpId.{OpId}
use Rattle.model_history.specs.History.{IsOp, many_before, number}
use Rattle.order_memory.specs.Memory.{MemoryHistory, IsDifferentiated}
use Rattle.order_memory.proofs.MemoryLaws.{write-of_history}
use Rattle.judge_memory.specs.Steps.{many}
use Rattle.judge_memory.proofs.Numbers.{many-rises, number-all, number-found}
use Rattle.judge_columns.specs.Columns.{AreWithinSession}
use Rattle.judge_columns.specs.Sights.{IsNoted, IsSeen, IsSight}
use Rattle.judge_columns.specs.Sweeps.{IsSwept}
use Rattle.judge_columns.specs.declared.sight.Sight.{Sight}
use Rattle.judge_columns.proofs.Sweeps.{swept-noted}

module _ (h : MemoryHistory) (t : ℕ) (ends firsts : ℕ → ℕ) where
  -- where the past of an operation ends is a number of the session, and of the history
  module _ (within : AreWithinSession h t ends) (below_t : t < length h.1) (n : ℕ) (below : n < many h) where
    pub end-from : many_before h t ≤ ends n
    end-from =
        let a = number-found h n below in
        let same = ap ends a.2 in
        let from = (within a.0 a.1).0 in
        omega arith

    pub end-to : ends n ≤ many h
    end-to =
        let a = number-found h n below in
        let same = ap ends a.2 in
        let to = (within a.0 a.1).1 in
        let rises = many-rises h (t + 1) (length h.1) (omega arith) in
        omega arith

  -- what the operation with the number n shows is noted
  pub column-noted : IsDifferentiated h → (n : ℕ) → n < many h → (start read : Bool) (late : ℕ → ℕ)
      → IsSwept h t ends firsts (IsSeen h n) start read late → (start_now read_now : Bool) (late_now : ℕ → ℕ) (s : Sight)
      → ((a : OpId) → IsOp h a → number h a ≡ n → IsSight h t ends firsts a s) → IsNoted s start read late start_now read_now late_now
      → IsSwept h t ends firsts (IsSeen h (n + 1)) start_now read_now late_now
  column-noted distinct n below start read late was start_now read_now late_now s sight noted =
      let a = number-found h n below in
      subst (λ (k : ℕ). IsSwept h t ends firsts (IsSeen h (k + 1)) start_now read_now late_now) a.2
      (swept-noted h t ends firsts a.0 a.1 distinct start read late
      (subst (λ (k : ℕ). IsSwept h t ends firsts (IsSeen h k) start read late) (sym a.2) was)
      start_now read_now late_now s (sight a.0 a.1 a.2) noted)

  -- late writes are operations
  pub late-below : (seen : OpId → Type 0) (start read : Bool) (late : ℕ → ℕ) → IsSwept h t ends firsts seen start read late
      → (w : OpId) (n : ℕ) → IsOp h w → late (number h w) ≡ n + 1 → n < many h
  late-below seen start read late now w n is_op is =
      let found = now.edges.sound w n is_op is in
      let last = found.2.1 in
      let below = number-all h found.1 (write-of_history h found.1 found.2.0.0 last.wrote.0 last.wrote.1) in
      let same = found.3 in
      omega arith

-- How much vectors count in all.
use Rattle.std.specs.Prelude.{ℕ, ◌+◌, length}
use Rattle.std.proofs.Common.{zero, suc}
use Rattle.model_history.specs.History.{HistoryValue, session}
use Rattle.order_causal.specs.Orders.{op}
use Rattle.order_causal.specs.Vectors.{Counts, count}

-- the sum of what f gives for the numbers below n
abbrev pub sum_below : (ℕ → ℕ) → ℕ → ℕ
sum_below f zero = 0
sum_below f (suc n) = sum_below f n + f n

module _ {S C R : Type 0} (h : HistoryValue S C R) where
  -- the sum of what f gives for each operation of the history and each session
  abbrev pub sum_of_history : (ℕ → ℕ → ℕ → ℕ) → ℕ
  sum_of_history f = sum_below (λ s. sum_below (λ i. sum_below (λ t. f s i t) (length h.1)) (length (session h s))) (length h.1)

  -- the sum of all counts
  abbrev pub all_counted : Counts → ℕ
  all_counted v = sum_of_history (λ s i t. count v (op s i) t)

  -- as much as may be counted
  abbrev pub most_counted : ℕ
  most_counted = sum_of_history (λ s i t. length (session h t))

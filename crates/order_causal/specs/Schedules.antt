-- Schedules: lists of session numbers, each of which names the next operation of its session.
use Rattle.std.specs.Prelude.{ℕ, ◌==◌, List}
use Rattle.std.specs.List.{count_by}
use Rattle.model_history.specs.declared.op_id.OpId.{OpId}
use Rattle.order_causal.specs.Orders.{op}

-- how many operations of the session s a schedule places: as many as it names s
abbrev pub placed : List ℕ → ℕ → ℕ
placed schedule s = count_by (λ t. t == s) schedule

-- the first operation of the session s that a schedule doesn't place
abbrev pub next_of : List ℕ → ℕ → OpId
next_of schedule s = op s (placed schedule s)

-- Schedules: lists of session numbers, each of which names the next operation of its session (this project's profile).
use Rattle.std.specs.Prelude.{◌≡◌, ◌≢◌, ℕ, ◌<◌, ◌++◌, List, [], ◌∷◌}
use Rattle.model_history.specs.declared.op_id.OpId.{OpId}
use Rattle.model_history.specs.History.{HistoryValue, IsOp}
use Rattle.order_causal.specs.Orders.{StandsAt}
use Rattle.order_causal.specs.Schedules.{placed, next_of}
use Rattle.order_causal.specs.Vectors.{Counts, count, IsCounted}

-- the operations that a list names behind another list, and those that it names alone
abbrev pub named_after : List ℕ → List ℕ → List OpId
named_after before [] = []
named_after before (s ∷ schedule) = next_of before s ∷ named_after (before ++ s ∷ []) schedule

abbrev pub named : List ℕ → List OpId
named schedule = named_after [] schedule

-- the operation a stands before the place k of a list
abbrev pub StandsBefore : List OpId → ℕ → OpId → Type 0
StandsBefore ops k a = (j : ℕ) × (j < k) × StandsAt ops j a

module _ {S C R : Type 0} where
  -- a schedule of the operation o: what it names is there, each named operation comes after all others that its own
  -- vector counts, and as many of each session are named as the vector of o counts
  pub record IsSchedule (h : HistoryValue S C R) (v : Counts) (o : OpId) (schedule : List ℕ) : Type 0 where
    pub existing : (k : ℕ) (a : OpId) → StandsAt (named schedule) k a → IsOp h a
    pub after_counted : (k : ℕ) (b a : OpId) → StandsAt (named schedule) k b → IsCounted v b a → a ≢ b → StandsBefore (named schedule) k a
    pub ends : (s : ℕ) → placed schedule s ≡ count v o s

-- Schedules in which the operations of one session take turns with what their vectors count (this project's profile).
use Rattle.std.specs.Prelude.{◌≡◌, ℕ, List, [], ◌∷◌, ◌++◌}
use Rattle.std.proofs.Common.{zero, suc}
use Rattle.order_causal.specs.Orders.{op}
use Rattle.order_causal.specs.Topological.{IsFullWalk}
use Rattle.order_causal.specs.Vectors.{Counts, list_of}

-- behind a schedule comes by the topological rule what the vector of the operation s.i counts, then the operation
pub record IsTurn (v : Counts) (s i : ℕ) (before whole : List ℕ) : Type 0 where
  pub counted : List ℕ
  pub walk : IsFullWalk v (list_of v (op s i)) before counted
  pub last : whole ≡ counted ++ s ∷ []

-- the turns of the first n operations of the session s
abbrev pub AreTurns : Counts → ℕ → ℕ → List ℕ → Type 0
AreTurns v s zero schedule = schedule ≡ []
AreTurns v s (suc n) schedule = (before : List ℕ) × AreTurns v s n before × IsTurn v s n before schedule

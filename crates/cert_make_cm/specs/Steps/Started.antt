-- Turns that begin at known places, and vectors along a session. No promise to a reader rests on these definitions: single
-- functions say them to one another.
use Rattle.std.specs.Prelude.{◌≡◌, ℕ, ◌<◌, ◌≤◌, List, length, take, slice_index_or}
use Rattle.order_causal.specs.Orders.{op}
use Rattle.order_causal.specs.Vectors.{Counts, count}
use Rattle.cert_make_cm.specs.Turns.{AreTurns}

-- the first n operations of the session s have had their turns in a schedule, and each turn began behind so many operations as the
-- starts say
pub record AreStarted (v : Counts) (s n : ℕ) (schedule starts : List ℕ) : Type 0 where
  pub size : length starts ≡ n
  pub turns : AreTurns v s n schedule
  pub rising : (m k : ℕ) → m ≤ k → k < n → slice_index_or starts m 0 ≤ slice_index_or starts k 0
  pub inside : (m : ℕ) → m < n → slice_index_or starts m 0 ≤ length schedule
  pub each : (m : ℕ) → m < n → AreTurns v s m (take (slice_index_or starts m 0) schedule)

-- along the first n operations of the session s no count falls, and each counts those before it
pub record AreRising (v : Counts) (s n : ℕ) : Type 0 where
  pub monotone : (j m z : ℕ) → j ≤ m → m < n → count v (op s j) z ≤ count v (op s m) z
  pub own : (m : ℕ) → m < n → m ≤ count v (op s m) s

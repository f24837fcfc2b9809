-- Lists by operation that are made session by session.
use Rattle.std.specs.Prelude.{◌≡◌, ℕ, ◌<◌, List, [], length, slice_index_or, Result, Ok}
use Rattle.order_causal.specs.Vectors.{ByOperation}

-- lists of n sessions, those of each session as a function may give them at its number
pub record AreMadeBy {A E : Type 0} (gives : ℕ → Result (List (List A)) E → Type 0) (n : ℕ) (lists : ByOperation A) : Type 0 where
  pub sessions : length lists ≡ n
  pub each : (s : ℕ) → s < n → gives s (Ok (slice_index_or lists s []))

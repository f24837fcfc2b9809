-- Lists of claimed numbers.
use Rattle.std.specs.Prelude.{◌≡◌, ℕ, List, Some, slice_get}

-- a number is among these
abbrev pub HasNumber : List ℕ → ℕ → Type 0
HasNumber numbers n = (j : ℕ) × (slice_get numbers j ≡ Some n)

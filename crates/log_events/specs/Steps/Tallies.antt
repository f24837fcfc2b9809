-- How often keys are in a list.
use Rattle.std.specs.Prelude.{◌≡◌, ℕ, ◌==◌, ◌<◌, All, Contains, List, filter, length, slice_index, None, unwrap_or}
use Rattle.model_objects.specs.Table.{IsRising, value_at}

-- how often x is in a list
abbrev pub count_in : List ℕ → ℕ → ℕ
count_in xs x = length (filter (λ y. y == x) xs)

-- for each of the keys, how often it is in the list
pub record AreCounted (xs keys counts : List ℕ) : Type 0 where
  pub as_many : length counts ≡ length keys
  pub each : (k : ℕ) → k < length keys → slice_index counts k ≡ count_in xs (slice_index keys k)

-- those of the keys that are in the list, in order, each with how often
pub record IsTally (xs keys : List ℕ) (tally : List (ℕ × ℕ)) : Type 0 where
  pub rising : IsRising tally
  pub positive : All (λ entry. 0 < entry.1) tally
  pub among : All (λ entry. Contains keys entry.0) tally
  pub listed : (x : ℕ) → Contains keys x → unwrap_or (value_at tally x) 0 ≡ count_in xs x
  pub other : (x : ℕ) → ¬ Contains keys x → value_at tally x ≡ None

-- What a table of initial values holds: a list of keys with their values.
use Rattle.std.specs.Prelude.{◌≢◌, ℕ, ◌==◌, ◌<◌, ◌≤◌, ◌^◌, List, Option, All, length, unwrap_or}
use Rattle.std.specs.List.Sorted.{IsStrictlyIncreasing}
use Rattle.std.specs.Map.{keys_of, lookup}
use Rattle.model_objects.specs.declared.table.TheConstants.{MAX_ENTRIES}

module _ {S : Type 0} where
  -- each key is below the next
  abbrev pub IsRising : List (ℕ × S) → Type 0
  IsRising table = IsStrictlyIncreasing (keys_of table)

  -- what a list of keys with their values has at a key
  abbrev pub value_at : List (ℕ × S) → ℕ → Option S
  value_at entries key = lookup (λ k. k == key) entries

  -- the start at a key: what the table has there, or else the plain start
  abbrev pub start_at : S → List (ℕ × S) → ℕ → S
  start_at plain table key = unwrap_or (value_at table key) plain

  -- what may be the start of a keyed object: few keys that rise, each with a start that is not the plain one
  pub record IsTable (plain : S) (is_start : S → Type 0) (table : List (ℕ × S)) : Type 0 where
    pub rising : IsRising table
    pub short : length table ≤ MAX_ENTRIES
    pub small : All (λ entry. entry.0 < 2 ^ 32) table
    pub not_plain : All (λ entry. entry.1 ≢ plain) table
    pub each_start : All (λ entry. is_start entry.1) table

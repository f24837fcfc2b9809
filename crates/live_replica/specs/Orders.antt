-- The order of updates that a store states, by the stamp, the session and the number of each.
use Rattle.std.specs.Prelude.{◌≡◌, ◌≢◌, ◌<◌, ℕ, List, Some, length, slice_get}

-- the stamp of an update, its session, and its number among that session's updates
abbrev pub Key : Type 0
Key = ℕ × ℕ × ℕ

-- where an update goes among those delivered before it
abbrev pub Place : Type 0
Place = List Key → Key → ℕ

-- each update goes behind those delivered before it
abbrev pub IsBehind : Place → Type 0
IsBehind place = (ks : List Key) (k : Key) → place ks k ≡ length ks

-- none of these has the session and the number of this one
abbrev pub IsNew : List Key → Key → Type 0
IsNew ks k = (i : ℕ) (a : Key) → slice_get ks i ≡ Some a → a.1 ≡ k.1 → a.2 ≢ k.2

-- all of these have an earlier stamp
abbrev pub IsLatest : List Key → Key → Type 0
IsLatest ks k = (i : ℕ) (a : Key) → slice_get ks i ≡ Some a → a.0 < k.0

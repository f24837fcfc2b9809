-- The order of stamps. (Lamport, "Time, clocks and the ordering of events in a distributed system", 1978.)
use Rattle.std.specs.Prelude.{◌≡◌, ◌<◌, ℕ, ◌==◌, ◌&&◌, ◌||◌, Bool, IsTrue, List, Some, count_by, nat_lt, slice_get}
use Rattle.live_replica.specs.Orders.{Key}

-- by stamp, then by session, then by number
abbrev pub goes_before : Key → Key → Bool
goes_before a b = nat_lt a.0 b.0 || ((a.0 == b.0) && (nat_lt a.1 b.1 || ((a.1 == b.1) && nat_lt a.2 b.2)))

-- behind all that stand before it
abbrev pub place_by_stamp : List Key → Key → ℕ
place_by_stamp taken a = count_by (λ b. goes_before b a) taken

-- each goes before those behind it, so that no two are alike
abbrev pub IsRising : List Key → Type 0
IsRising ks = (i j : ℕ) (a b : Key) → i < j → slice_get ks i ≡ Some a → slice_get ks j ≡ Some b → IsTrue (goes_before a b)

-- A walk through all operations, and limits to which it can be cut.
use Rattle.std.specs.Prelude.{◌≡◌, ◌≢◌, ℕ, ◌+◌, ◌<◌, ◌≤◌, List, [], Some, length, min, slice_get, slice_index_or, take}
use Rattle.model_history.specs.declared.op_id.OpId.{OpId}
use Rattle.order_causal.specs.Orders.{op}
use Rattle.order_causal.specs.Schedules.{placed}
use Rattle.order_causal.specs.Topological.{IsFullWalk}
use Rattle.order_causal.specs.Vectors.{Counts, IsCounted, IsListed}

-- a full walk by the topological rule through all operations that have vectors
pub record IsWalkOfAll (v : Counts) (whole : List ℕ) : Type 0 where
  pub ends : List ℕ
  pub all : (s : ℕ) → slice_index_or ends s 0 ≡ length (slice_index_or v s [])
  pub full : IsFullWalk v ends [] whole

-- below the limits there is, with each operation, all that its vector counts
pub record AreClosed (v : Counts) (limits : List ℕ) : Type 0 where
  pub each : (b a : OpId) → IsListed v b → b.index < slice_index_or limits b.session 0 → IsCounted v b a → a.index < slice_index_or limits a.session 0

-- from an operation whose vector counts w on, those of its session do
pub record IsCountedOn (v : Counts) (w : OpId) : Type 0 where
  pub each : (s i j : ℕ) → i < j → IsListed v (op s j) → IsCounted v (op s i) w → IsCounted v (op s j) w

-- in front of the place that is told of the i-th operation of the session s, a walk places none behind it of its session
abbrev pub ArePlaces : List ℕ → List (List ℕ) → Type 0
ArePlaces whole places = (s i : ℕ) → placed (take (slice_index_or (slice_index_or places s []) i 0) whole) s ≤ i

-- among the first n operations of a walk none is below one of two limits of its session and not below the other
abbrev pub AgreeUpTo : List ℕ → List ℕ → List ℕ → ℕ → Type 0
AgreeUpTo whole limits others n =
    (s : ℕ) → slice_index_or limits s 0 ≢ slice_index_or others s 0
    → placed (take n whole) s ≤ min (slice_index_or limits s 0) (slice_index_or others s 0)

-- a front of a walk is cut to limits: what is below them is placed, in the walk's order, and for each number of the front, and for
-- the end of the front, the starts say how many operations are placed before it
pub record IsCut (whole limits starts schedule : List ℕ) : Type 0 where
  pub begins : 0 < length starts
  pub within : length starts ≤ length whole + 1
  pub first : slice_index_or starts 0 0 ≡ 0
  pub kept : (i s : ℕ) → i + 1 < length starts → slice_get whole i ≡ Some s → placed (take i whole) s < slice_index_or limits s 0
      → (slice_get schedule (slice_index_or starts i 0) ≡ Some s) × (slice_index_or starts (i + 1) 0 ≡ slice_index_or starts i 0 + 1)
  pub left_out : (i s : ℕ) → i + 1 < length starts → slice_get whole i ≡ Some s → slice_index_or limits s 0 ≤ placed (take i whole) s
      → slice_index_or starts (i + 1) 0 ≡ slice_index_or starts i 0

-- How operations are taken in with all that is before them. Nobody has to believe these definitions to trust an answer: they cite
-- the fields of the structs and change as the loop does.
use Rattle.std.specs.Prelude.{◌≡◌, ◌≢◌, ℕ, ◌+◌, ◌<◌, ◌≤◌, length, max, MatchOption, Option, None, Some, slice_index}
use Rattle.std.proofs.Common.{zero, suc}
use Rattle.model_history.specs.declared.op_id.OpId.{OpId}
use Rattle.model_history.specs.History.{IsOp}
use Rattle.order_memory.specs.declared.growing_order.GrowingOrder.{GrowingOrder}
use Rattle.order_memory.specs.Memory.{MemoryHistory}
use Rattle.order_memory.specs.SourceOrder.{CountsSourceOrder}
use Rattle.order_memory.specs.Sources.{Sources}
use Rattle.order_memory.specs.Steps.GrowthSteps.{Always, Grows, IsGrowing, IsIn, IsInclusion, IsMonotone, NoReads}
use Rattle.order_memory.specs.Steps.Indexed.{listed_source}
use Rattle.order_causal.specs.Orders.{op}
use Rattle.order_causal.specs.Vectors.{Counts, count}

-- the operation before the one with this index in its session, if any
abbrev pub before_at : ℕ → ℕ → Option OpId
before_at s zero = None
before_at s (suc i) = Some (op s i)

-- what the vector of an operation counts, or nothing where there is no operation
abbrev pub row_of : Counts → Option OpId → ℕ → ℕ
row_of v None s = 0
row_of v (Some m) s = count v m s

-- what the vectors of the operations that are in count is in too
abbrev pub IsInside : GrowingOrder → Type 0
IsInside order = (b : OpId) (y : ℕ) → IsIn order b → count order.counts b y ≤ slice_index order.past.items y

-- they count all that the last operations count that they count
abbrev pub CountsPasts : GrowingOrder → Type 0
CountsPasts order = (b : OpId) (y i z : ℕ) → IsIn order b → count order.counts b y ≡ i + 1 → count order.counts (op y i) z ≤ count order.counts b z

-- nothing waits to be followed, and the vectors of the operations that are in are those of a transitive order on them
pub record IsTransitive (order : GrowingOrder) : Type 0 where
  pub empty : length order.pending.items ≡ 0
  pub inside : IsInside order
  pub monotone : IsMonotone order.counts (λ s. slice_index order.past.items s)
  pub pasts : CountsPasts order

-- the next operation of the session t is counted by o, and its source, if it has one, is in
abbrev pub IsNextReady : Sources → GrowingOrder → OpId → ℕ → Type 0
IsNextReady sources order o t =
    (slice_index order.past.items t < count order.counts o t)
    × MatchOption (listed_source sources (op t (slice_index order.past.items t))) Always (IsIn order)

-- its index is i
abbrev pub IsReadyIndex : Sources → GrowingOrder → OpId → ℕ → ℕ → Type 0
IsReadyIndex sources order o t i =
    (i ≡ slice_index order.past.items t) × (i < count order.counts o t) × MatchOption (listed_source sources (op t i)) Always (IsIn order)

module _ (h : MemoryHistory) where
  -- the vectors were those of the causal order, each without its own operation, before counts of operations that are in were raised
  pub record IsRaisedCausal (order : GrowingOrder) : Type 0 where
    pub causal : Counts
    pub counts : CountsSourceOrder h causal
    pub strict : Counts
    pub own : (p : OpId) → IsOp h p → count strict p p.session ≡ p.index
    pub others : (p : OpId) (s : ℕ) → IsOp h p → s ≢ p.session → count strict p s ≡ count causal p s
    pub grown : (p : OpId) (s : ℕ) → count strict p s ≤ count order.counts p s
    pub outside : (p : OpId) (s : ℕ) → slice_index order.past.items p.session ≤ p.index → count order.counts p s ≡ count strict p s
    pub untouched : order.added ≡ 0 → (p : OpId) (s : ℕ) → count order.counts p s ≡ count strict p s

  -- a state in which operations may be taken in
  pub record IsReady (order : GrowingOrder) : Type 0 where
    pub growing : IsGrowing h order
    pub begun : IsRaisedCausal order
    pub transitive : IsTransitive order

  -- the vector of the operation o was raised to what other counts are, and none of it waits
  pub record IsJoined (before after : GrowingOrder) (o : OpId) (row : ℕ → ℕ) : Type 0 where
    pub grows : Grows h Always NoReads before after
    pub past : after.past.items ≡ before.past.items
    pub empty : length after.pending.items ≡ 0
    pub others : (p : OpId) (s : ℕ) → p ≢ o → count after.counts p s ≡ count before.counts p s
    pub here : (s : ℕ) → count after.counts o s ≡ max (count before.counts o s) (row s)

  -- one count of the vector of the operation o was raised to a number, and that does not wait
  pub record IsRaisedAlone (before after : GrowingOrder) (o : OpId) (u c : ℕ) : Type 0 where
    pub grows : Grows h Always NoReads before after
    pub past : after.past.items ≡ before.past.items
    pub empty : length after.pending.items ≡ 0
    pub others : (p : OpId) (s : ℕ) → ((p ≡ o) × (s ≡ u) → ⊥) → count after.counts p s ≡ count before.counts p s
    pub here : count after.counts o u ≡ max (count before.counts o u) c

  -- the last raise that waits, if any, waits no more
  pub record DropsRaise (before after : GrowingOrder) : Type 0 where
    pub grows : Grows h Always NoReads before after
    pub counts : after.counts ≡ before.counts
    pub past : after.past.items ≡ before.past.items
    pub fewer : length before.pending.items ≤ 1 → length after.pending.items ≡ 0

  -- the operations of the session s up to n are counted among those of the state
  pub record IncludesUpTo (before after : GrowingOrder) (s n : ℕ) : Type 0 where
    pub growing : IsGrowing h after
    pub inclusion : IsInclusion h before after
    pub here : slice_index after.past.items s ≡ max (slice_index before.past.items s) n
    pub others : (t : ℕ) → t ≢ s → slice_index after.past.items t ≡ slice_index before.past.items t

  -- an operation and what its vector counts are counted among the operations of the state
  pub record IncludesPast (before after : GrowingOrder) (o : OpId) : Type 0 where
    pub growing : IsGrowing h after
    pub inclusion : IsInclusion h before after
    pub here : slice_index after.past.items o.session ≡ o.index + 1
    pub others : (t : ℕ) → t < length h.1 → t ≢ o.session → slice_index after.past.items t ≡ max (slice_index before.past.items t) (count before.counts o t)

  -- the next operation of a session is taken in
  pub record TakesOne (before after : GrowingOrder) (o : OpId) : Type 0 where
    pub ready : IsReady after
    pub grows : Grows h Always NoReads before after
    pub kept : (p : OpId) (s : ℕ) → IsIn before p → count after.counts p s ≡ count before.counts p s
    pub here : slice_index after.past.items o.session ≡ o.index + 1
    pub others : (t : ℕ) → t ≢ o.session → slice_index after.past.items t ≡ slice_index before.past.items t

  -- some of what the vector of o counts is taken in
  pub record TakesSome (before after : GrowingOrder) (o : OpId) : Type 0 where
    pub ready : IsReady after
    pub grows : Grows h Always NoReads before after
    pub kept : (p : OpId) (s : ℕ) → IsIn before p → count after.counts p s ≡ count before.counts p s
    pub from : (t : ℕ) → slice_index before.past.items t ≤ slice_index after.past.items t
    pub most : (t : ℕ) → slice_index after.past.items t ≤ max (slice_index before.past.items t) (count before.counts o t)

  -- an operation is taken in with all that its vector counts
  pub record TakesPast (before after : GrowingOrder) (o : OpId) : Type 0 where
    pub ready : IsReady after
    pub grows : Grows h Always NoReads before after
    pub kept : (p : OpId) (s : ℕ) → IsIn before p → count after.counts p s ≡ count before.counts p s
    pub here : slice_index after.past.items o.session ≡ o.index + 1
    pub others : (t : ℕ) → t < length h.1 → t ≢ o.session → slice_index after.past.items t ≡ max (slice_index before.past.items t) (count before.counts o t)

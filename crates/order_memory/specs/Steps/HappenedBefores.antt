-- The state in which the happened-before relations of the operations of a session are made, as vectors. Nobody has to believe
-- these definitions to trust an answer: they cite the fields of the structs and change as the loop does.
use Rattle.std.specs.Prelude.{◌≡◌, ◌≢◌, ◌⊎◌, ℕ, ◌+◌, ◌-◌, ◌<◌, ◌≤◌, List, length, true, false, MatchOption, Option, slice_index}
use Rattle.std.proofs.Common.{zero, suc}
use Rattle.model_history.specs.declared.op_id.OpId.{OpId}
use Rattle.model_history.specs.History.{IsOp, session}
use Rattle.order_memory.specs.declared.growing_order.Raise.{Raise}
use Rattle.order_memory.specs.declared.growing_order.Raised.{Raised}
use Rattle.order_memory.specs.declared.happened_before.HappenedBefore.{HappenedBefore}
use Rattle.order_memory.specs.declared.happened_before.Saturation.{Saturation}
use Rattle.order_memory.specs.declared.happened_before.Saturation.TheVariants.{Saturated, Cyclic, GivenUp}
use Rattle.order_memory.specs.CountSums.{all_counted}
use Rattle.order_memory.specs.HappenedBeforeVectors.{IsHBVectors}
use Rattle.order_memory.specs.Memory.{MemoryHistory, IsDifferentiated, Writes}
use Rattle.order_causal.specs.Orders.{op, IsEarlier, program_past}
use Rattle.order_memory.specs.Relations.{IsPast, HB}
use Rattle.order_memory.specs.Raises.{AreReached, AreRightRaises, IsRaisedSince}
use Rattle.order_memory.specs.SourceOrder.{CountsSourceOrder, IsSource, ListsSourcesBelow}
use Rattle.order_memory.specs.Steps.GrowingOrders.{AreHeldVectors}
use Rattle.order_memory.specs.Steps.GrowthSteps.{Always, IsIn, Waits, NoMore, IsGrowing, IsGivenUp, Grows}
use Rattle.order_memory.specs.Steps.TakingIn.{IsTransitive, TakesPast}
use Rattle.order_memory.specs.Steps.Written.{AreByVariable, ListsWrites}
use Rattle.order_causal.specs.Vectors.{Counts, count, IsCounted}

-- the session
abbrev pub session_of : HappenedBefore → ℕ
session_of happened = happened.session

-- how many of its operations are taken in
abbrev pub taken_of : HappenedBefore → ℕ
taken_of happened = happened.taken

-- the last of them
abbrev pub last_of : HappenedBefore → OpId
last_of happened = op happened.session (happened.taken - 1)

-- its vectors
abbrev pub vectors_of : HappenedBefore → Counts
vectors_of happened = happened.order.counts

-- how many pairs it may have that the causal order doesn't have, or none where it may have any number
abbrev pub most_of : HappenedBefore → Option ℕ
most_of happened = happened.order.most

-- what was raised in them, in turn
abbrev pub raises_of : HappenedBefore → List Raise
raises_of happened = happened.order.raises.items

-- how many operations of the session s are in the past of the first n of the session t, by vectors
abbrev pub past_count : Counts → ℕ → ℕ → ℕ → ℕ
past_count v t zero s = 0
past_count v t (suc n) s = count v (op t n) s

-- a raise waits that raised what the vector of r counts of the session u
abbrev pub IsReadWaiting : (Raised → Type 0) → OpId → ℕ → Type 0
IsReadWaiting waits r u = (e : Raised) × waits e × (e.session ≡ u) × (e.op.session ≡ r.session) × (e.op.index ≤ r.index) × (r.index < e.end)

module _ (h : MemoryHistory) where
  -- the operation m of the session u is the last of its first n operations that writes the variable x
  pub record IsLastBelow (x u n m : ℕ) : Type 0 where
    pub below : m < n
    pub value : ℕ
    pub writes : Writes h (op u m) x value
    pub last : (j y : ℕ) → m < j → j < n → ¬ Writes h (op u j) x y

  -- what the vectors count on the past of o is in the happened-before relation of o
  abbrev pub IsSupported : OpId → Counts → Type 0
  IsSupported o now = (a b : OpId) → IsPast h o b → IsCounted now b a → HB h o a b

  -- the vectors count what others count, of which those of the operations earlier than `end` don't count their own operation
  pub record AreStrictBefore (v : Counts) (end : OpId) (strict : Counts) : Type 0 where
    pub own : (o : OpId) → IsOp h o → IsEarlier o end → count strict o o.session ≡ o.index
    pub others : (o : OpId) (s : ℕ) → s ≢ o.session → count strict o s ≡ count v o s

  -- the vectors count what others count, each without its own operation
  pub record AreStrictOf (v strict : Counts) : Type 0 where
    pub own : (o : OpId) → IsOp h o → count strict o o.session ≡ o.index
    pub others : (o : OpId) (s : ℕ) → IsOp h o → s ≢ o.session → count strict o s ≡ count v o s

  -- the source of the read r counts the last write of its variable that r counts of the session u, if that is another one
  abbrev pub IsReadDone : Counts → OpId → ℕ → Type 0
  IsReadDone v r u = (w : OpId) (x t m : ℕ) → IsSource h w r → Writes h w x t → IsLastBelow x u (count v r u) m → op u m ≢ w → m < count v w u

  -- it does, or a raise waits
  abbrev pub IsReadFollowed : (Raised → Type 0) → Counts → OpId → ℕ → Type 0
  IsReadFollowed waits v r u = IsReadDone v r u ⊎ IsReadWaiting waits r u

  -- so it is of the first n operations of the session
  abbrev pub AreReadsFollowed : (Raised → Type 0) → ℕ → HappenedBefore → Type 0
  AreReadsFollowed more n happened = (j u : ℕ) → j < n → u < length h.1
      → IsReadFollowed (Waits more happened.order) happened.order.counts (op happened.session j) u

  -- the operations that are taken in are in, and so are their sources
  abbrev pub AreSourcesIn : HappenedBefore → Type 0
  AreSourcesIn happened = (j : ℕ) (w : OpId) → j < happened.taken → IsSource h w (op happened.session j) → IsIn happened.order w

  -- the state speaks of operations of the history, holds its writes and the sources of its session, and has taken in no more
  -- than its session has
  pub record IsWellFormed (happened : HappenedBefore) : Type 0 where
    pub order : IsGrowing h happened.order
    pub exists : happened.session < length h.1
    pub taken : happened.taken ≤ length (session h happened.session)
    pub writes : ListsWrites h happened.writes.items
    pub by_variable : AreByVariable happened.writes.items
    pub sources : ListsSourcesBelow h happened.session (length (session h happened.session)) happened.sources.items

  -- vectors were raised
  pub record HasGrown (free : Type 0) (before after : HappenedBefore) : Type 0 where
    pub well_formed : IsWellFormed after
    pub order : Grows h free (program_past (last_of before)) before.order after.order
    pub past : after.order.past.items ≡ before.order.past.items
    pub session : session_of after ≡ session_of before
    pub taken : taken_of after ≡ taken_of before

  -- the next operation is taken in
  pub record TakesIn (before after : HappenedBefore) : Type 0 where
    pub well_formed : IsWellFormed after
    pub past : TakesPast h before.order after.order (op before.session before.taken)
    pub session : session_of after ≡ session_of before
    pub taken : taken_of after ≡ taken_of before + 1

  -- the state between two operations: its vectors began as those of the causal order, and only operations of the past of the
  -- last one were raised; what is counted is in its relation, and what it demands is followed or waits; for the last one and
  -- each behind it in the session its raises are right, and what is counted is so since the beginning or since a raise; where it
  -- is not given up, nothing waits
  pub record IsMade (happened : HappenedBefore) : Type 0 where
    pub well_formed : IsWellFormed happened
    pub causal : Counts
    pub counts : CountsSourceOrder h causal
    pub strict : Counts
    pub begun : AreStrictOf causal strict
    pub grown : (p : OpId) (s : ℕ) → count strict p s ≤ count happened.order.counts p s
    pub outside : (p : OpId) (s : ℕ) → slice_index happened.order.past.items p.session ≤ p.index → count happened.order.counts p s ≡ count strict p s
    pub untouched : happened.order.added ≡ 0 → (p : OpId) (s : ℕ) → count happened.order.counts p s ≡ count strict p s
    pub added : happened.order.added + all_counted h strict ≡ all_counted h happened.order.counts
    pub past : (s : ℕ) → slice_index happened.order.past.items s ≤ past_count causal happened.session happened.taken s
    pub all : ¬ IsGivenUp happened.order → (s : ℕ) → past_count causal happened.session happened.taken s ≤ slice_index happened.order.past.items s
    pub cyclic : happened.order.is_cyclic ≡ true → (p : OpId) × IsIn happened.order p × IsCounted happened.order.counts p p
    pub acyclic : happened.order.is_cyclic ≡ false → (p : OpId) → IsOp h p → count happened.order.counts p p.session ≡ p.index
    pub supported : IsDifferentiated h → (n : ℕ) → happened.taken ≡ n + 1 → IsSupported (op happened.session n) happened.order.counts
    pub right : (n : ℕ) → IsOp h (op happened.session n) → happened.taken ≤ n + 1
        → AreRightRaises h (op happened.session n) strict happened.order.raises.items
    pub reached : AreReached strict happened.order.raises.items happened.order.counts
    pub few : length happened.order.raises.items ≤ happened.order.added
    pub transitive : ¬ IsGivenUp happened.order → IsTransitive happened.order
    pub reads : ¬ IsGivenUp happened.order → AreReadsFollowed NoMore happened.taken happened

  -- the relation of o has more pairs than a number that the causal order doesn't have: so much more do vectors count than those
  -- of the causal order, each without its own operation, which on the past of o count pairs of the relation alone, and elsewhere
  -- the same
  pub record HasMorePairs (o : OpId) (most : ℕ) : Type 0 where
    pub causal : Counts
    pub counts : CountsSourceOrder h causal
    pub strict : Counts
    pub begun : AreStrictOf causal strict
    pub now : Counts
    pub held : AreHeldVectors h now
    pub supported : IsSupported o now
    pub outside : (p : OpId) (s : ℕ) → ¬ IsPast h o p → count now p s ≡ count strict p s
    pub more : most + all_counted h strict < all_counted h now

  -- it has no more than that, if a number is given
  abbrev pub HasFewPairs : OpId → Option ℕ → Type 0
  HasFewPairs o most = MatchOption most Always (λ n. ¬ HasMorePairs o n)

  -- what the relation of o came to, where it may have so many pairs more
  abbrev pub IsOutcome : OpId → Option ℕ → Counts → Saturation → Type 0
  IsOutcome o most now Saturated = IsHBVectors h o now × ((a : OpId) → ¬ HB h o a a)
  IsOutcome o most now Cyclic = IsHBVectors h o now × ((a : OpId) × HB h o a a)
  IsOutcome o most now GivenUp = MatchOption most ⊥ (λ n. HasMorePairs o n)

-- what a state tells of the relation
abbrev pub Tells : HappenedBefore → Saturation → Type 0
Tells happened Saturated = (¬ IsGivenUp happened.order) × (happened.order.is_cyclic ≡ false)
Tells happened Cyclic = (¬ IsGivenUp happened.order) × (happened.order.is_cyclic ≡ true)
Tells happened GivenUp = IsGivenUp happened.order

module _ (h : MemoryHistory) where
  -- one operation more of the session is taken in: no vector counts less than before, and one that no further raise is of counts
  -- the same; what is told of its relation is so, and it has at least as many pairs that the causal order doesn't have as counts
  -- were raised
  pub record TakesNext (before after : HappenedBefore) : Type 0 where
    pub made : IsMade h after
    pub session : session_of after ≡ session_of before
    pub taken : taken_of after ≡ taken_of before + 1
    pub most : most_of after ≡ most_of before
    pub counts : (o : OpId) (s : ℕ) → count (vectors_of before) o s ≤ count (vectors_of after) o s
    pub same : (o : OpId) (s : ℕ)
        → (count (vectors_of after) o s ≡ count (vectors_of before) o s) ⊎ IsRaisedSince (raises_of after) (length (raises_of before)) o
    pub outcome : IsDifferentiated h → (told : Saturation) → Tells after told
        → IsOutcome h (op (session_of before) (taken_of before)) (most_of after) (vectors_of after) told
    pub few : IsDifferentiated h → ¬ IsGivenUp after.order → HasFewPairs h (op (session_of before) (taken_of before)) (most_of after)
    pub raised : IsDifferentiated h → (n : ℕ) → n < length (raises_of after) → HasMorePairs h (op (session_of before) (taken_of before)) n

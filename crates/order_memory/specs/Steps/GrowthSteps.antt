-- The steps in which the state grows in which vectors do. Nobody has to believe these definitions to trust an answer: they
-- cite the fields of the structs and change as the loop does.
use Rattle.std.specs.Prelude.{◌≡◌, ◌≢◌, ◌⊎◌, ℕ, ◌+◌, ◌*◌, ◌-◌, ◌<◌, ◌≤◌, ◌∷◌, ◌++◌, [], List, true, false, length, IsTrue, All, Contains, MatchOption, slice_index}
use Rattle.std.proofs.Common.{zero, suc}
use Rattle.model_history.specs.declared.limits.TheConstants.{MAX_OPERATIONS, MAX_SESSIONS}
use Rattle.model_history.specs.declared.op_id.OpId.{OpId}
use Rattle.model_history.specs.History.{IsOp, Precedes, session}
use Rattle.order_memory.specs.declared.growing_order.Cause.{Cause}
use Rattle.order_memory.specs.declared.growing_order.Cause.TheVariants.{Through, Read}
use Rattle.order_memory.specs.declared.growing_order.Raise.{Raise}
use Rattle.order_memory.specs.declared.growing_order.Raised.{Raised}
use Rattle.order_memory.specs.declared.growing_order.GrowingOrder.{GrowingOrder}
use Rattle.order_memory.specs.CountSums.{all_counted, most_counted}
use Rattle.order_memory.specs.Memory.{MemoryHistory}
use Rattle.order_causal.specs.Orders.{op, Ops}
use Rattle.order_memory.specs.Relations.{ReadsFrom, AreRivalWrites}
use Rattle.order_memory.specs.Steps.GrowingOrders.{AreHeldVectors, IsRaisedIn}
use Rattle.order_causal.specs.Vectors.{Counts, count, IsCounted, with_item}

-- an operation is among those of the state
abbrev pub IsIn : GrowingOrder → OpId → Type 0
IsIn order b = b.index < slice_index order.past.items b.session

-- w has what v counts of the session u raised to c, in the vectors of the operations t.i up to before t.e
pub record IsRange (v w : Counts) (t i e u c : ℕ) : Type 0 where
  pub each : (p : OpId) (s : ℕ)
      → (count w p s ≡ count v p s) ⊎ ((p.session ≡ t) × (i ≤ p.index) × (p.index < e) × (s ≡ u) × (count v p s < c) × (count w p s ≡ c))
  pub reached : (j : ℕ) → i ≤ j → j < e → count w (op t j) u ≡ c

-- the first c operations of the session u are before b, since the operation m, which is before b, counts them
abbrev pub IsThrough : Counts → OpId → OpId → ℕ → ℕ → Type 0
IsThrough v b m u c = (IsCounted v b m ⊎ Precedes m b) × (c ≤ count v m u)

-- where a first raise has a cause, that of the n-th behind it in its session: through the first
abbrev pub cause_behind : Cause → OpId → ℕ → Cause
cause_behind cause first zero = cause
cause_behind cause first (suc n) = Through first

-- raises of what the vectors of n operations, b and those behind it in its session, count of the session u, to c
abbrev pub raises_from : OpId → ℕ → ℕ → Cause → ℕ → List Raise
raises_from b u c cause zero = []
raises_from b u c cause (suc n) =
    raises_from b u c cause n ++ record { op = op b.session (b.index + n); session = u; count = c; cause = cause_behind cause b n } ∷ []

-- what waits to be followed: what a state holds, and more
abbrev pub Waits : (Raised → Type 0) → GrowingOrder → Raised → Type 0
Waits more order e = Contains order.pending.items e ⊎ more e

-- nothing more
abbrev pub NoMore : Raised → Type 0
NoMore e = ⊥

module _ (waits : Raised → Type 0) where
  -- the raise of what the vector of b counts of the session y waits to be followed
  abbrev pub IsPending : OpId → ℕ → Type 0
  IsPending b y = (e : Raised) × waits e × (e.op ≡ b) × (e.session ≡ y)

  -- so does a raise that raised what the vector of a counts of the session z
  abbrev pub IsCovered : Counts → OpId → ℕ → Type 0
  IsCovered v a z = (e : Raised) × waits e × (e.session ≡ z) × (e.op.session ≡ a.session) × (e.op.index ≤ a.index) × (count v a z ≤ count v e.op z)

  -- the vector of b counts more of the session y than that of the operation before b does
  abbrev pub IsFresh : Counts → OpId → ℕ → Type 0
  IsFresh v b y = (j : ℕ) → b.index ≡ j + 1 → count v (op b.session j) y < count v b y

  -- where it does, it counts all that the last one counts that it counts of that session, or a raise waits
  abbrev pub IsFollowed : Counts → OpId → ℕ → Type 0
  IsFollowed v b y = IsFresh v b y → (i z : ℕ) → count v b y ≡ i + 1
      → (count v (op y i) z ≤ count v b z) ⊎ (IsPending b y ⊎ IsCovered v (op y i) z)

-- no count falls from one of the first operations of a session to the next
abbrev pub IsMonotone : Counts → (ℕ → ℕ) → Type 0
IsMonotone v past = (s j z : ℕ) → j + 1 < past s → count v (op s j) z ≤ count v (op s (j + 1)) z

-- no count falls from one operation to the next, and what was raised is followed, or waits
pub record IsSettled (more : Raised → Type 0) (order : GrowingOrder) : Type 0 where
  pub monotone : IsMonotone order.counts (λ s. slice_index order.past.items s)
  pub followed : (b : OpId) (y : ℕ) → IsIn order b → IsFollowed (Waits more order) order.counts b y

-- the vector of b counts all that the vector of m counts
abbrev pub IsPastOf : Counts → OpId → OpId → Type 0
IsPastOf v b m = (z : ℕ) → count v m z ≤ count v b z

-- so it is
abbrev pub Always : Type 0
Always = Unit {0}

-- no reads
abbrev pub NoReads : Ops
NoReads r = false

module _ (h : MemoryHistory) where
  -- a bound on the steps that are left
  abbrev pub left_of : GrowingOrder → ℕ
  left_of order = 2 * (most_counted h - all_counted h order.counts) + length order.pending.items

  -- the state speaks of operations of the history, and of no more of each session than is there
  pub record IsGrowing (order : GrowingOrder) : Type 0 where
    pub counts : AreHeldVectors h order.counts
    pub few : length h.1 ≤ MAX_SESSIONS
    pub short : (s : ℕ) → length (session h s) ≤ MAX_OPERATIONS
    pub sessions : length order.past.items ≡ length h.1
    pub past : (s : ℕ) → slice_index order.past.items s ≤ length (session h s)
    pub pending : All (IsRaisedIn h) order.pending.items
    pub waiting : All (λ e. IsIn order e.op) order.pending.items
    pub added : order.added ≤ all_counted h order.counts

  -- the first c operations of the session u are before b, since the last of them is before the read r, which reads from b, and
  -- writes its variable
  abbrev pub IsRuled : Ops → Counts → OpId → OpId → ℕ → ℕ → Type 0
  IsRuled reads v b r u c = (d : ℕ) × (c ≡ d + 1) × IsTrue (reads r) × ReadsFrom h b r × AreRivalWrites h (op u d) b × IsCounted v r (op u d)

  -- the first c operations of the session u are before b by this cause
  abbrev pub IsCaused : Ops → Counts → OpId → ℕ → ℕ → Cause → Type 0
  IsCaused reads v b u c (Through m) = IsThrough v b m u c
  IsCaused reads v b u c (Read r) = IsRuled reads v b r u c

  -- a raise: what it raises has a cause, which is noted, it goes up to the first operation that counts as much, and it waits to
  -- be followed
  pub record IsRaise (reads : Ops) (before after : GrowingOrder) : Type 0 where
    pub raised : Raised
    pub number : ℕ
    pub is_op : IsOp h raised.op
    pub some : raised.op.index < raised.end
    pub first : count before.counts raised.op raised.session < number
    pub inside : raised.end ≤ slice_index before.past.items raised.op.session
    pub range : IsRange before.counts after.counts raised.op.session raised.op.index raised.end raised.session number
    pub stopped : raised.end < slice_index before.past.items raised.op.session → number ≤ count before.counts (op raised.op.session raised.end) raised.session
    pub named : Cause
    pub cause : IsCaused reads before.counts raised.op raised.session number named
    pub raises : after.raises.items ≡ before.raises.items ++ raises_from raised.op raised.session number named (raised.end - raised.op.index)
    pub pending : after.pending.items ≡ before.pending.items ++ raised ∷ []
    pub past : after.past.items ≡ before.past.items
    pub added : after.added + all_counted h before.counts ≡ before.added + all_counted h after.counts
    pub more : all_counted h before.counts + (raised.end - raised.op.index) ≤ all_counted h after.counts
    pub cyclic : ((after.is_cyclic ≡ before.is_cyclic) × (raised.op.session ≢ raised.session)) ⊎ ((after.is_cyclic ≡ true) × (raised.op.session ≡ raised.session))
    pub most : after.most ≡ before.most

  -- an operation is taken in
  pub record IsInclusion (before after : GrowingOrder) : Type 0 where
    pub counts : after.counts ≡ before.counts
    pub pending : after.pending.items ≡ before.pending.items
    pub past : (s : ℕ) → slice_index before.past.items s ≤ slice_index after.past.items s
    pub added : after.added ≡ before.added
    pub raises : after.raises.items ≡ before.raises.items
    pub cyclic : after.is_cyclic ≡ before.is_cyclic
    pub most : after.most ≡ before.most

  -- the next operation of a session is taken in
  pub record IsIncluded (before after : GrowingOrder) (o : OpId) : Type 0 where
    pub growing : IsGrowing after
    pub inclusion : IsInclusion before after
    pub here : slice_index after.past.items o.session ≡ o.index + 1
    pub others : (t : ℕ) → t ≢ o.session → slice_index after.past.items t ≡ slice_index before.past.items t

  -- a raise is taken out, to be followed
  pub record IsRelease (before after : GrowingOrder) : Type 0 where
    pub counts : after.counts ≡ before.counts
    pub raised : Raised
    pub pending : before.pending.items ≡ after.pending.items ++ raised ∷ []
    pub past : after.past.items ≡ before.past.items
    pub added : after.added ≡ before.added
    pub raises : after.raises.items ≡ before.raises.items
    pub cyclic : after.is_cyclic ≡ before.is_cyclic
    pub most : after.most ≡ before.most

  -- a step: a raise may be taken out where that is free
  abbrev pub IsStep : Type 0 → Ops → GrowingOrder → GrowingOrder → Type 0
  IsStep free reads before after = IsRaise reads before after ⊎ (IsInclusion before after ⊎ (free × IsRelease before after))

  -- so many steps
  abbrev pub HasSteps : Type 0 → Ops → ℕ → GrowingOrder → GrowingOrder → Type 0
  HasSteps free reads zero before after = after ≡ before
  HasSteps free reads (suc n) before after = (middle : GrowingOrder) × HasSteps free reads n before middle × IsStep free reads middle after

  -- some steps, of which those by reads are by some reads alone
  pub record Grows (free : Type 0) (reads : Ops) (before after : GrowingOrder) : Type 0 where
    pub growing : IsGrowing after
    pub steps : ℕ
    pub made : HasSteps free reads steps before after

  -- the same, where no operation is taken in, and no raise is taken out
  pub record GrowsWithin (reads : Ops) (before after : GrowingOrder) : Type 0 where
    pub grows : Grows ⊥ reads before after
    pub past : after.past.items ≡ before.past.items

  -- one count was raised, and its cause noted
  pub record IsOneRaise (before after : GrowingOrder) (b : OpId) (u c : ℕ) (cause : Cause) : Type 0 where
    pub growing : IsGrowing after
    pub less : count before.counts b u < c
    pub counts : after.counts ≡ with_item before.counts b u c
    pub raises : after.raises.items ≡ before.raises.items ++ record { op = b; session = u; count = c; cause = cause } ∷ []
    pub pending : after.pending.items ≡ before.pending.items
    pub past : after.past.items ≡ before.past.items
    pub added : after.added + all_counted h before.counts ≡ before.added + all_counted h after.counts
    pub more : all_counted h before.counts < all_counted h after.counts
    pub cyclic : after.is_cyclic ≡ before.is_cyclic
    pub most : after.most ≡ before.most

  -- the counts of the session u were raised to c in the vectors of the operations t.i up to before t.e, the first by a cause
  pub record IsRaisedTo (before after : GrowingOrder) (t i e u c : ℕ) (cause : Cause) : Type 0 where
    pub growing : IsGrowing after
    pub from : i ≤ e
    pub inside : i < e → e ≤ slice_index before.past.items t
    pub range : IsRange before.counts after.counts t i e u c
    pub first : i < e → count before.counts (op t i) u < c
    pub pending : after.pending.items ≡ before.pending.items
    pub past : after.past.items ≡ before.past.items
    pub added : after.added + all_counted h before.counts ≡ before.added + all_counted h after.counts
    pub more : all_counted h before.counts + (e - i) ≤ all_counted h after.counts
    pub raises : after.raises.items ≡ before.raises.items ++ raises_from (op t i) u c cause (e - i)
    pub none : e ≡ i → after ≡ before
    pub cyclic : after.is_cyclic ≡ before.is_cyclic
    pub most : after.most ≡ before.most

  -- vectors in which no count falls along a session, and each counts what the last ones count that it counts
  pub record AreStraight (v : Counts) : Type 0 where
    pub monotone : (s j z : ℕ) → IsOp h (op s (j + 1)) → count v (op s j) z ≤ count v (op s (j + 1)) z
    pub within : (b : OpId) (y i z : ℕ) → IsOp h b → count v b y ≡ i + 1 → count v (op y i) z ≤ count v b z

  -- nothing waits, or more was added than may be
  pub record IsAtEnd (before after : GrowingOrder) : Type 0 where
    pub growing : IsGrowing after
    pub same : IsInclusion before after
    pub past : after.past.items ≡ before.past.items
    pub ended : (length after.pending.items ≡ 0) ⊎ MatchOption after.most ⊥ (λ most. most < after.added)

  -- a raise was taken out
  pub record TakesOut (before after : GrowingOrder) (raised : Raised) : Type 0 where
    pub growing : IsGrowing after
    pub is_raised : IsRaisedIn h raised
    pub is_in : IsIn before raised.op
    pub release : IsRelease before after
    pub same : release.raised ≡ raised

-- the counts of the session u were raised to c in vectors of operations of t from t.i on, of which the first so many are in
pub record IsRaisedFrom (v w : Counts) (past t i u c : ℕ) : Type 0 where
  pub changes : (p : OpId) (s : ℕ)
      → (count w p s ≡ count v p s) ⊎ ((p.session ≡ t) × (i ≤ p.index) × (s ≡ u) × (count v p s < c) × (count w p s ≡ c))
  pub reached : i < past → c ≤ count w (op t i) u

-- the first operation of the session s that counts o, of those of the state
pub record IsFirstBehind (order : GrowingOrder) (s : ℕ) (o : OpId) (n : ℕ) : Type 0 where
  pub inside : n ≤ slice_index order.past.items s
  pub before : (i : ℕ) → i < n → count order.counts (op s i) o.session ≤ o.index
  pub here : n < slice_index order.past.items s → o.index < count order.counts (op s n) o.session

-- the first such operation, or the first one that isn't in the state, is at one of these indices, the second among them
pub record IsAroundBehind (order : GrowingOrder) (s : ℕ) (o : OpId) (low high : ℕ) : Type 0 where
  pub ordered : low ≤ high
  pub inside : high ≤ slice_index order.past.items s
  pub before : (i : ℕ) → i < low → count order.counts (op s i) o.session ≤ o.index
  pub behind : (i : ℕ) → high ≤ i → i < slice_index order.past.items s → o.index < count order.counts (op s i) o.session

-- more was added than may be
abbrev pub IsGivenUp : GrowingOrder → Type 0
IsGivenUp order = MatchOption order.most ⊥ (λ most. most < order.added)

-- nothing is in the state yet
pub record IsBegun (order : GrowingOrder) : Type 0 where
  pub past : (s : ℕ) → slice_index order.past.items s ≡ 0
  pub pending : order.pending.items ≡ []
  pub added : order.added ≡ 0
  pub raises : order.raises.items ≡ []
  pub cyclic : order.is_cyclic ≡ false

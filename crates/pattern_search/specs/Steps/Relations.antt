-- The happened-before relation of one operation, as the search goes through it.
--
-- Private functions alone name these in their contracts: what a pattern is and what it shows does not rest on them.
use Rattle.std.specs.Prelude.{◌≡◌, ◌⊎◌, ℕ, ◌+◌, ◌<◌, IsTrue, List, length, MatchOption, None, Option}
use Rattle.model_history.specs.declared.op_id.OpId.{OpId}
use Rattle.model_history.specs.History.{IsOp, session}
use Rattle.order_memory.specs.declared.growing_order.Raise.{Raise}
use Rattle.order_memory.specs.declared.known_reads.KnownRead.{KnownRead}
use Rattle.order_memory.specs.HappenedBeforeVectors.{IsHBVectors}
use Rattle.order_memory.specs.Memory.{MemoryHistory, initial, Writes, Reads}
use Rattle.order_causal.specs.Orders.{op, program_past}
use Rattle.order_memory.specs.Raises.{AreReached, AreRightRaises}
use Rattle.order_memory.specs.Relations.{HB}
use Rattle.order_memory.specs.SourceOrder.{CountsSourceOrder}
use Rattle.order_memory.specs.Steps.HappenedBefores.{AreStrictOf, HasFewPairs, HasMorePairs}
use Rattle.order_causal.specs.Vectors.{Counts}

module _ (h : MemoryHistory) where
  -- the relation of an operation of the history, with vectors that count it, and right raises by which it was made from the
  -- causal order, each of which added a pair
  pub record IsRelation (relation : OpId × Counts × List Raise) : Type 0 where
    pub is_op : IsOp h relation.0
    pub causal : Counts
    pub order : CountsSourceOrder h causal
    pub counts : IsHBVectors h relation.0 relation.1
    pub strict : Counts
    pub begun : AreStrictOf h causal strict
    pub raises : AreRightRaises h relation.0 strict relation.2
    pub reached : AreReached strict relation.2 relation.1
    pub more : (n : ℕ) → n < length relation.2 → HasMorePairs h relation.0 n

  -- that of the last operation of the session s
  pub record IsRelationOfLast (s : ℕ) (relation : OpId × Counts × List Raise) : Type 0 where
    pub relation_of : IsRelation relation
    pub of_session : relation.0.session ≡ s
    pub last : relation.0.index + 1 ≡ length (session h s)

  -- and it has no more pairs than a number that the causal order doesn't have, if one is given
  pub record IsMadeForLast (most : Option ℕ) (s : ℕ) (relation : OpId × Counts × List Raise) : Type 0 where
    pub made : IsRelationOfLast s relation
    pub few : HasFewPairs h relation.0 most

  -- the relation of o has more pairs than a number that the causal order doesn't have
  abbrev pub HasLarge : Option ℕ → OpId → Type 0
  HasLarge most o = MatchOption most ⊥ (λ n. HasMorePairs h o n)

  -- the session s has no operation, or the relation of its last one has so many pairs
  abbrev pub HasNoRelation : Option ℕ → ℕ → Type 0
  HasNoRelation most s = (length (session h s) ≡ 0) ⊎ ((i : ℕ) × (i + 1 ≡ length (session h s)) × HasLarge most (op s i))

  -- in the relation of o the write w is before r, a read of the initial value of its variable that is o or before o in program
  -- order
  abbrev pub IsStartOverwritten : OpId → OpId → OpId → Type 0
  IsStartOverwritten o w r = (x v : ℕ) × Writes h w x v × Reads h r x (initial h x) × IsTrue (program_past o r) × HB h o w r

  -- there is no such read
  abbrev pub HasNoStart : OpId → Type 0
  HasNoStart o = (w r : OpId) → ¬ IsStartOverwritten o w r

  -- in the relation of o no operation is before itself
  abbrev pub HasNoCycle : OpId → Type 0
  HasNoCycle o = (a : OpId) → ¬ HB h o a a

  -- in the relations of the operations of the first n sessions there is no such read, or no such operation
  abbrev pub HasNoStartBefore : ℕ → Type 0
  HasNoStartBefore n = (o : OpId) → o.session < n → HasNoStart o

  abbrev pub HasNoCycleBefore : ℕ → Type 0
  HasNoCycleBefore n = (o : OpId) → o.session < n → HasNoCycle o

  -- in the relation of o a write of the variable of a read that has no source is before the read, which is o or before o in
  -- program order
  pub record IsWriteHappened (o : OpId) (k : KnownRead) (w : OpId) : Type 0 where
    pub initially : k.source ≡ None
    pub value : ℕ
    pub writes : Writes h w k.key value
    pub kept : IsTrue (program_past o k.op)
    pub before : HB h o w k.op

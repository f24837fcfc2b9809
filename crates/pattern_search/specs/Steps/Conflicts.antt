-- Steps of a cycle of the causal order and of conflicts, and the links that show them.
--
-- Private functions alone name these in their contracts: what a pattern is and what it shows does not rest on them.
use Rattle.std.specs.Prelude.{◌≡◌, ◌≢◌, ◌⊎◌, ℕ, ◌+◌, ◌-◌, ◌<◌, List, length, Some, slice_get}
use Rattle.model_history.specs.declared.op_id.OpId.{OpId}
use Rattle.order_memory.specs.declared.known_reads.KnownRead.{KnownRead}
use Rattle.order_memory.specs.Memory.{MemoryHistory}
use Rattle.order_causal.specs.Orders.{StandsAt, IsPath}
use Rattle.order_memory.specs.Relations.{AreRivalWrites, IsEdge, ReadsFrom}
use Rattle.order_memory.specs.Steps.Indexed.{IsKnownRead, IsLastWriteOfPast, IsSourcePast}
use Rattle.pattern_check.specs.declared.link.Link.{Link}
use Rattle.pattern_check.specs.Paths.{begin_of, end_of, IsLink}

module _ (h : MemoryHistory) where
  -- a known read reads from b and has another write a of its variable in its past, the last such write of its session
  pub record IsLastConflict (a b : OpId) (k : KnownRead) : Type 0 where
    pub source : k.source ≡ Some b
    pub apart : a ≢ b
    pub last : IsLastWriteOfPast h k.key a.session k.op a

  -- a read of b has another write a of its variable in its past
  pub record IsConflictBy (a b r : OpId) : Type 0 where
    pub past : IsSourcePast h r a
    pub reads : ReadsFrom h b r
    pub rivals : AreRivalWrites h a b

  -- a step of such a cycle: an edge of the causal order, or such a conflict by some known read
  abbrev pub IsConflictStep : OpId → OpId → Type 0
  IsConflictStep a b = IsEdge h a b ⊎ ((k : KnownRead) × IsKnownRead h k × IsLastConflict a b k)

  -- at least one step, and the last operation is the first
  pub record IsConflictCycle (ops : List OpId) : Type 0 where
    pub joined : IsPath IsConflictStep ops
    pub some : 1 < length ops
    pub closed : (a : OpId) × StandsAt ops 0 a × StandsAt ops (length ops - 1) a

  -- a link goes from a to b
  pub record LinksTo (a b : OpId) (link : Link) : Type 0 where
    pub is : IsLink h link
    pub begins : begin_of link ≡ Some a
    pub ends : end_of link ≡ b

  -- each link goes from the operation at its place to the next
  abbrev pub AreLinksOf : List OpId → List Link → Type 0
  AreLinksOf ops links =
      (k : ℕ) (a b : OpId) (l : Link) → StandsAt ops k a → StandsAt ops (k + 1) b → slice_get links k ≡ Some l → LinksTo a b l

-- Paths of the causal order, and links of a cycle of it and of conflicts, as a pattern names them.
use Rattle.std.specs.Prelude.{◌≡◌, ℕ, ◌+◌, ◌-◌, ◌<◌, List, length, All, Option, Some, slice_get}
use Rattle.model_history.specs.declared.op_id.OpId.{OpId}
use Rattle.pattern_check.specs.declared.link.Link.{Link}
use Rattle.pattern_check.specs.declared.link.Link.TheVariants.{Co, Cf}
use Rattle.order_memory.specs.Memory.{MemoryHistory}
use Rattle.order_causal.specs.Orders.{StandsAt, IsPath}
use Rattle.order_memory.specs.Relations.{ReadsFrom, IsEdge, AreRivalWrites}

-- a path from a to b by edges of the causal order; one operation alone goes to itself by no edge
pub record GoesFrom (h : MemoryHistory) (path : List OpId) (a b : OpId) : Type 0 where
  pub joined : IsPath (IsEdge h) path
  pub first : StandsAt path 0 a
  pub last : StandsAt path (length path - 1) b

-- a path has at least one edge
abbrev pub HasEdge : List OpId → Type 0
HasEdge path = 1 < length path

-- where a link begins: a path with no operation begins nowhere
abbrev pub begin_of : Link → Option OpId
begin_of (Co a b) = Some a
begin_of (Cf path b) = slice_get path 0

-- where a link ends
abbrev pub end_of : Link → OpId
end_of (Co a b) = b
end_of (Cf path b) = b

-- a path goes from a write to a read of another write of its variable, which is b
abbrev pub IsConflict : MemoryHistory → List OpId → OpId → Type 0
IsConflict h path b = (a r : OpId) × GoesFrom h path a r × ReadsFrom h b r × AreRivalWrites h a b

-- a link is an edge or a conflict
abbrev pub IsLink : MemoryHistory → Link → Type 0
IsLink h (Co a b) = IsEdge h a b
IsLink h (Cf path b) = IsConflict h path b

-- the second link begins where the first ends
abbrev pub AreJoined : Link → Link → Type 0
AreJoined l m = begin_of m ≡ Some (end_of l)

-- each link begins where the one before ends
abbrev pub AreJoinedInTurn : List Link → Type 0
AreJoinedInTurn links =
    (k : ℕ) (l m : Link) → slice_get links k ≡ Some l → slice_get links (k + 1) ≡ Some m → AreJoined l m

-- there is a link, and the first begins where the last ends
abbrev pub AreClosed : List Link → Type 0
AreClosed links =
    (l m : Link) × (slice_get links (length links - 1) ≡ Some l) × (slice_get links 0 ≡ Some m) × AreJoined l m

-- at least one link, each of which begins where the one before ends, and the first where the last ends
pub record IsCycle (h : MemoryHistory) (links : List Link) : Type 0 where
  pub each : All (IsLink h) links
  pub joined : AreJoinedInTurn links
  pub closed : AreClosed links

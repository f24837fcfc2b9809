-- What groups of a list show: those of two lists together, and all.
use Rattle.std.specs.Prelude.{◌≡◌, ◌⊎◌, ◌↔◌, ◌++◌, ℕ, ◌*◌, ◌<◌, ◌≤◌, Bool, IsPermutation, IsTrue, List, Some, length, slice_get}
use Rattle.std.proofs.Common.{arith, inl, inr, ⊎_elim}
use Rattle.std.proofs.lemmas.List.Sorted.{IsPermutation-sym}
use Rattle.std.proofs.lemmas.Option.{slice_get_within}
use Rattle.model_history.specs.declared.op_id.OpId.{OpId}
use Rattle.model_history.specs.History.{Precedes, number}
use Rattle.order_memory.specs.Memory.{MemoryHistory}
use Rattle.order_memory.specs.Relations.{CO}
use Rattle.judge_columns.specs.Conflicts.{IsReducedIn}
use Rattle.judge_columns.specs.Forks.{IsForkAt, IsForkBelow}
use Rattle.judge_workers.specs.Numbers.{HasNumber}
use Rattle.judge_columns.specs.Groups.{IsAmong, IsInGroups}
use Rattle.judge_columns.specs.Parts.{IsSweptOver}
use Rattle.judge_columns.specs.Swept.{AreSwept, HasEdge, IsListed, IsNumberedEdge}
use Rattle.judge_columns.specs.declared.swept.Swept.{Swept}
use Rattle.judge_columns.proofs.EdgeLists.{edge-moved}
use Rattle.judge_columns.proofs.GroupLists.{among-all, among-joined, groups-all, groups-joined}
use Rattle.judge_columns.proofs.PushedEdges.{edges-joined}
use Rattle.judge_columns.proofs.SessionsSwept.{swept-both, swept-same}
use Rattle.judge_columns.proofs.Shared.{shares-whole}

module _ (h : MemoryHistory) where
  -- the groups of two lists
  pub joined-groups : (size : ℕ) (at : ℕ → ℕ → Type 0) (xs ys zs : List ℕ) → zs ≡ xs ++ ys → (a b s : Swept)
      → IsSweptOver h (IsInGroups size at xs) a → IsSweptOver h (IsInGroups size at ys) b
      → IsTrue s.has_overwritten_start ↔ (IsTrue a.has_overwritten_start ⊎ IsTrue b.has_overwritten_start)
      → IsTrue s.has_overwritten_read ↔ (IsTrue a.has_overwritten_read ⊎ IsTrue b.has_overwritten_read)
      → s.edges.items ≡ a.edges.items ++ b.edges.items → IsSweptOver h (IsInGroups size at zs) s
  joined-groups size at xs ys zs both a b s first second starts reads edges = rw (both, edges)
      (swept-both h (IsInGroups size at xs) (IsInGroups size at ys) (IsInGroups size at (xs ++ ys)) (groups-joined size at xs ys)
      a.has_overwritten_start a.has_overwritten_read (HasEdge a.edges.items) first b.has_overwritten_start b.has_overwritten_read
      (HasEdge b.edges.items) second s.has_overwritten_start s.has_overwritten_read (HasEdge (a.edges.items ++ b.edges.items)) starts reads
      (edges-joined a.edges.items b.edges.items))

  -- the places of two lists
  pub joined-places : (sessions xs ys zs : List ℕ) → zs ≡ xs ++ ys → (a b s : Swept) → IsSweptOver h (IsAmong sessions xs) a
      → IsSweptOver h (IsAmong sessions ys) b → IsTrue s.has_overwritten_start ↔ (IsTrue a.has_overwritten_start ⊎ IsTrue b.has_overwritten_start)
      → IsTrue s.has_overwritten_read ↔ (IsTrue a.has_overwritten_read ⊎ IsTrue b.has_overwritten_read)
      → s.edges.items ≡ a.edges.items ++ b.edges.items → IsSweptOver h (IsAmong sessions zs) s
  joined-places sessions xs ys zs both a b s first second starts reads edges = rw (both, edges)
      (swept-both h (IsAmong sessions xs) (IsAmong sessions ys) (IsAmong sessions (xs ++ ys)) (among-joined sessions xs ys)
      a.has_overwritten_start a.has_overwritten_read (HasEdge a.edges.items) first b.has_overwritten_start b.has_overwritten_read
      (HasEdge b.edges.items) second s.has_overwritten_start s.has_overwritten_read (HasEdge (a.edges.items ++ b.edges.items)) starts reads
      (edges-joined a.edges.items b.edges.items))

  -- all places
  pub sessions-whole : (sessions places : List ℕ) → ((k : ℕ) → k < length sessions → HasNumber places k) → (s : Swept)
      → IsSweptOver h (IsAmong sessions places) s → IsSweptOver h (IsListed sessions (length sessions)) s
  sessions-whole sessions places all s was = swept-same h (IsAmong sessions places) (IsListed sessions (length sessions))
      (among-all sessions places all) s.has_overwritten_start s.has_overwritten_read (HasEdge s.edges.items) was

  module _ (count : ℕ) (groups : List ℕ) (all : (g : ℕ) → g < count → HasNumber groups g) (s : Swept) where
    -- all groups of 128 sessions with one write each
    pub forks-whole : (writes : List ℕ) → length writes ≤ count * 128 → IsSweptOver h (IsInGroups 128 (IsForkAt h writes) groups) s
        → IsSweptOver h (IsForkBelow h writes (length writes)) s
    forks-whole writes enough was = swept-same h (IsInGroups 128 (IsForkAt h writes) groups) (IsForkBelow h writes (length writes))
        (groups-all 128 (IsForkAt h writes) (length writes) count groups (omega arith) enough
        (λ k t is. slice_get_within writes k (number h is.0) is.2) all) s.has_overwritten_start s.has_overwritten_read
        (HasEdge s.edges.items) was

  -- the sessions that are swept alone, and those with one write each
  pub both-kinds : (list sessions forks : List ℕ)
      → ((u : ℕ) → (((k : ℕ) × (slice_get sessions k ≡ Some u)) ⊎ ((k : ℕ) × IsForkAt h forks k u)) ↔ IsListed list (length list) u)
      → (a b s : Swept) → IsSweptOver h (IsListed sessions (length sessions)) a → IsSweptOver h (IsForkBelow h forks (length forks)) b
      → IsTrue s.has_overwritten_start ↔ (IsTrue a.has_overwritten_start ⊎ IsTrue b.has_overwritten_start)
      → IsTrue s.has_overwritten_read ↔ (IsTrue a.has_overwritten_read ⊎ IsTrue b.has_overwritten_read)
      → s.edges.items ≡ a.edges.items ++ b.edges.items → IsSweptOver h (IsListed list (length list)) s
  both-kinds list sessions forks same a b s first second starts reads edges = rw (edges)
      (swept-both h (IsListed sessions (length sessions)) (IsForkBelow h forks (length forks)) (IsListed list (length list))
      (shares-whole h sessions forks (IsListed list (length list)) same) a.has_overwritten_start a.has_overwritten_read
      (HasEdge a.edges.items) first b.has_overwritten_start b.has_overwritten_read (HasEdge b.edges.items) second
      s.has_overwritten_start s.has_overwritten_read (HasEdge (a.edges.items ++ b.edges.items)) starts reads
      (edges-joined a.edges.items b.edges.items))

  -- the same edges in another order
  module _ (edges moved : List (ℕ × ℕ)) (permuted : IsPermutation edges moved) where
    there : (a w : OpId) → IsNumberedEdge h (HasEdge edges) a w → IsNumberedEdge h (HasEdge moved) a w
    there a w (is_a, is_w, between) = (is_a, is_w, edge-moved edges moved permuted (number h a) (number h w) between)

    back : (a w : OpId) → IsNumberedEdge h (HasEdge moved) a w → IsNumberedEdge h (HasEdge edges) a w
    back a w (is_a, is_w, between) =
        (is_a, is_w, edge-moved moved edges (IsPermutation-sym edges moved permuted) (number h a) (number h w) between)

    moved-reduced : (t : ℕ) → IsReducedIn h t (IsNumberedEdge h (HasEdge edges)) → IsReducedIn h t (IsNumberedEdge h (HasEdge moved))
    moved-reduced t was = record {
      sound = λ a w edge. was.sound a w (back a w edge);
      each = λ b w of_t conflict. ⊎_elim
          (λ (before : CO h b w). inl before)
          (λ (some : (a : OpId) × ((b ≡ a) ⊎ Precedes b a) × IsNumberedEdge h (HasEdge edges) a w).
          inr (some.0, some.1, there some.0 w some.2))
          (was.each b w of_t conflict);
    }

    pub moved-edges : (sessions : ℕ → Type 0) (start read : Bool) → AreSwept h sessions start read (HasEdge edges)
        → AreSwept h sessions start read (HasEdge moved)
    moved-edges sessions start read was = record {
      starts = was.starts;
      reads = was.reads;
      sound = λ clear a w edge. was.sound clear a w (back a w edge);
      reduced = λ clear t is. moved-reduced t (was.reduced clear t is);
      below = λ from to has. was.below from to (edge-moved moved edges (IsPermutation-sym edges moved permuted) from to has);
    }

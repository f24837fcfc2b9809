-- The past of an operation, by how many operations of each session are in it.
use Rattle.std.specs.Prelude.{◌≡◌, ◌⊎◌, ℕ, zero, suc, ◌+◌, ◌<◌, ◌≤◌, List, [], ◌∷◌, ◌++◌, length}
use Rattle.model_history.specs.declared.op_id.OpId.{OpId}
use Rattle.model_history.specs.History.{IsOp, Precedes, number}
use Rattle.order_memory.specs.Memory.{MemoryHistory}
use Rattle.order_memory.specs.Relations.{ReadsFrom, IsPast}
use Rattle.judge_memory.specs.Steps.{IsAfter, StandsAs}
use Rattle.judge_session_orders.specs.Backward.{IsLeft}
use Rattle.judge_session_orders.specs.declared.read_edges.ReadEdge.{ReadEdge}

module _ (h : MemoryHistory) where
  -- o is left, and only operations of its past are; those of its past from the place i of the order on are left with their sources
  pub record IsPastAfter (o : OpId) (order : List ℕ) (i : ℕ) (left : ℕ → ℕ) : Type 0 where
    pub own : IsLeft left o
    pub within : (a : OpId) → IsLeft left a → IsPast h o a
    pub found : (b : OpId) → IsOp h b → IsAfter h order i b → IsPast h o b → IsLeft left b × ((w : OpId) → ReadsFrom h w b → IsLeft left w)

  -- if b is left and has a source, the source is left then with what precedes it, and nothing else is added
  pub record IsRaised (b : OpId) (left after : ℕ → ℕ) : Type 0 where
    pub more : (u : ℕ) → left u ≤ after u
    pub source : IsLeft left b → (w : OpId) → ReadsFrom h w b → IsLeft after w
    pub only : (a : OpId) → IsLeft after a → IsLeft left a ⊎ (IsLeft left b × ((w : OpId) × ReadsFrom h w b × ((a ≡ w) ⊎ Precedes a w)))

  -- e is the edge of the read b, and its sessions are of the history
  pub record IsReadEdge (b : OpId) (e : ReadEdge) : Type 0 where
    pub read : e.read ≡ number h b
    pub session : e.session ≡ b.session
    pub source : (w : OpId) × ReadsFrom h w b × (e.end ≡ number h w + 1) × (e.source_session ≡ w.session)
    pub below : e.session < length h.1
    pub source_below : e.source_session < length h.1

  -- b has no source, and its list of edges is that of others; or its edge comes first, and that of others after it
  abbrev pub IsEdgeOf : OpId → (List ReadEdge → Type 0) → List ReadEdge → Type 0
  IsEdgeOf b AreOthers edges = (((w : OpId) → ¬ ReadsFrom h w b) × AreOthers edges)
      ⊎ ((e : ReadEdge) × (others : List ReadEdge) × (edges ≡ e ∷ others) × IsReadEdge b e × AreOthers others)

  -- the edges of the reads at the places of the order before i, the last one first
  abbrev pub AreReadEdges : List ℕ → ℕ → List ReadEdge → Type 0
  AreReadEdges order zero edges = edges ≡ []
  AreReadEdges order (suc i) edges = (b : OpId) × IsOp h b × StandsAs h order i b × IsEdgeOf b (AreReadEdges order i) edges

  -- the edge of b is put after others, or b has no source
  abbrev pub IsPushed : OpId → List ReadEdge → List ReadEdge → Type 0
  IsPushed b old new = (((w : OpId) → ¬ ReadsFrom h w b) × (new ≡ old)) ⊎ ((e : ReadEdge) × IsReadEdge b e × (new ≡ old ++ (e ∷ [])))

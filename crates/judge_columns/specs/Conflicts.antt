-- Edges that represent the conflicts of writes.
use Rattle.std.specs.Prelude.{◌≡◌, ◌⊎◌, ℕ, ◌+◌, ◌<◌, ◌≤◌, Bool, IsTrue}
use Rattle.model_history.specs.declared.op_id.OpId.{OpId}
use Rattle.model_history.specs.History.{IsOp, Precedes, number}
use Rattle.order_causal.specs.Orders.{Leads}
use Rattle.order_memory.specs.Memory.{MemoryHistory}
use Rattle.order_memory.specs.Relations.{CO, CF}
use Rattle.judge_columns.specs.LastWrites.{IsLastBeside}

module _ (h : MemoryHistory) (t : ℕ) where
  -- the edges are conflicts, and for each conflict of a write of the session t that is not in CO, there is an edge from the write or from
  -- a later operation of t
  pub record IsReducedIn (edge : OpId → OpId → Type 0) : Type 0 where
    pub sound : (a w : OpId) → edge a w → CF h a w
    pub each : (b w : OpId) → b.session ≡ t → CF h b w → CO h b w ⊎ ((a : OpId) × ((b ≡ a) ⊎ Precedes b a) × edge a w)

  -- for each write the table has 0 or the number after that of the latest last write beside it, of the reads that were seen; last writes
  -- that come after it or before it in CO may be left out
  pub record IsLateTable (ends firsts : ℕ → ℕ) (seen : OpId → Type 0) (late : ℕ → ℕ) : Type 0 where
    pub sound : (w : OpId) (n : ℕ) → IsOp h w → late (number h w) ≡ n + 1 → (r a : OpId) × IsLastBeside h t ends w r a × (number h a ≡ n)
    pub each : (w r a : OpId) → seen r → IsLastBeside h t ends w r a
        → (firsts (number h w) ≤ number h a) ⊎ ((number h a < ends (number h w)) ⊎ (number h a < late (number h w)))

-- the edges of a table of late writes
abbrev pub IsLateEdge : MemoryHistory → (ℕ → ℕ) → OpId → OpId → Type 0
IsLateEdge h late a w = IsOp h a × IsOp h w × (late (number h w) ≡ number h a + 1)

-- yes says that CO and the conflicts of writes have no cycle together, and no that they have one
pub record IsConvergence (h : MemoryHistory) (yes : Bool) : Type 0 where
  pub acyclic : IsTrue yes → (a : OpId) → ¬ Leads (λ b c. CO h b c ⊎ CF h b c) a a
  pub cyclic : ¬ IsTrue yes → (a : OpId) × Leads (λ b c. CO h b c ⊎ CF h b c) a a

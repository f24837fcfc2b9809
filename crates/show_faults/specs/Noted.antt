-- The latest writes that reads missed, as they are noted: by the number of a read, 0 or the number after that of the write.
use Rattle.std.specs.Prelude.{◌≡◌, ◌≢◌, ◌⊎◌, ℕ, ◌+◌, ◌-◌, ◌<◌, ◌≤◌, List, length, Some, slice_get, slice_index_or}
use Rattle.model_history.specs.declared.op_id.OpId.{OpId}
use Rattle.model_history.specs.History.{IsOp, Precedes, number}
use Rattle.order_memory.specs.Memory.{MemoryHistory}
use Rattle.order_memory.specs.Relations.{CO}
use Rattle.order_memory.specs.SourceOrder.{IsCyclic}
use Rattle.judge_memory.specs.Steps.{many}
use Rattle.show_faults.specs.Faults.{IsLatest, Misses}

module _ (h : MemoryHistory) where
  -- of the writes of the session t that r missed: 0 where there is none, else the number after that of the last one
  pub record IsLastMissed (t : ℕ) (r : OpId) (m : ℕ) : Type 0 where
    pub none : m ≡ 0 → (b : OpId) → b.session ≡ t → ¬ Misses h r b
    pub some : (n : ℕ) → m ≡ n + 1 → (a : OpId) × IsOp h a × (number h a ≡ n) × (a.session ≡ t) × Misses h r a
        × ((b : OpId) → b.session ≡ t → Misses h r b → (b ≡ a) ⊎ Precedes b a)

  -- of such writes that r missed: 0 where there is none, else the number after that of a latest one
  pub record IsNoted (such : OpId → Type 0) (r : OpId) (m : ℕ) : Type 0 where
    pub none : m ≡ 0 → (b : OpId) → such b → ¬ Misses h r b
    pub some : (n : ℕ) → m ≡ n + 1 → (a : OpId) × IsOp h a × (number h a ≡ n) × Misses h r a
        × ((b : OpId) → such b → Misses h r b → ¬ CO h a b)

  -- b is of one of the first i sessions of the list
  abbrev pub IsOfFirst : List ℕ → ℕ → OpId → Type 0
  IsOfFirst sessions i b = (k : ℕ) × (k < i) × (slice_get sessions k ≡ Some b.session)

  -- of each operation, as far as the first i sessions show
  pub record AreNoted (sessions : List ℕ) (i : ℕ) (missed : List ℕ) : Type 0 where
    pub size : length missed ≡ many h
    pub each : (r : OpId) → IsOp h r → IsNoted (IsOfFirst sessions i) r (slice_index_or missed (number h r) 0)

  -- of each operation, as far as the first i sessions show, and of those with numbers below n as far as one session more shows
  pub record AreNotedBelow (sessions : List ℕ) (i n : ℕ) (missed : List ℕ) : Type 0 where
    pub size : length missed ≡ many h
    pub below : (r : OpId) → IsOp h r → number h r < n → IsNoted (IsOfFirst sessions (i + 1)) r (slice_index_or missed (number h r) 0)
    pub rest : (r : OpId) → IsOp h r → n ≤ number h r → IsNoted (IsOfFirst sessions i) r (slice_index_or missed (number h r) 0)

  -- of all writes; where CO has a cycle nothing is noted
  pub record AreLatestMissed (missed : List ℕ) : Type 0 where
    pub size : length missed ≡ many h
    pub none : ¬ IsCyclic h → (r : OpId) → IsOp h r → slice_index_or missed (number h r) 0 ≡ 0 → (b : OpId) → ¬ Misses h r b
    pub some : (r : OpId) → IsOp h r → (n : ℕ) → slice_index_or missed (number h r) 0 ≡ n + 1
        → (a : OpId) × IsOp h a × (number h a ≡ n) × Misses h r a × IsLatest h r a × ¬ IsCyclic h

-- the later of two numbers after those of missed writes, by the firsts of the session of the second
pub record IsLater (firsts : ℕ → ℕ) (noted write later : ℕ) : Type 0 where
  pub empty : noted ≡ 0 → later ≡ write
  pub after : noted ≢ 0 → firsts (noted - 1) < write → later ≡ write
  pub other : noted ≢ 0 → write ≤ firsts (noted - 1) → later ≡ noted

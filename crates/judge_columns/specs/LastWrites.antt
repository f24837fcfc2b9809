-- The last writes of a session, as a table with one place for each variable, and what they show of reads.
use Rattle.std.specs.Prelude.{◌≡◌, ◌≢◌, ℕ, ◌+◌, ◌<◌, ◌≤◌}
use Rattle.model_history.specs.declared.op_id.OpId.{OpId}
use Rattle.model_history.specs.History.{IsOp, number}
use Rattle.order_memory.specs.Memory.{MemoryHistory, initial, Writes, Reads}
use Rattle.order_memory.specs.Relations.{ReadsFrom, CO, AreRivalWrites}

-- a writes the variable x
abbrev pub WritesTo : MemoryHistory → ℕ → OpId → Type 0
WritesTo h x a = (v : ℕ) × Writes h a x v

module _ (h : MemoryHistory) (writes : ℕ → OpId → Type 0) where
  -- writes are operations, each of one variable
  pub record AreWrites : Type 0 where
    pub is_op : (x : ℕ) (a : OpId) → writes x a → IsOp h a
    pub one : (x y : ℕ) (a : OpId) → writes x a → writes y a → x ≡ y

  -- a is the last write of x in the session t whose number is below at
  pub record IsLastIn (t x at : ℕ) (a : OpId) : Type 0 where
    pub of_session : a.session ≡ t
    pub wrote : writes x a
    pub below : number h a < at
    pub last : (b : OpId) → b.session ≡ t → writes x b → number h b < at → number h b ≤ number h a

  -- for each variable the table has 0 or the number after that of a write of it: of the last one in the session t below at, where t has
  -- one there
  pub record IsLastTable (t at : ℕ) (table : ℕ → ℕ) : Type 0 where
    pub written : (x n : ℕ) → table x ≡ n + 1 → (a : OpId) × writes x a × (number h a ≡ n)
    pub latest : (x : ℕ) (b : OpId) → b.session ≡ t → writes x b → number h b < at → (number h b < table x) × (table x ≤ at)

module _ (h : MemoryHistory) (t : ℕ) where
  -- a write of the session t comes in CO before a read of the initial value of its variable
  abbrev pub HasOverwrittenStartFrom : Type 0
  HasOverwrittenStartFrom = (w r : OpId) × (x v : ℕ) × (w.session ≡ t) × Writes h w x v × Reads h r x (initial h x) × CO h w r

  -- a write of the session t comes in CO after another write of its variable and before a read of that one
  abbrev pub HasOverwrittenReadBy : Type 0
  HasOverwrittenReadBy = (a b r : OpId) × (b.session ≡ t) × ReadsFrom h a r × AreRivalWrites h a b × CO h a b × CO h b r

  -- r reads the initial value of a variable that a write of the session t in its past overwrote
  abbrev pub ShowsStart : (ℕ → ℕ) → OpId → Type 0
  ShowsStart ends r = (a : OpId) × (x : ℕ) × Reads h r x (initial h x) × IsLastIn h (WritesTo h) t x (ends (number h r)) a

  -- a is the last write of the session t in the past of the read r of w, of its variable, and another one than w
  abbrev pub IsLastBeside : (ℕ → ℕ) → OpId → OpId → OpId → Type 0
  IsLastBeside ends w r a = (from : ReadsFrom h w r) × IsLastIn h (WritesTo h) t from.0 (ends (number h r)) a × (a ≢ w)

  -- r reads a write that is in the past of such a write
  abbrev pub ShowsRead : (ℕ → ℕ) → (ℕ → ℕ) → OpId → Type 0
  ShowsRead ends firsts r = (w a : OpId) × IsLastBeside ends w r a × (firsts (number h w) ≤ number h a)

-- Sessions that read only what no other write of the variable can come after.
use Rattle.std.specs.Prelude.{◌≡◌, ◌≢◌, ℕ, ◌<◌, ◌≤◌, List, slice_index_or}
use Rattle.model_history.specs.declared.op_id.OpId.{OpId}
use Rattle.model_history.specs.History.{IsOp, number}
use Rattle.order_memory.specs.Memory.{MemoryHistory, initial, Reads}
use Rattle.order_memory.specs.Relations.{ReadsFrom, AreRivalWrites}
use Rattle.judge_session_orders.specs.Tables.{WritesNumber}

module _ (h : MemoryHistory) where
  -- r read no initial value, and if it read from a write, no other write is of the variable
  pub record IsLone (r : OpId) : Type 0 where
    pub unsourced : (x : ℕ) → ¬ Reads h r x (initial h x)
    pub lone : (w a : OpId) → ReadsFrom h w r → ¬ AreRivalWrites h a w

  -- each operation of the session t is so
  abbrev pub HasLoneSources : ℕ → Type 0
  HasLoneSources t = (r : OpId) → IsOp h r → r.session ≡ t → IsLone r

-- of each variable, how many of the operations with numbers below n write it
pub record CountsWrites (h : MemoryHistory) (variables : List ℕ) (n : ℕ) (counts : List ℕ) : Type 0 where
  pub most : (x : ℕ) → slice_index_or counts x 0 ≤ n
  pub none : (x : ℕ) (a : OpId) → IsOp h a → number h a < n → WritesNumber h variables x a → slice_index_or counts x 0 ≢ 0
  pub one : (x : ℕ) (a b : OpId) → IsOp h a → IsOp h b → number h a < n → number h b < n → WritesNumber h variables x a
      → WritesNumber h variables x b → slice_index_or counts x 0 ≤ 1 → a ≡ b

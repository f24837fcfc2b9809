-- Histories of a memory: what each operation writes or reads.
use Rattle.std.specs.Prelude.{◌≡◌, ◌≢◌, ℕ, List, Some, option_map}
use Rattle.model_objects.specs.declared.keyed.KeyedCall.{KeyedCall}
use Rattle.model_objects.specs.declared.register.RegisterCall.{RegisterCall}
use Rattle.model_objects.specs.declared.register.RegisterCall.TheVariants.{Write, Read}
use Rattle.model_objects.specs.declared.register.RegisterRet.{RegisterRet}
use Rattle.model_objects.specs.declared.register.RegisterRet.TheVariants.{Value}
use Rattle.model_objects.specs.Table.{start_at}
use Rattle.model_objects.specs.Register.{answer as register_answer}
use Rattle.model_objects.specs.Keyed.{answer as keyed_answer}
use Rattle.model_history.specs.declared.op_id.OpId.{OpId}
use Rattle.model_history.specs.History.{HistoryValue, entry}

-- a call of a memory: a write of a value to a variable, or a read of it
abbrev pub MemoryCall : Type 0
MemoryCall = KeyedCall RegisterCall

-- a history of a memory; its start is the table of the initial values that are not 0
abbrev pub MemoryHistory : Type 0
MemoryHistory = HistoryValue (List (ℕ × ℕ)) MemoryCall RegisterRet

-- what a memory answers: to a read, the value that was written last to its variable, or the variable's initial value
abbrev pub memory_answer : List (ℕ × ℕ) → List MemoryCall → MemoryCall → RegisterRet
memory_answer = keyed_answer 0 register_answer

module _ (h : MemoryHistory) where
  -- the initial value of the variable x
  abbrev pub initial : ℕ → ℕ
  initial x = start_at 0 h.0 x

  -- the operation a writes v to x, whether its return is known or not
  abbrev pub Writes : OpId → ℕ → ℕ → Type 0
  Writes a x v = option_map (λ e. e.0) (entry h a) ≡ Some (record { key = x; call = Write v })

  -- the operation a reads x, and it is known that v was returned
  abbrev pub Reads : OpId → ℕ → ℕ → Type 0
  Reads a x v = entry h a ≡ Some (record { key = x; call = Read }, Some (Value v))

  -- distinct values: no variable is written twice with one value, and no write writes its variable's initial value
  -- (differentiated histories, in the section on data independence)
  pub record IsDifferentiated : Type 0 where
    pub once : (a b : OpId) (x v : ℕ) → Writes a x v → Writes b x v → a ≡ b
    pub not_initial : (a : OpId) (x v : ℕ) → Writes a x v → v ≢ initial x

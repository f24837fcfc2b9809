-- Memory histories that differ in their values alone: what the values of each variable become.
use Rattle.std.specs.Prelude.{◌≡◌, ℕ, List, map, Option, option_map}
use Rattle.model_objects.specs.declared.register.RegisterCall.{RegisterCall}
use Rattle.model_objects.specs.declared.register.RegisterCall.TheVariants.{Read, Write}
use Rattle.model_objects.specs.declared.register.RegisterRet.{RegisterRet}
use Rattle.model_objects.specs.declared.register.RegisterRet.TheVariants.{Done, Value}
use Rattle.order_memory.specs.Memory.{MemoryCall, MemoryHistory, initial}

-- for each variable, what each of its values becomes; two values may become one
abbrev pub Renaming : Type 0
Renaming = ℕ → ℕ → ℕ

-- a call, with its return or none
abbrev pub Operation : Type 0
Operation = MemoryCall × Option RegisterRet

module _ (become : ℕ → ℕ) where
  abbrev pub renamed_call : RegisterCall → RegisterCall
  renamed_call (Write v) = Write (become v)
  renamed_call Read = Read

  abbrev pub renamed_return : RegisterRet → RegisterRet
  renamed_return Done = Done
  renamed_return (Value v) = Value (become v)

module _ (renaming : Renaming) where
  abbrev pub renamed_at_key : MemoryCall → MemoryCall
  renamed_at_key c = record { key = c.key; call = renamed_call (renaming c.key) c.call }

  -- the same operation, with what its values become
  abbrev pub renamed : Operation → Operation
  renamed e = (renamed_at_key e.0, option_map (renamed_return (renaming e.0.key)) e.1)

  -- the other history has the operations of h, with what their values become, and starts with what the initial values become
  pub record IsRenamed (h other : MemoryHistory) : Type 0 where
    pub operations : map (map renamed) h.1 ≡ other.1
    pub start : (x : ℕ) → initial other x ≡ renaming x (initial h x)

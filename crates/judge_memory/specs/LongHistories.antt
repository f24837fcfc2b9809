-- What a memory history without limits may be.
use Rattle.std.specs.Prelude.{◌≡◌, ◌≢◌, ℕ, ◌<◌, ◌^◌, Bool, true, List, All, Some, None, Option, slice_get}
use Rattle.model_objects.specs.Register.{matches}
use Rattle.model_objects.specs.Table.{IsRising}
use Rattle.model_history.specs.History.{session}
use Rattle.json_histories.specs.Form.{EachCall}
use Rattle.order_memory.specs.Memory.{MemoryHistory}

-- what a session may be: each known return fits its call, and the known returns come first
pub record IsLongSession {C R : Type 0} (fits : C → R → Bool) (es : List (C × Option R)) : Type 0 where
  pub fitting : (i : ℕ) (c : C) (r : R) → slice_get es i ≡ Some (c, Some r) → fits c r ≡ true
  pub known_first : (i j : ℕ) (c d : C) (r : R) → i < j → slice_get es i ≡ Some (c, None) → slice_get es j ≡ Some (d, Some r) → ⊥

-- what a table of initial values may be: keys that rise, each with a value that is not 0
pub record IsLongTable (table : List (ℕ × ℕ)) : Type 0 where
  pub rising : IsRising table
  pub small : All (λ entry. entry.0 < 2 ^ 32) table
  pub not_plain : All (λ entry. entry.1 ≢ 0) table

-- what a history may be: such a table, any number of such sessions, and keys below 2^32
pub record IsLongHistory (h : MemoryHistory) : Type 0 where
  pub start : IsLongTable h.0
  pub each : (s : ℕ) → IsLongSession (λ c. matches c.call) (session h s)
  pub calls : EachCall (λ c. c.key < 2 ^ 32) h.1

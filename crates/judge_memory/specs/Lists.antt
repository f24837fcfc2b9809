-- Lists by the numbers of operations and of sessions.
use Rattle.std.specs.Prelude.{◌≡◌, ℕ, ◌+◌, ◌≤◌, List, Option, Some, length, option_map, slice_get, slice_index_or}
use Rattle.model_objects.specs.declared.register.RegisterRet.{RegisterRet}
use Rattle.model_history.specs.declared.op_id.OpId.{OpId}
use Rattle.model_history.specs.History.{IsOp, entry, many_before, number}
use Rattle.order_memory.specs.Memory.{MemoryCall, MemoryHistory}

-- a list has n entries, and that of each operation, at the place of its number, is as is_of says
pub record ListsEach {X : Type 0} (h : MemoryHistory) (is_of : OpId → X → Type 0) (n : ℕ) (xs : List X) : Type 0 where
  pub count : length xs ≡ n
  pub each : (o : OpId) (x : X) → IsOp h o → slice_get xs (number h o) ≡ Some x → is_of o x

-- it has the number of the first operation of each of the first n sessions, and at last how many operations these have
pub record ListsStarts (h : MemoryHistory) (n : ℕ) (starts : List ℕ) : Type 0 where
  pub count : length starts ≡ n + 1
  pub start : (t : ℕ) → t ≤ n → slice_index_or starts t 0 ≡ many_before h t

-- s is the session of o
abbrev pub IsSessionOf : OpId → ℕ → Type 0
IsSessionOf o s = s ≡ o.session

-- x is the key of what o called
abbrev pub IsKeyOf : MemoryHistory → OpId → ℕ → Type 0
IsKeyOf h o x = option_map (λ (e : MemoryCall × Option RegisterRet). e.0.key) (entry h o) ≡ Some x

-- the places are those of the keys among the distinct ones
pub record ArePlaces (distinct keys places : List ℕ) : Type 0 where
  pub count : length places ≡ length keys
  pub each : (n place : ℕ) → slice_get places n ≡ Some place → slice_get distinct place ≡ slice_get keys n

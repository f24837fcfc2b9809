-- What a part is made of, so that it is a history.
use Rattle.std.specs.Prelude.{◌≡◌, ℕ, ◌+◌, ◌<◌, ◌≤◌, List, Option, Some, None, length, slice_get, slice_index_or}
use Rattle.std.specs.Map.{keys_of}
use Rattle.model_objects.specs.declared.register.RegisterRet.{RegisterRet}
use Rattle.model_objects.specs.Register.{matches}
use Rattle.model_history.specs.History.{IsSession}
use Rattle.model_history.specs.declared.limits.TheConstants.{MAX_SESSIONS}
use Rattle.order_memory.specs.Memory.{MemoryCall}
use Rattle.json_histories.specs.Form.{AreSessions}

-- a session of a memory
abbrev pub IsMemorySession : List (MemoryCall × Option RegisterRet) → Type 0
IsMemorySession es = IsSession (λ c. matches c.call) es

-- few sessions of a memory
pub record AreFewSessions (sessions : List (List (MemoryCall × Option RegisterRet))) : Type 0 where
  pub few : length sessions ≤ MAX_SESSIONS
  pub each : AreSessions (λ c. matches c.call) sessions

-- no known return comes after an unknown one where e follows the last of es
abbrev pub CanFollow : List (MemoryCall × Option RegisterRet) → MemoryCall × Option RegisterRet → Type 0
CanFollow es e = (i : ℕ) (c d : MemoryCall) (r : RegisterRet) → i + 1 ≡ length es → slice_get es i ≡ Some (c, None) → e ≡ (d, Some r) → ⊥

-- the last key of a table, if there is one, is below another key
abbrev pub IsAboveLast : List (ℕ × ℕ) → ℕ → Type 0
IsAboveLast table key = (i : ℕ) → i + 1 ≡ length table → slice_index_or (keys_of table) i 0 < key

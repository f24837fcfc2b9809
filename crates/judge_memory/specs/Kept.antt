-- What the type of long histories keeps.
use Rattle.std.specs.Prelude.{◌≡◌, ℕ, ◌≤◌, List, Option, length}
use Rattle.model_objects.specs.declared.register.RegisterRet.{RegisterRet}
use Rattle.order_memory.specs.Memory.{MemoryCall}
use Rattle.judge_memory.specs.LongHistories.{IsLongHistory}
use Rattle.judge_memory.specs.Steps.{many}
use Rattle.judge_memory.specs.declared.limits.TheConstants.{MAX_NUMBERS}

-- it is a history, with so many operations, and its numbers fit 32 bits
pub record IsKept (start : List (ℕ × ℕ)) (sessions : List (List (MemoryCall × Option RegisterRet))) (operations : ℕ) : Type 0 where
  pub history : IsLongHistory (start, sessions)
  pub count : operations ≡ many (start, sessions)
  pub few : operations ≤ MAX_NUMBERS
  pub few_sessions : length sessions ≤ MAX_NUMBERS

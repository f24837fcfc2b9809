-- Lines that are refused.
use Rattle.std.specs.Prelude.{ℕ, List}
use Rattle.json_lines.specs.declared.outcome.Outcome.{Outcome}
use Rattle.app_engine.specs.declared.failure.RunError.{RunError}
use Rattle.app_orders.specs.declared.length.Length.{Length}
use Rattle.app_engine.specs.LineAnswers.{IsLineError, IsLineRefusal}

-- the text answers each line of which this error can come
abbrev pub IsRefusalBy : RunError → List ℕ → Outcome → Type 0
IsRefusalBy error text outcome = (long : Length) (line : List ℕ) → IsLineError long line error → IsLineRefusal long line text outcome

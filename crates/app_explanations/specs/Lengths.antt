-- Histories within the limits of a history, of any object, and memory histories of any length.
use Rattle.std.specs.Prelude.{ℕ, List, Option}
use Rattle.serde_json.specs.Data.{Data}
use Rattle.app_orders.specs.declared.length.Length.{Length}
use Rattle.app_orders.specs.declared.length.Length.TheVariants.{Limited, Any}
use Rattle.json_histories.specs.declared.any_history.AnyHistory.{AnyHistory}
use Rattle.json_histories.specs.declared.any_history.AnyHistory.TheVariants.{Memory}
use Rattle.json_histories.specs.declared.read_error.ReadError.{ReadError}
use Rattle.json_histories.specs.AnyForm.{IsAnyHistory, IsRefusedFor, first_refusal}
use Rattle.judge_memory.specs.LongHistories.{IsLongHistory}
use Rattle.judge_reader.specs.LongRefusals.{IsRefusedLong, first_long_refusal}

-- what may be a history: of any length it is one of a memory
abbrev pub IsHistoryOf : Length → AnyHistory → Type 0
IsHistoryOf Limited history = IsAnyHistory history
IsHistoryOf Any (Memory h) = IsLongHistory h
IsHistoryOf Any _ = ⊥

-- the first refusal of a JSON value, or none
abbrev pub first_refusal_of : Length → Data → Option ReadError
first_refusal_of Limited = first_refusal
first_refusal_of Any = first_long_refusal

-- why a text is refused
abbrev pub IsRefusedAs : Length → List ℕ → ReadError → Type 0
IsRefusedAs Limited = IsRefusedFor
IsRefusedAs Any = IsRefusedLong

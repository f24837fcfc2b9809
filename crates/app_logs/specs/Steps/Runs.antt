-- What is kept of a log that was read.
use Rattle.std.specs.Prelude.{◌≡◌, ℕ, IfSome, List, Option}
use Rattle.order_memory.specs.Memory.{MemoryHistory}
use Rattle.log_events.specs.Events.{Call}
use Rattle.log_choices.specs.declared.exclusions.LackingRead.{LackingRead}
use Rattle.log_choices.specs.declared.seen.Seen.{Seen}
use Rattle.log_choices.specs.ChoiceTables.{choice_in}
use Rattle.log_choices.specs.ChosenHistories.{history_by}
use Rattle.log_choices.specs.ChosenOrigins.{origins_by}
use Rattle.log_choices.specs.Exclusions.{IsLackingRead}
use Rattle.log_reader.specs.Logs.{Log}

-- the history of the log by what null reads saw, the calls of its operations, and the first null read that is left with no candidate
pub record KeepsRun (log : Log) (saw : List (ℕ × Seen)) (history : MemoryHistory) (calls : List (List Call)) (lacking : Option LackingRead) : Type 0 where
  pub is_history : history ≡ history_by log.events (choice_in saw)
  pub are_calls : calls ≡ origins_by log.events (choice_in saw)
  pub lacks : IfSome lacking (IsLackingRead log.in_time log.events)

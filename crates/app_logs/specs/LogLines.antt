-- What `judge` writes of a log of events. These definitions, and those that they name, are all that its promise rests on.
use Rattle.std.specs.Prelude.{Bool, ℕ, List, Option, IfSome}
use Rattle.std.specs.Io.KnownBytes.{Appends}
use Rattle.log_choices.specs.declared.seen.Seen.{Seen}
use Rattle.log_choices.specs.ChoiceTables.{choice_in}
use Rattle.log_choices.specs.ChosenHistories.{history_by}
use Rattle.log_reader.specs.Logs.{IsLogOf, Log}
use Rattle.app_engine.specs.MemoryLines.{AreTrueLines}
use Rattle.app_logs.specs.Reports.{IsForcedIn}

-- a log was read to its end, and three lines were written after what the writer held, where both tell their bytes: each line is true of
-- the history of the log by what is forced of its null reads
pub record JudgesLog (reader writer_before writer_after : Option (List ℕ)) (torn : Bool) : Type 0 where
  pub log : Log
  pub saw : List (ℕ × Seen)
  pub text : List ℕ
  pub whole : IfSome reader (λ bytes. IsLogOf bytes log torn)
  pub forced : IsForcedIn log.in_time log.events saw
  pub lines : AreTrueLines (history_by log.events (choice_in saw)) text
  pub written : Appends writer_before writer_after text

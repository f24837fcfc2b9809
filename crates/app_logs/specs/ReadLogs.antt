-- A log that was read to its end.
use Rattle.std.specs.Prelude.{ℕ, Bool, List}
use Rattle.log_reader.specs.Logs.{Log}
use Rattle.log_choices.specs.declared.seen.Seen.{Seen}

-- the log, whether its last line is torn, and what its null reads saw, as far as it is forced
pub record ReadLog : Type 0 where
  pub log : Log
  pub torn : Bool
  pub saw : List (ℕ × Seen)

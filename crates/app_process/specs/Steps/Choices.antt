-- What words ask for, by how an input looks.
use Rattle.std.specs.Prelude.{List, MatchOption, Option}
use Rattle.clap.specs.Words.{Text}
use Rattle.app_command_line.specs.CommandLine.{AsksNothing, IsCommandLine}
use Rattle.app_orders.specs.declared.manner.Asked.{Asked}
use Rattle.app_command_line.specs.declared.sight.Sight.{Sight}
use Rattle.app_command_line.specs.declared.sight.Sight.TheVariants.{Unseen, Log, Memory, Other}
use Rattle.app_process.specs.declared.choices.Choices.{Choices}

-- this is what the words ask for on an input that looks so
abbrev pub IsChoice : List Text → Sight → Option Asked → Type 0
IsChoice words sight choice = MatchOption choice (AsksNothing sight words) (λ asked. IsCommandLine sight asked words)

pub record AreChoices (words : List Text) (choices : Choices) : Type 0 where
  pub unseen : IsChoice words Unseen choices.unseen
  pub log : IsChoice words Log choices.log
  pub memory : IsChoice words Memory choices.memory
  pub other : IsChoice words Other choices.other

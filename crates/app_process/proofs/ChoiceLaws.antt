-- What words ask for that ask for nothing on an input of any look but that of a log.
use Rattle.std.specs.Prelude.{List, MatchOption, Option, None, Some}
use Rattle.clap.specs.Words.{Text}
use Rattle.app_command_line.specs.CommandLine.{AsksNothing, IsCommandLine}
use Rattle.app_orders.specs.declared.manner.Asked.{Asked}
use Rattle.app_command_line.specs.declared.sight.Sight.{Sight}
use Rattle.app_command_line.specs.declared.sight.Sight.TheVariants.{Unseen, Log, Memory, Other}
use Rattle.app_process.specs.Process.{AskForNone}
use Rattle.app_process.specs.Steps.Choices.{IsChoice}

on_none : (words : List Text) → AsksNothing Unseen words → AsksNothing Log words → AsksNothing Memory words → AsksNothing Other words → AskForNone words
on_none words unseen log memory other Unseen = unseen
on_none words unseen log memory other Log = log
on_none words unseen log memory other Memory = memory
on_none words unseen log memory other Other = other

pub by_log : (words : List Text) (choice : Option Asked) → AsksNothing Unseen words → AsksNothing Memory words → AsksNothing Other words
    → IsChoice words Log choice
    → MatchOption choice (AskForNone words) (λ asked. (sight : Sight) × IsCommandLine sight asked words)
by_log words None unseen memory other log = on_none words unseen log memory other
by_log words (Some asked) unseen memory other log = (Log, log)

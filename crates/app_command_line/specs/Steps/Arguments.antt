-- What the program's commands and their arguments are, where they are plain data.
use Rattle.clap.specs.Words.{App, Rule, with_rule, with_subcommand}
use Rattle.app_command_line.specs.CommandLine.{check, color, drive, events, expect, explain, files, flag, judge, number_option, output, refute, replay, store}
use Rattle.app_command_line.specs.declared.arguments.Argument.{Argument}
use Rattle.app_command_line.specs.declared.arguments.Argument.TheVariants as arguments
use Rattle.app_command_line.specs.declared.settings.CommandName.{CommandName}
use Rattle.app_command_line.specs.declared.settings.CommandName.TheVariants as commands

-- the rule of an argument
abbrev pub rule_of_argument : Argument → Rule
rule_of_argument arguments.Store = store
rule_of_argument arguments.Expect = expect
rule_of_argument arguments.Color = color
rule_of_argument arguments.Output = output
rule_of_argument arguments.Files = files
rule_of_argument (arguments.Flag name help) = flag name.now
rule_of_argument (arguments.Number name value least most help) = number_option name.now least most

-- the command of a name
abbrev pub app_named : CommandName → App
app_named commands.Judge = judge
app_named commands.Check = check
app_named commands.Explain = explain
app_named commands.Refute = refute
app_named commands.Replay = replay
app_named commands.Drive = drive
app_named commands.Events = events

-- a command with this argument too, and one with this subcommand too
abbrev pub with_argument : App → Argument → App
with_argument app argument = with_rule app (rule_of_argument argument)

abbrev pub with_command : App → CommandName → App
with_command app name = with_subcommand app (app_named name).top

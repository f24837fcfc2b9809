-- The command lines that the program takes, and what is said of other words. Text is bytes, and the first word is the
-- program's name. Where `clap` finds a kind of fault in other words (`fault_of`), it says what is wrong with them. Else they are a misuse,
-- and the program says which.
use Rattle.std.specs.Prelude.{◌≡◌, ◌≢◌, ◌⊎◌, ℕ, List, [], ◌∷◌, ◌-◌, Some, true, codes, fold, string_bytes}
use Rattle.clap.specs.Lexer.{usize_max}
use Rattle.clap.specs.Words.{App, IsAmong, Kinds, Rule, Text, new_app, new_rule, with_rule, with_subcommand}
use Rattle.clap.specs.declared.builder.action.ArgAction.TheVariants.{Append, Set, SetTrue}
use Rattle.clap.specs.declared.builder.value_parser.ValueParser.TheVariants.{Unsigned}
use Rattle.clap.specs.declared.error.kind.ErrorKind.{ErrorKind}
use Rattle.clap.specs.declared.error.kind.ErrorKind.TheVariants.{DisplayHelp, DisplayVersion, OutOfMemory}
use Rattle.judge_workers.specs.declared.limit.TheConstants.{MAX_WORKERS}
use Rattle.app_command_line.specs.Options.{IsAsked}
use Rattle.app_orders.specs.declared.drive.TheConstants.{MAX_SEALS}
use Rattle.app_orders.specs.declared.listing.TheConstants.{MAX_LISTED}
use Rattle.model_history.specs.declared.limits.TheConstants.{MAX_SESSIONS}
use Rattle.app_orders.specs.declared.log_order.TheConstants.{MAX_EVERY}
use Rattle.app_orders.specs.declared.manner.Asked.{Asked}
use Rattle.app_orders.specs.declared.manner.TheConstants.{MAX_LEAST_READS}
use Rattle.app_command_line.specs.declared.command.Usage.{Usage}
use Rattle.app_command_line.specs.declared.command.Usage.TheVariants.{Fault, Help, Memory}
use Rattle.app_command_line.specs.declared.sight.Sight.{Sight}
use Rattle.app_command_line.specs.Misuses.{IsMisuseText}
use Rattle.app_command_line.specs.Shown.{AsksForTopic, IsHelpFor, IsTopicText, version_text}

-- a command line asks for this on an input that looks so: it is the program's name, the word of a command, and the words after it
abbrev pub IsCommandLine : Sight → Asked → List Text → Type 0
IsCommandLine sight asked [] = ⊥
IsCommandLine sight asked (program ∷ []) = ⊥
IsCommandLine sight asked (program ∷ word ∷ words) = IsAsked sight asked word words

-- words that are no command line for such an input
abbrev pub AsksNothing : Sight → List Text → Type 0
AsksNothing sight words = (asked : Asked) → ¬ IsCommandLine sight asked words

-- `causal_judge COMMAND`, where the command can't be left out, as `clap` is told of it
abbrev pub top : App
top =
    let app = new_app (codes "causal_judge") in
    record app { top = record app.top { subcommand_required = true; has_version = true } }

-- an option whose value is a number within these bounds
abbrev pub number_option : Text → ℕ → ℕ → Rule
number_option name least most = record (new_rule name) {
  long = Some name;
  action = Some Set;
  parser = Some (Unsigned least most);
  value_names = 1;
}

abbrev pub workers : Rule
workers = number_option (codes "workers") 1 MAX_WORKERS

abbrev pub expect : Rule
expect = record (new_rule (codes "expect")) { long = Some (codes "expect"); action = Some Set; value_names = 1 }

abbrev pub flag : Text → Rule
flag name = record (new_rule name) { long = Some name; action = Some SetTrue }

abbrev pub why : Rule
why = flag (codes "why")

abbrev pub progress : Rule
progress = flag (codes "progress")

abbrev pub every : Rule
every = number_option (codes "every") 1 MAX_EVERY

abbrev pub least_reads : Rule
least_reads = number_option (codes "at-least-reads") 1 MAX_LEAST_READS

abbrev pub color : Rule
color = record (new_rule (codes "color")) { long = Some (codes "color"); action = Some Set; value_names = 1 }

-- the file that the answer goes to, as `-o FILE`
abbrev pub output : Rule
output = record (new_rule (codes "output")) { short = Some 111; action = Some Set; value_names = 1 }

-- the files of the input
abbrev pub files : Rule
files = record (new_rule (codes "file")) { action = Some Append; range = Some (record { start_inclusive = 1; end_inclusive = usize_max }); value_names = 1 }

abbrev pub all : Rule
all = number_option (codes "all") 1 MAX_LISTED

abbrev pub store : Rule
store = record (new_rule (codes "store")) { action = Some Set; value_names = 1; required = true }

-- a command, by its name and its rules in their order
abbrev pub command_with : Text → List Rule → App
command_with name rules = fold with_rule (new_app name) rules

abbrev pub judge : App
judge = command_with (codes "judge")
    (workers ∷ expect ∷ flag (codes "lines") ∷ flag (codes "skip-blank") ∷ flag (codes "long") ∷ flag (codes "events") ∷ every ∷ flag (codes "summary")
    ∷ least_reads ∷ color ∷ why ∷ progress ∷ files ∷ [])

abbrev pub check : App
check = command_with (codes "check") (workers ∷ why ∷ progress ∷ files ∷ [])

abbrev pub explain : App
explain = command_with (codes "explain")
    (flag (codes "json") ∷ flag (codes "certificates") ∷ flag (codes "svg") ∷ flag (codes "html") ∷ flag (codes "long") ∷ all
    ∷ flag (codes "events") ∷ output ∷ color ∷ why ∷ progress ∷ files ∷ [])

abbrev pub refute : App
refute = command_with (codes "refute") (flag (codes "long") ∷ why ∷ progress ∷ files ∷ [])

abbrev pub replay : App
replay = command_with (codes "replay") (why ∷ progress ∷ files ∷ [])

abbrev pub drive : App
drive = command_with (codes "drive")
    (store ∷ flag (codes "eager") ∷ number_option (codes "seals") 0 MAX_SEALS ∷ workers
    ∷ number_option (codes "stop") 0 (MAX_SESSIONS - 1) ∷ why ∷ progress ∷ files ∷ [])

abbrev pub events : App
events = command_with (codes "events") (flag (codes "names") ∷ flag (codes "notes") ∷ progress ∷ files ∷ [])

abbrev pub command_line : App
command_line = fold (λ app command. with_subcommand app command.top) top (judge ∷ check ∷ explain ∷ refute ∷ replay ∷ drive ∷ events ∷ [])

-- help and the version are no faults but requests
abbrev pub IsRequest : ErrorKind → Type 0
IsRequest kind = (kind ≡ DisplayHelp) ⊎ (kind ≡ DisplayVersion)

-- what is said of one fault in words, or in its place that memory ran out: of a request the help or the version that they ask for
abbrev pub IsUsageOf : ErrorKind → List Text → Usage → Type 0
IsUsageOf kind words (Help text) =
    ((kind ≡ DisplayHelp) × IsHelpFor words (string_bytes text)) ⊎ ((kind ≡ DisplayVersion) × (string_bytes text ≡ version_text))
IsUsageOf kind words (Fault text) = (¬ IsRequest kind) × (kind ≢ OutOfMemory)
IsUsageOf kind words Memory = Unit {0}

-- what is said of words that give no task and ask for no topic, where `clap` finds some of these kinds of fault in them, or none
abbrev pub IsUsageBy : Kinds → List Text → Usage → Type 0
IsUsageBy kinds words (Help text) =
    (IsAmong DisplayHelp kinds × IsHelpFor words (string_bytes text)) ⊎ (IsAmong DisplayVersion kinds × (string_bytes text ≡ version_text))
IsUsageBy kinds words (Fault text) =
    ((kinds ≡ []) × IsMisuseText words (string_bytes text)) ⊎ ((kind : ErrorKind) × IsAmong kind kinds × (¬ IsRequest kind))
IsUsageBy kinds words Memory = Unit {0}

-- the text of the topic that words ask for, or in its place that memory ran out
abbrev pub IsTopicUsage : List Text → Usage → Type 0
IsTopicUsage words (Help text) = IsTopicText words (string_bytes text)
IsTopicUsage words (Fault text) = ⊥
IsTopicUsage words Memory = Unit {0}

-- what is said of words that give no task
abbrev pub IsUsageFor : Kinds → List Text → Usage → Type 0
IsUsageFor kinds words usage = (AsksForTopic words × IsTopicUsage words usage) ⊎ ((¬ AsksForTopic words) × IsUsageBy kinds words usage)

-- a fault, or in its place that memory ran out
abbrev pub IsFault : Usage → Type 0
IsFault (Help text) = ⊥
IsFault (Fault text) = Unit {0}
IsFault Memory = Unit {0}

-- the fault of this text, or in its place that memory ran out
abbrev pub IsFaultWith : Text → Usage → Type 0
IsFaultWith said (Help text) = ⊥
IsFaultWith said (Fault text) = string_bytes text ≡ said
IsFaultWith said Memory = Unit {0}

-- the exit status where there is no task: 2 for a fault, and for help or the version 0, or 3 where it couldn't be written (4 where
-- there was then no memory to say so)
abbrev pub IsUsageStatus : Usage → ℕ → Type 0
IsUsageStatus (Fault text) status = status ≡ 2
IsUsageStatus (Help text) status = (status ≡ 0) ⊎ ((status ≡ 3) ⊎ (status ≡ 4))
IsUsageStatus Memory status = status ≡ 4

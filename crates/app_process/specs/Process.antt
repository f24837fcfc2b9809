-- What one run of the process does: by its words, what is known of its input, and what is known of its output and of standard error before
-- and after it; and its exit status. Text is bytes.
use Rattle.std.specs.Prelude.{◌≡◌, ◌≢◌, ◌⊎◌, ⊤, ℕ, List, [], ◌∷◌, Bool, true, false, Option, Some, None, IfSome, codes}
use Rattle.std.specs.Io.KnownBytes.{Appends}
use Rattle.clap.specs.Words.{Text, fault_of}
use Rattle.app_command_line.specs.CommandLine.{AsksNothing, IsCommandLine, IsUsageFor, command_line}
use Rattle.app_orders.specs.declared.detail.Detail.{Detail}
use Rattle.app_orders.specs.declared.manner.Asked.{Asked}
use Rattle.app_orders.specs.declared.order.Order.{Order}
use Rattle.app_orders.specs.declared.order.Order.TheVariants as orders
use Rattle.app_orders.specs.declared.order.Task.{Task}
use Rattle.app_orders.specs.declared.order.Task.TheVariants.{OfInput, OfLog, OfPage}
use Rattle.app_orders.specs.declared.page.Page.{Page}
use Rattle.app_command_line.specs.Misuses.{fault_text}
use Rattle.app_command_line.specs.Options.{AreFiles}
use Rattle.app_command_line.specs.declared.command.Usage.{Usage}
use Rattle.app_command_line.specs.declared.sight.Sight.{Sight}
use Rattle.app_command_line.specs.declared.sight.Sight.TheVariants.{Unseen}
use Rattle.app_process.specs.declared.terminals.Terminals.{Terminals}
use Rattle.app_process.specs.Dressing.{IsPainted, is_plain, plainly}
use Rattle.app_process.specs.Endings.{EndsTask}
use Rattle.app_process.specs.Failing.{LacksMemory}
use Rattle.app_process.specs.Faults.{Blames, where_plain}
use Rattle.app_process.specs.Saying.{Known, SaysSome}
use Rattle.app_process.specs.Statuses.{worse}
use Rattle.app_process.specs.Usages.{EndsUsage}

-- In what follows, `reading` holds where the reader may be blamed for a read fault, and `writing` where the writer may be for a write fault.
module _ (reading : Type 0) (label : Option (List ℕ)) (said_at_terminal shown_at_terminal : Bool) where
  -- the answer goes to a file, where there is one, and the output stays as it is
  pub record GoesToFile (asked : Asked) (reader before after said_before said_after : Known) (status : ℕ) : Type 0 where
    pub answer : Known
    pub said : Known
    pub answered : ℕ
    pub ends : EndsTask (Blames reading ⊤) label said_at_terminal asked.task asked.manner reader (Some []) answer said_before said answered
    pub output : after ≡ before
    pub unsaved : answered ≢ 0 → (status ≡ answered) × (said_after ≡ said)
    pub saved : answered ≡ 0 → ((status ≡ 0) × (said_after ≡ said)) ⊎ ((status ≡ 3) × SaysSome said said_after)

module _ (reading writing : Type 0) (label : Option (List ℕ)) (said_at_terminal shown_at_terminal : Bool) where
  -- the answer goes to the output. Where its lines are dressed, with a label or with colours, no more is known of it
  abbrev pub GoesToOutput : Asked → Known → Known → Known → Known → Known → ℕ → Type 0
  GoesToOutput asked reader before after said_before said_after status =
      (painted : Bool) × IsPainted asked.task asked.manner.coloring shown_at_terminal painted
      × EndsTask (Blames reading (where_plain (is_plain label painted) writing)) label said_at_terminal asked.task asked.manner reader (plainly (is_plain label painted) before) (plainly (is_plain label painted) after)
      said_before said_after status

  -- what is asked for is done
  abbrev pub EndsAsked : Asked → Known → Known → Known → Known → Known → ℕ → Type 0
  EndsAsked asked reader before after said_before said_after status =
      ((asked.manner.to_file ≡ false) × GoesToOutput asked reader before after said_before said_after status)
      ⊎ ((asked.manner.to_file ≡ true) × GoesToFile reading label said_at_terminal shown_at_terminal asked reader before after said_before said_after status)

-- words that ask for nothing on an input that looks so: what is said of them
abbrev pub EndsMisuse : Type 0 → Sight → List Text → Known → Known → Known → Known → ℕ → Type 0
EndsMisuse writing sight words before after said_before said_after status =
    (usage : Usage) × AsksNothing sight words × IsUsageFor (fault_of command_line words) words usage
    × EndsUsage writing usage before after said_before said_after status

-- a run whose words name no file: what they ask for is done, on what the input's reader has; or what is wrong with them is said
abbrev pub EndsWords : Type 0 → Type 0 → List Text → Terminals → Known → Known → Known → Known → Known → ℕ → Type 0
EndsWords reading writing words terminals reader before after said_before said_after status =
    ((asked : Asked) × IsCommandLine Unseen asked words × EndsAsked reading writing None terminals.error terminals.output asked reader before after said_before said_after status)
    ⊎ EndsMisuse writing Unseen words before after said_before said_after status

-- what is known of the input of a file: what its reader tells, where it tells its bytes
abbrev pub IsKnownOf : Known → Known → Type 0
IsKnownOf reader known = IfSome reader (λ bytes. known ≡ Some bytes)

-- whether the lines of an input are judged, each of which is to hold a history
abbrev pub judges_lines : Order → Bool
judges_lines (orders.JudgeLines judging) = true
judges_lines _ = false

abbrev pub reads_lines : Task → Bool
reads_lines (OfInput order detail) = judges_lines order
reads_lines _ = false

-- how an input among files looks to the words: it is not looked at where the words alone ask for judging its lines, and else it is
abbrev pub AskForLines : List Text → Type 0
AskForLines words = (asked : Asked) × IsCommandLine Unseen asked words × (reads_lines asked.task ≡ true)

abbrev pub AskForLook : List Text → Type 0
AskForLook words = AsksNothing Unseen words ⊎ ((asked : Asked) × IsCommandLine Unseen asked words × (reads_lines asked.task ≡ false))

abbrev pub is_seen : Sight → Bool
is_seen Unseen = false
is_seen _ = true

abbrev pub IsSight : List Text → Sight → Type 0
IsSight words sight = ((sight ≡ Unseen) × AskForLines words) ⊎ ((is_seen sight ≡ true) × AskForLook words)

module _ (reading writing : Type 0) (words : List Text) (terminals : Terminals) (label : Option (List ℕ)) where
  -- an input among files: what the words ask for on an input that looks as it does is done; or they ask for nothing on it, which is said; or it
  -- can't be read, or memory is short for looking at it, which is said
  abbrev pub EndsInputOf : Known → Known → Known → Known → Known → ℕ → Type 0
  EndsInputOf reader before after said_before said_after status =
      ((sight : Sight) × (asked : Asked) × (known : Known) × IsSight words sight × IsCommandLine sight asked words × IsKnownOf reader known
      × EndsAsked reading writing label terminals.error terminals.output asked known before after said_before said_after status)
      ⊎ (((sight : Sight) × IsSight words sight × EndsMisuse writing sight words before after said_before said_after status)
      ⊎ ((reading × (status ≡ 3) × (after ≡ before) × SaysSome said_before said_after)
      ⊎ ((after ≡ before) × LacksMemory label said_before said_after status)))

-- the name of a file comes before its lines where there are several
abbrev pub label_of : Bool → Text → Option (List ℕ)
label_of false name = None
label_of true name = Some name

-- A file of a name may be opened whose reads give what `Opens` has of it, or `Lacks` holds of a name of which no file could be opened.
module _ (Opens : Text → Known → Type 0) (Lacks : Text → Type 0) (reading writing : Type 0) (words : List Text) (terminals : Terminals) where
  -- the file of a name is opened, and what the words ask for is done on it; or it can't be opened, which is said
  abbrev pub EndsFile : Text → Option (List ℕ) → Known → Known → Known → Known → ℕ → Type 0
  EndsFile name label before after said_before said_after status =
      ((reader : Known) × Opens name reader × EndsInputOf reading writing words terminals label reader before after said_before said_after status)
      ⊎ (Lacks name × (status ≡ 3) × (after ≡ before) × SaysSome said_before said_after)

  -- files, one after the other: the status is the worst of theirs
  unfoldable pub EndEach : Bool → List Text → Known → Known → Known → Known → ℕ → ℕ → Type 0
  EndEach several [] before after said_before said_after worst status =
      (after ≡ before) × (said_after ≡ said_before) × (status ≡ worst)
  EndEach several (name ∷ names) before after said_before said_after worst status =
      (between : Known) × (said : Known) × (one : ℕ)
      × EndsFile name (label_of several name) before between said_before said one
      × EndEach several names between after said said_after (worse worst one) status

-- whether there are several files
abbrev pub are_several : List Text → Bool
are_several (first ∷ second ∷ further) = true
are_several _ = false

-- whether the files that some words name are several
abbrev pub NameSeveral : List Text → Bool → Type 0
NameSeveral words several = (files : List Text) → AreFiles false words files → several ≡ are_several files

-- the files that some words name
abbrev pub EndAll : (Text → Known → Type 0) → (Text → Type 0) → Type 0 → Type 0 → List Text → Terminals → List Text → Known → Known → Known → Known → ℕ → Type 0
EndAll Opens Lacks reading writing words terminals further before after said_before said_after status =
    (files : List Text) × AreFiles false further files
    × EndEach Opens Lacks reading writing words terminals (are_several files) files before after said_before said_after 0 status

-- what is said where one answer is wanted of several files, where memory suffices
abbrev pub several_text : List ℕ
several_text =
    fault_text (codes "'-o' and '--html' take one FILE: each file has an answer of its own") (codes "explain [OPTIONS] <FILE>")

abbrev pub SaysSeveral : Known → Known → Type 0
SaysSeveral before after = (after ≡ before) ⊎ Appends before after several_text

-- an answer that goes to a file or is a page is of one input
abbrev pub IsOfOne : Asked → Type 0
IsOfOne asked = (asked.manner.to_file ≡ true) ⊎ ((page : Page) × (detail : Detail) × (asked.task ≡ OfPage page detail))

-- words that ask for something on an input of some look, and words that do so on none
abbrev pub AskForSome : List Text → Type 0
AskForSome words = (sight : Sight) × (asked : Asked) × IsCommandLine sight asked words

abbrev pub AskForNone : List Text → Type 0
AskForNone words = (sight : Sight) → AsksNothing sight words

-- a run whose words name files: each is carried out; or the words ask for nothing on any, or for one answer of several files, which is said
abbrev pub EndsFiles : (Text → Known → Type 0) → (Text → Type 0) → Type 0 → Type 0 → List Text → Terminals → List Text → Known → Known → Known → Known → ℕ → Type 0
EndsFiles Opens Lacks reading writing words terminals further before after said_before said_after status =
    (AskForSome words × EndAll Opens Lacks reading writing words terminals further before after said_before said_after status)
    ⊎ ((AskForNone words × EndsMisuse writing Unseen words before after said_before said_after status)
    ⊎ ((sight : Sight) × (asked : Asked) × IsCommandLine sight asked words × IsOfOne asked × NameSeveral further true
    × (status ≡ 2) × (after ≡ before) × SaysSeveral said_before said_after))

-- words that name no file
abbrev pub NamesNoFile : List Text → Type 0
NamesNoFile (program ∷ word ∷ further) = AreFiles false further []
NamesNoFile _ = ⊤

-- the words after that of a command
abbrev pub IsAfterCommand : List Text → List Text → Type 0
IsAfterCommand (program ∷ word ∷ rest) further = further ≡ rest
IsAfterCommand _ further = ⊥

-- one run of the process: on what the input's reader has, where its words name no file, and else on the files that they name, whose readers
-- may be blamed where `file_reading` holds
abbrev pub EndsRun : (Text → Known → Type 0) → (Text → Type 0) → Type 0 → Type 0 → Type 0 → List Text → Terminals → Known → Known → Known → Known → Known
    → ℕ → Type 0
EndsRun Opens Lacks file_reading reading writing words terminals reader before after said_before said_after status =
    (NamesNoFile words × EndsWords reading writing words terminals reader before after said_before said_after status)
    ⊎ ((¬ NamesNoFile words) × (further : List Text) × IsAfterCommand words further
    × EndsFiles Opens Lacks file_reading writing words terminals further before after said_before said_after status)

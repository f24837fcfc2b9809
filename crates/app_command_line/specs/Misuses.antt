-- What is said of words that `clap` takes but that ask for nothing: which of them are at fault, and what was possible. Text is bytes.
use Rattle.std.specs.Prelude.{◌≡◌, ◌≢◌, ◌⊎◌, ◌==◌, ◌&&◌, ◌||◌, ◌++◌, List, [], ◌∷◌, bytes_eq, slice_get, string_bytes, Bool, true, false, not, Option, Some, None, codes, is_some, if◌then◌else◌, MatchOption}
use Rattle.clap.specs.Words.{Text}
use Rattle.app_orders.specs.declared.coloring.Coloring.{Coloring}
use Rattle.app_orders.specs.declared.expected.Expected.{Expected}
use Rattle.app_command_line.specs.declared.misuse.Misuse.{Misuse}
use Rattle.app_command_line.specs.declared.misuse.Misuse.TheVariants as misuse
use Rattle.app_command_line.specs.declared.command.Usage.{Usage}
use Rattle.app_command_line.specs.declared.command.Usage.TheVariants.{Fault, Help, Memory}
use Rattle.app_command_line.specs.Expected.{Lists}
use Rattle.app_command_line.specs.Options.{color_word}

-- a fault, and how the command is used, as `clap` writes its own
abbrev pub fault_text : Text → Text → Text
fault_text fault usage =
    codes "error: " ++ (fault ++ (codes "\n\nUsage: causal_judge " ++ (usage ++ codes "\n\nFor more information, try '--help'.\n")))

-- what is wrong, and how the command is used
abbrev pub fault_of : Misuse → Text
fault_of misuse.NamesWithNotes = codes "'--names' and '--notes' exclude one another: each asks for an answer of its own"
fault_of misuse.EveryWithoutEvents = codes "'--every' asks for a log of events: it counts its events"
fault_of misuse.EventsWithLines = codes "'--events' and '--lines' exclude one another: a line of a log is one event, and a line under '--lines' a whole history"
fault_of misuse.EventsWithCertificates = codes "'--events' and '--certificates' exclude one another: no certificates are made of histories of any length"
fault_of misuse.SkipBlankWithoutLines = codes "'--skip-blank' asks for '--lines': it skips lines where each line holds a history"
fault_of misuse.WhyWithLines = codes "'--why' and '--lines' exclude one another: each line is answered by one line"
fault_of misuse.CountsWithLines = codes "'--lines' excludes '--summary' and '--at-least-reads': they count one run"
fault_of misuse.AllWithCertificates = codes "'--all' and '--certificates' exclude one another: a list of faults has no certificates"
fault_of misuse.LongWithCertificates = codes "'--long' and '--certificates' exclude one another: no certificates are made of histories of any length"
fault_of misuse.SvgWithCertificates = codes "'--svg' and '--certificates' exclude one another: certificates are written as JSON"
fault_of misuse.HtmlWithCertificates = codes "'--html' and '--certificates' exclude one another: certificates are written as JSON"
fault_of misuse.CertificatesWithoutJson = codes "'--certificates' asks for '--json': certificates are written as JSON"
fault_of misuse.HtmlWithJson = codes "'--html' and '--json' exclude one another: each is a form of the whole answer"
fault_of misuse.HtmlWithSvg = codes "'--html' and '--svg' exclude one another: each is a form of the whole answer"
fault_of misuse.AllWithSvg = codes "'--all' and '--svg' exclude one another: a list of faults is no picture"
fault_of misuse.SvgWithJson = codes "'--svg' and '--json' exclude one another: each is a form of the whole answer"
fault_of misuse.StoreNamed = codes "'causal' and 'lamport' name a store, once, after 'drive': a file of that name is written './causal'"
fault_of misuse.Unexpected = codes "unexpected words, or options that don't go together"

abbrev pub usage_of : Misuse → Text
usage_of misuse.NamesWithNotes = codes "events [--names|--notes] [OPTIONS]"
usage_of misuse.EveryWithoutEvents = codes "judge --events --every <N> [FILE]..."
usage_of misuse.EventsWithLines = codes "judge [--events|--lines] [OPTIONS]"
usage_of misuse.EventsWithCertificates = codes "explain --events [OPTIONS]"
usage_of misuse.SkipBlankWithoutLines = codes "judge --lines --skip-blank [OPTIONS]"
usage_of misuse.WhyWithLines = codes "judge [--why|--lines] [OPTIONS]"
usage_of misuse.CountsWithLines = codes "judge [--lines|--summary] [OPTIONS]"
usage_of misuse.AllWithCertificates = codes "explain --all <N> [--json]"
usage_of misuse.LongWithCertificates = codes "explain --long [OPTIONS]"
usage_of misuse.SvgWithCertificates = codes "explain --json --certificates"
usage_of misuse.HtmlWithCertificates = codes "explain --json --certificates"
usage_of misuse.CertificatesWithoutJson = codes "explain --json --certificates"
usage_of misuse.HtmlWithJson = codes "explain [--html|--json] [OPTIONS]"
usage_of misuse.HtmlWithSvg = codes "explain [--html|--svg] [OPTIONS]"
usage_of misuse.AllWithSvg = codes "explain --all <N> [--json]"
usage_of misuse.SvgWithJson = codes "explain [--svg|--json] [OPTIONS]"
usage_of misuse.StoreNamed = codes "<COMMAND> [OPTIONS] [FILE]..."
usage_of misuse.Unexpected = codes "<COMMAND>"

abbrev pub misuse_text : Misuse → Text
misuse_text one = fault_text (fault_of one) (usage_of one)

-- whether a word is among some words
abbrev pub has : Text → List Text → Bool
has wanted [] = false
has wanted (word ∷ words) = bytes_eq word wanted || has wanted words

-- what follows these first letters in a word
abbrev pub after_front : Text → Text → Option Text
after_front [] word = Some word
after_front (c ∷ front) [] = None
after_front (c ∷ front) (d ∷ word) = if c == d then after_front front word else None

-- the value of an option: the word after its name, or what follows its name and an equals sign in one word
abbrev pub or_later : Option Text → Option Text → Option Text
or_later (Some value) later = Some value
or_later None later = later

abbrev pub value_of : Text → List Text → Option Text
value_of name [] = None
value_of name (word ∷ words) =
    if bytes_eq word name then slice_get words 0 else or_later (after_front (name ++ codes "=") word) (value_of name words)

abbrev pub gives : Text → List Text → Bool
gives name words = is_some (value_of name words)

-- the first of some misuses that is there
abbrev pub first_of : List (Bool × Misuse) → Option Misuse
first_of [] = None
first_of ((there, one) ∷ further) = if there then Some one else first_of further

-- options that exclude one another, and options that ask for another one: whether the words have them so, and what is said then
module _ (words : List Text) where
  abbrev pub of_logs : List (Bool × Misuse)
  of_logs =
      (has (codes "--names") words && has (codes "--notes") words, misuse.NamesWithNotes)
      ∷ (gives (codes "--every") words && not (has (codes "--events") words), misuse.EveryWithoutEvents)
      ∷ (has (codes "--events") words && has (codes "--lines") words, misuse.EventsWithLines)
      ∷ (has (codes "--events") words && has (codes "--certificates") words, misuse.EventsWithCertificates)
      ∷ []

  abbrev pub of_lines : List (Bool × Misuse)
  of_lines =
      (has (codes "--skip-blank") words && not (has (codes "--lines") words), misuse.SkipBlankWithoutLines)
      ∷ (has (codes "--lines") words && has (codes "--why") words, misuse.WhyWithLines)
      ∷ (has (codes "--lines") words && has (codes "--summary") words, misuse.CountsWithLines)
      ∷ (has (codes "--lines") words && gives (codes "--at-least-reads") words, misuse.CountsWithLines)
      ∷ []

  abbrev pub of_certificates : List (Bool × Misuse)
  of_certificates =
      (has (codes "--certificates") words && gives (codes "--all") words, misuse.AllWithCertificates)
      ∷ (has (codes "--certificates") words && has (codes "--long") words, misuse.LongWithCertificates)
      ∷ (has (codes "--certificates") words && has (codes "--svg") words, misuse.SvgWithCertificates)
      ∷ (has (codes "--certificates") words && has (codes "--html") words, misuse.HtmlWithCertificates)
      ∷ (has (codes "--certificates") words && not (has (codes "--json") words), misuse.CertificatesWithoutJson)
      ∷ []

  abbrev pub of_forms : List (Bool × Misuse)
  of_forms =
      (has (codes "--html") words && has (codes "--json") words, misuse.HtmlWithJson)
      ∷ (has (codes "--html") words && has (codes "--svg") words, misuse.HtmlWithSvg)
      ∷ (has (codes "--svg") words && gives (codes "--all") words, misuse.AllWithSvg)
      ∷ (has (codes "--svg") words && has (codes "--json") words, misuse.SvgWithJson)
      ∷ []

  -- in the order in which they are looked for
  abbrev pub misuses : List (Bool × Misuse)
  misuses = of_logs ++ (of_lines ++ (of_certificates ++ of_forms))

-- a value of `--expect` that is no list of criteria, and a value of `--color` that names no colouring
abbrev pub IsNoList : List Text → Text → Type 0
IsNoList words list = (value_of (codes "--expect") words ≡ Some list) × ((expected : Expected) → ¬ Lists list expected)

abbrev pub IsNoColor : List Text → Text → Type 0
IsNoColor words word = (value_of (codes "--color") words ≡ Some word) × ((coloring : Coloring) → word ≢ color_word coloring)

abbrev pub list_text : Text → Text
list_text list =
    fault_text (codes "'--expect' takes one or more of cc, cm and ccv, each once, joined by commas, and not '" ++ (list ++ codes "'"))
    (codes "judge --expect <LIST>")

abbrev pub color_text : Text → Text
color_text word = fault_text (codes "'--color' takes auto, always or never, and not '" ++ (word ++ codes "'")) (codes "<judge|explain> --color <WHEN>")

-- the first word after `drive` that is no option, no value of one, and no store
abbrev pub is_option : Text → Bool
is_option [] = false
is_option (c ∷ rest) = c == 45

abbrev pub is_store : Text → Bool
is_store word = bytes_eq word (codes "causal") || bytes_eq word (codes "lamport")

abbrev pub takes_value : Text → Bool
takes_value word = bytes_eq word (codes "--seals") || (bytes_eq word (codes "--workers") || bytes_eq word (codes "--stop"))

abbrev pub unknown_store : Bool → List Text → Option Text
unknown_store is_value [] = None
unknown_store is_value (word ∷ words) =
    if is_value || (is_option word || is_store word) then unknown_store (takes_value word) words else Some word

abbrev pub store_of : List Text → Option Text
store_of (program ∷ command ∷ words) = if bytes_eq command (codes "drive") then unknown_store false words else None
store_of _ = None

abbrev pub store_text : Text → Text
store_text store = fault_text (codes "there is no store '" ++ (store ++ codes "': STORE is 'causal' or 'lamport'")) (codes "drive [OPTIONS] <STORE>")

-- whether a store is named, and what is said of words with which nothing else is wrong
abbrev pub names_store : List Text → Bool
names_store words = has (codes "causal") words || has (codes "lamport") words

abbrev pub last_text : Option Text → Bool → Text
last_text (Some store) named = store_text store
last_text None true = misuse_text misuse.StoreNamed
last_text None false = misuse_text misuse.Unexpected

-- what is said of words whose options go together
abbrev pub IsColorText : List Text → Text → Type 0
IsColorText words text =
    ((word : Text) × IsNoColor words word × (text ≡ color_text word))
    ⊎ (((word : Text) → ¬ IsNoColor words word) × (text ≡ last_text (store_of words) (names_store words)))

abbrev pub IsValueText : List Text → Text → Type 0
IsValueText words text =
    ((list : Text) × IsNoList words list × (text ≡ list_text list)) ⊎ (((list : Text) → ¬ IsNoList words list) × IsColorText words text)

-- what is said of words that `clap` takes but that ask for nothing
abbrev pub IsMisuseText : List Text → Text → Type 0
IsMisuseText words text = MatchOption (first_of (misuses words)) (IsValueText words text) (λ one. text ≡ misuse_text one)

-- a fault with this text, or in its place that memory ran out
abbrev pub IsMisuse : List Text → Usage → Type 0
IsMisuse words (Help text) = ⊥
IsMisuse words (Fault text) = IsMisuseText words (string_bytes text)
IsMisuse words Memory = Unit {0}

-- What the words after a command say: in any order, and each at most once, what the command takes. An option and its value are two
-- words, or one word with an equals sign between. Text is bytes.
use Rattle.std.specs.Prelude.{◌≡◌, ◌⊎◌, ◌<◌, ◌≤◌, ◌==◌, ◌&&◌, ◌||◌, ℕ, List, [], ◌∷◌, ◌++◌, Option, Some, None, codes, option_map, Bool, true, false, if◌then◌else◌, is_some, not, unwrap_or}
use Rattle.clap.specs.Words.{Text}
use Rattle.judge_workers.specs.Workers.{AreWorkers}
use Rattle.model_history.specs.declared.limits.TheConstants.{MAX_SESSIONS}
use Rattle.live_replica.specs.declared.delivery.Delivery.{Delivery}
use Rattle.live_replica.specs.declared.delivery.Delivery.TheVariants as deliveries
use Rattle.app_orders.specs.declared.coloring.Coloring.{Coloring}
use Rattle.app_orders.specs.declared.coloring.Coloring.TheVariants as colorings
use Rattle.app_orders.specs.declared.detail.Detail.{Detail}
use Rattle.app_orders.specs.declared.detail.Detail.TheVariants as details
use Rattle.app_orders.specs.declared.drive.Drive.{Drive}
use Rattle.app_orders.specs.declared.drive.Store.{Store}
use Rattle.app_orders.specs.declared.drive.Store.TheVariants.{Causal, Lamport}
use Rattle.app_orders.specs.declared.drive.TheConstants.{MAX_SEALS}
use Rattle.app_orders.specs.declared.form.Form.{Form}
use Rattle.app_orders.specs.declared.form.Form.TheVariants as forms
use Rattle.app_orders.specs.declared.form.LongForm.{LongForm}
use Rattle.app_orders.specs.declared.form.LongForm.TheVariants as long_forms
use Rattle.app_orders.specs.declared.form.ListForm.{ListForm}
use Rattle.app_orders.specs.declared.form.ListForm.TheVariants as list_forms
use Rattle.app_orders.specs.declared.listing.Listing.{Listing}
use Rattle.app_orders.specs.declared.judging.Judging.{Judging}
use Rattle.app_orders.specs.declared.line_judging.BlankLines.{BlankLines}
use Rattle.app_orders.specs.declared.line_judging.BlankLines.TheVariants as blank_lines
use Rattle.app_orders.specs.declared.line_judging.LineJudging.{LineJudging}
use Rattle.app_orders.specs.declared.log_order.LogJudging.{LogJudging}
use Rattle.app_orders.specs.declared.log_order.LogOrder.TheVariants as log_orders
use Rattle.app_orders.specs.declared.length.Length.{Length}
use Rattle.app_orders.specs.declared.length.Length.TheVariants as lengths
use Rattle.app_orders.specs.declared.manner.Asked.{Asked}
use Rattle.app_orders.specs.declared.manner.Manner.{Manner}
use Rattle.app_orders.specs.declared.order.Order.TheVariants as orders
use Rattle.app_orders.specs.declared.order.Task.{Task}
use Rattle.app_orders.specs.declared.order.Task.TheVariants.{OfInput, OfLog, OfPage}
use Rattle.app_orders.specs.declared.page.Page.{Page}
use Rattle.app_orders.specs.declared.page.PageOf.{PageOf}
use Rattle.app_orders.specs.declared.page.PageOf.TheVariants as pages
use Rattle.app_orders.specs.declared.page.TheConstants.{USUAL_LISTED}
use Rattle.app_command_line.specs.declared.said.Said.{Said}
use Rattle.app_command_line.specs.declared.settings.CommandName.{CommandName}
use Rattle.app_command_line.specs.declared.settings.CommandName.TheVariants as commands
use Rattle.app_command_line.specs.declared.settings.Setting.{Setting}
use Rattle.app_command_line.specs.declared.settings.Setting.TheVariants as settings
use Rattle.app_command_line.specs.declared.sight.Sight.{Sight}
use Rattle.app_command_line.specs.declared.sight.Sight.TheVariants as sights
use Rattle.app_command_line.specs.Expected.{Lists}
use Rattle.app_orders.specs.Expected.{expecting_nothing}
use Rattle.app_command_line.specs.Numerals.{IsEvery, IsLeast, IsListed, Writes}

-- the word that names a command
abbrev pub command_word : CommandName → Text
command_word commands.Judge = codes "judge"
command_word commands.Check = codes "check"
command_word commands.Explain = codes "explain"
command_word commands.Refute = codes "refute"
command_word commands.Replay = codes "replay"
command_word commands.Drive = codes "drive"
command_word commands.Events = codes "events"

-- what a command takes
abbrev pub takes : CommandName → Setting → Bool
takes commands.Judge (settings.Workers n) = true
takes commands.Judge (settings.Expect expected) = true
takes commands.Judge settings.Lines = true
takes commands.Judge settings.SkipBlank = true
takes commands.Judge settings.Long = true
takes commands.Judge settings.Events = true
takes commands.Judge (settings.Every n) = true
takes commands.Judge settings.Why = true
takes commands.Judge settings.Summary = true
takes commands.Judge (settings.AtLeastReads n) = true
takes commands.Judge (settings.Color coloring) = true
takes commands.Judge settings.Progress = true
takes commands.Check (settings.Workers n) = true
takes commands.Check settings.Why = true
takes commands.Check settings.Progress = true
takes commands.Explain settings.Json = true
takes commands.Explain settings.Certificates = true
takes commands.Explain settings.Svg = true
takes commands.Explain settings.Html = true
takes commands.Explain settings.Long = true
takes commands.Explain settings.Events = true
takes commands.Explain (settings.All n) = true
takes commands.Explain settings.Why = true
takes commands.Explain settings.Output = true
takes commands.Explain (settings.Color coloring) = true
takes commands.Explain settings.Progress = true
takes commands.Refute settings.Long = true
takes commands.Refute settings.Why = true
takes commands.Refute settings.Progress = true
takes commands.Replay settings.Why = true
takes commands.Replay settings.Progress = true
takes commands.Drive (settings.Store store) = true
takes commands.Drive settings.Eager = true
takes commands.Drive (settings.Seals n) = true
takes commands.Drive (settings.Workers n) = true
takes commands.Drive (settings.Stop s) = true
takes commands.Drive settings.Why = true
takes commands.Drive settings.Progress = true
takes commands.Events settings.Names = true
takes commands.Events settings.Notes = true
takes commands.Events settings.Progress = true
takes _ _ = false

-- the word that names a store
abbrev pub store_word : Store → Text
store_word Causal = codes "causal"
store_word Lamport = codes "lamport"

-- the word that names a colouring
abbrev pub color_word : Coloring → Text
color_word colorings.Auto = codes "auto"
color_word colorings.Always = codes "always"
color_word colorings.Never = codes "never"

-- one word says something
abbrev pub SaysAlone : Setting → Text → Type 0
SaysAlone (settings.Store store) word = word ≡ store_word store
SaysAlone settings.Eager word = word ≡ codes "--eager"
SaysAlone settings.Lines word = word ≡ codes "--lines"
SaysAlone settings.SkipBlank word = word ≡ codes "--skip-blank"
SaysAlone settings.Long word = word ≡ codes "--long"
SaysAlone settings.Json word = word ≡ codes "--json"
SaysAlone settings.Certificates word = word ≡ codes "--certificates"
SaysAlone settings.Svg word = word ≡ codes "--svg"
SaysAlone settings.Html word = word ≡ codes "--html"
SaysAlone settings.Events word = word ≡ codes "--events"
SaysAlone settings.Names word = word ≡ codes "--names"
SaysAlone settings.Notes word = word ≡ codes "--notes"
SaysAlone settings.Why word = word ≡ codes "--why"
SaysAlone settings.Summary word = word ≡ codes "--summary"
SaysAlone settings.Progress word = word ≡ codes "--progress"
SaysAlone (settings.Seals n) word = (number : Text) × (word ≡ codes "--seals=" ++ number) × Writes number n × (n ≤ MAX_SEALS)
SaysAlone (settings.Workers n) word = (number : Text) × (word ≡ codes "--workers=" ++ number) × Writes number n × AreWorkers n
SaysAlone (settings.Stop s) word = (number : Text) × (word ≡ codes "--stop=" ++ number) × Writes number s × (s < MAX_SESSIONS)
SaysAlone (settings.All n) word = (number : Text) × (word ≡ codes "--all=" ++ number) × Writes number n × IsListed n
SaysAlone (settings.Every n) word = (number : Text) × (word ≡ codes "--every=" ++ number) × Writes number n × IsEvery n
SaysAlone (settings.Expect expected) word = (list : Text) × (word ≡ codes "--expect=" ++ list) × Lists list expected
SaysAlone (settings.AtLeastReads n) word = (number : Text) × (word ≡ codes "--at-least-reads=" ++ number) × Writes number n × IsLeast n
SaysAlone (settings.Color coloring) word = (name : Text) × (word ≡ codes "--color=" ++ name) × (name ≡ color_word coloring)
SaysAlone settings.Output word = (file : Text) × (word ≡ codes "-o=" ++ file)

-- two words say something
abbrev pub SaysTogether : Setting → Text → Text → Type 0
SaysTogether (settings.Seals n) word number = (word ≡ codes "--seals") × Writes number n × (n ≤ MAX_SEALS)
SaysTogether (settings.Workers n) word number = (word ≡ codes "--workers") × Writes number n × AreWorkers n
SaysTogether (settings.Stop s) word number = (word ≡ codes "--stop") × Writes number s × (s < MAX_SESSIONS)
SaysTogether (settings.All n) word number = (word ≡ codes "--all") × Writes number n × IsListed n
SaysTogether (settings.Every n) word number = (word ≡ codes "--every") × Writes number n × IsEvery n
SaysTogether (settings.Expect expected) word list = (word ≡ codes "--expect") × Lists list expected
SaysTogether (settings.AtLeastReads n) word number = (word ≡ codes "--at-least-reads") × Writes number n × IsLeast n
SaysTogether (settings.Color coloring) word name = (word ≡ codes "--color") × (name ≡ color_word coloring)
SaysTogether settings.Output word file = word ≡ codes "-o"
SaysTogether _ word value = ⊥

-- a word names a file: it is a hyphen, or begins with none, and says nothing else
abbrev pub is_bare : Text → Bool
is_bare [] = false
is_bare (c ∷ []) = true
is_bare (c ∷ d ∷ rest) = not (c == 45)

abbrev pub NamesFile : Text → Type 0
NamesFile word = (is_bare word ≡ true) × ((setting : Setting) → ¬ SaysAlone setting word)

-- whether such a thing was said, and all that is said with one thing more
abbrev pub says : Said → Setting → Bool
says said (settings.Store store) = is_some said.store
says said settings.Eager = said.eager
says said (settings.Seals n) = is_some said.seals
says said (settings.Workers n) = is_some said.workers
says said (settings.Stop s) = is_some said.stop
says said (settings.Expect expected) = is_some said.expected
says said settings.Lines = said.lines
says said settings.SkipBlank = said.skip_blank
says said settings.Long = said.long
says said (settings.All n) = is_some said.all
says said settings.Json = said.json
says said settings.Certificates = said.certificates
says said settings.Svg = said.svg
says said settings.Html = said.html
says said settings.Events = said.events
says said (settings.Every n) = is_some said.every
says said settings.Names = said.names
says said settings.Notes = said.notes
says said settings.Why = said.why
says said settings.Output = said.output
says said settings.Summary = said.summary
says said (settings.AtLeastReads n) = is_some said.least_reads
says said (settings.Color coloring) = is_some said.coloring
says said settings.Progress = said.progress

abbrev pub with_setting : Said → Setting → Said
with_setting said (settings.Store store) = record said { store = Some store }
with_setting said settings.Eager = record said { eager = true }
with_setting said (settings.Seals n) = record said { seals = Some n }
with_setting said (settings.Workers n) = record said { workers = Some n }
with_setting said (settings.Stop s) = record said { stop = Some s }
with_setting said (settings.Expect expected) = record said { expected = Some expected }
with_setting said settings.Lines = record said { lines = true }
with_setting said settings.SkipBlank = record said { skip_blank = true }
with_setting said settings.Long = record said { long = true }
with_setting said (settings.All n) = record said { all = Some n }
with_setting said settings.Json = record said { json = true }
with_setting said settings.Certificates = record said { certificates = true }
with_setting said settings.Svg = record said { svg = true }
with_setting said settings.Html = record said { html = true }
with_setting said settings.Events = record said { events = true }
with_setting said (settings.Every n) = record said { every = Some n }
with_setting said settings.Names = record said { names = true }
with_setting said settings.Notes = record said { notes = true }
with_setting said settings.Why = record said { why = true }
with_setting said settings.Output = record said { output = true }
with_setting said settings.Summary = record said { summary = true }
with_setting said (settings.AtLeastReads n) = record said { least_reads = Some n }
with_setting said (settings.Color coloring) = record said { coloring = Some coloring }
with_setting said settings.Progress = record said { progress = true }

-- what was said, and one thing more, which the command takes and which was not said before
abbrev pub and_also : Said → Setting → Option Said
and_also said setting = if takes said.command setting && not (says said setting) then Some (with_setting said setting) else None

-- nothing was said to a command yet
abbrev pub unsaid : CommandName → Said
unsaid command = record {
  command = command;
  store = None;
  eager = false;
  seals = None;
  workers = None;
  stop = None;
  expected = None;
  lines = false;
  skip_blank = false;
  long = false;
  all = None;
  json = false;
  certificates = false;
  svg = false;
  html = false;
  events = false;
  every = None;
  names = false;
  notes = false;
  why = false;
  output = false;
  summary = false;
  least_reads = None;
  coloring = None;
  progress = false;
}

-- one thing more is said by one word, or by two
abbrev pub AddsAlone : Said → Text → Said → Type 0
AddsAlone before word after = (setting : Setting) × SaysAlone setting word × (and_also before setting ≡ Some after)

abbrev pub AddsTogether : Said → Text → Text → Said → Type 0
AddsTogether before word value after = (setting : Setting) × SaysTogether setting word value × (and_also before setting ≡ Some after)

-- all that is said after some words, by what was said before them; if the name of an option stands before them, the first of them
-- is its value. Names of files may come anywhere, and say nothing
abbrev pub Say : Said → Option Text → List Text → Said → Type 0
Say before None [] after = after ≡ before
Say before (Some name) [] after = ⊥
Say before None (word ∷ words) after =
    ((said : Said) × AddsAlone before word said × Say said None words after) ⊎ (Say before (Some word) words after ⊎ (NamesFile word × Say before None words after))
Say before (Some name) (value ∷ words) after = (said : Said) × AddsTogether before name value said × Say said None words after

-- the files that some words name, in their order; where the name of an option stands before the words, the first of them is its value
abbrev pub AreFiles : Bool → List Text → List Text → Type 0
AreFiles after_name [] files = files ≡ []
AreFiles true (value ∷ words) files = AreFiles false words files
AreFiles false (word ∷ words) files =
    ((setting : Setting) × SaysAlone setting word × AreFiles false words files)
    ⊎ ((((setting : Setting) → ¬ SaysAlone setting word) × (is_bare word ≡ false) × AreFiles true words files)
    ⊎ (NamesFile word × (later : List Text) × (files ≡ word ∷ later) × AreFiles false words later))

-- by how many workers: by 2 where nothing is said
abbrev pub workers_for : Said → ℕ
workers_for said = unwrap_or said.workers 2

-- of which length: within the limits where nothing is said
abbrev pub length_for : Said → Length
length_for said = if said.long then lengths.Any else lengths.Limited

-- how much is said of an input that is refused: its reason too where that was said, and always of a history of any length
abbrev pub detail_for : Said → Detail
detail_for said = if said.why || said.long then details.Reason else details.Number

-- how histories are judged
abbrev pub judging_for : Said → Judging
judging_for said = record {
  workers = workers_for said;
  expected = unwrap_or said.expected expecting_nothing;
  length = length_for said;
}

-- how histories in lines are judged
abbrev pub blank_for : Said → BlankLines
blank_for said = if said.skip_blank then blank_lines.Skipped else blank_lines.Refused

abbrev pub line_judging_for : Said → LineJudging
line_judging_for said = record { judging = judging_for said; blank = blank_for said }

-- how a log is judged
abbrev pub log_judging_for : Said → LogJudging
log_judging_for said = record {
  workers = workers_for said;
  expected = unwrap_or said.expected expecting_nothing;
  every = said.every;
}

-- one history is judged, or a log, of any length, perhaps after each so many events
abbrev pub judge_one_of : Bool → Option ℕ → Said → Option Task
judge_one_of false None said = Some (OfInput (orders.Judge (judging_for said)) (detail_for said))
judge_one_of true every said = Some (OfLog (log_orders.Judge (log_judging_for said)))
judge_one_of false (Some every) said = None

-- the history in each line is judged: each line has an answer of its own, and no reason is given for a refused one
abbrev pub judge_lines_of : Bool → Option ℕ → Bool → Said → Option Task
judge_lines_of false None false said = Some (OfInput (orders.JudgeLines (line_judging_for said)) details.Number)
judge_lines_of _ _ _ said = None

-- whether something was said that is of one history or log alone
abbrev pub says_of_one : Said → Bool
says_of_one said = said.why || (said.summary || is_some said.least_reads)

-- lines are judged where that was said, and only then can blank ones be skipped
abbrev pub judge_of : Bool → Bool → Said → Option Task
judge_of true blank said = judge_lines_of said.events said.every (says_of_one said) said
judge_of false false said = judge_one_of said.events said.every said
judge_of false true said = None

abbrev pub judge_for : Said → Option Task
judge_for said = judge_of said.lines said.skip_blank said

-- the form of a reason, where what was said goes together
abbrev pub form_of : Bool → Bool → Bool → Option Form
form_of false false false = Some forms.Words
form_of true false false = Some forms.Json
form_of true true false = Some forms.Certificates
form_of false false true = Some forms.Picture
form_of _ _ _ = None

abbrev pub form_for : Said → Option Form
form_for said = form_of said.json said.certificates said.svg

-- the form of a reason on a history of any length: it has no certificates
abbrev pub long_form_of : Bool → Bool → Bool → Option LongForm
long_form_of false false false = Some long_forms.Words
long_form_of true false false = Some long_forms.Json
long_form_of false false true = Some long_forms.Picture
long_form_of _ _ _ = None

abbrev pub long_form_for : Said → Option LongForm
long_form_for said = long_form_of said.json said.certificates said.svg

-- the form of a list
abbrev pub list_form_of : Bool → Bool → Bool → Option ListForm
list_form_of false false false = Some list_forms.Words
list_form_of true false false = Some list_forms.Json
list_form_of _ _ _ = None

abbrev pub list_form_for : Said → Option ListForm
list_form_for said = list_form_of said.json said.certificates said.svg

abbrev pub listing_of : Said → ℕ → ListForm → Listing
listing_of said most form = record { most = most; length = length_for said; form = form }

-- reads are listed where a number of them was said; else reasons are given, on a history of any length where that was said. A log is of
-- any length
abbrev pub explain_of : Option ℕ → Bool → Bool → Said → Option Task
explain_of (Some most) false long said =
    option_map (λ form. OfInput (orders.ListFaults (listing_of said most form)) (detail_for said)) (list_form_for said)
explain_of None false true said = option_map (λ form. OfInput (orders.ExplainLong form) (detail_for said)) (long_form_for said)
explain_of None false false said = option_map (λ form. OfInput (orders.Explain form) (detail_for said)) (form_for said)
explain_of (Some most) true long said = option_map (λ form. OfLog (log_orders.ListFaults most form)) (list_form_for said)
explain_of None true long said = option_map (λ form. OfLog (log_orders.Explain form)) (long_form_for said)

-- of what a page is written, by whether it is a log
abbrev pub page_of_what : Bool → Length → PageOf
page_of_what events length = if events then pages.Log else pages.Input length

abbrev pub page_with : Said → PageOf → Page
page_with said of = record { most = unwrap_or said.all USUAL_LISTED; of = of }

-- whether another form than a page was said
abbrev pub says_form : Said → Bool
says_form said = said.json || said.certificates || said.svg

abbrev pub page_for : Said → Option Task
page_for said =
    if says_form said then None
    else Some (OfPage (page_with said (page_of_what said.events (length_for said))) (detail_for said))

-- a page is written where that was said
abbrev pub explain_for : Said → Option Task
explain_for said = if said.html then page_for said else explain_of said.all said.events said.long said

-- the drive that is asked for, where a store is named: with no seal while clients run, where nothing is said
abbrev pub delivery_for : Said → Delivery
delivery_for said = if said.eager then deliveries.Eager else deliveries.Causal

abbrev pub drive_of : Said → Store → Drive
drive_of said store = record {
  store = store;
  delivery = delivery_for said;
  seals = unwrap_or said.seals 0;
  workers = workers_for said;
  stop = said.stop;
}

abbrev pub drive_for : Said → Option Drive
drive_for said = option_map (drive_of said) said.store

-- the history of a log is written, or its names, or the notes of its calls
abbrev pub events_of : Bool → Bool → Option Task
events_of false false = Some (OfLog log_orders.WriteHistory)
events_of true false = Some (OfLog log_orders.WriteNames)
events_of false true = Some (OfLog log_orders.WriteNotes)
events_of true true = None

abbrev pub events_for : Said → Option Task
events_for said = events_of said.names said.notes

-- the task that all that was said to a command gives
abbrev pub task_to : CommandName → Said → Option Task
task_to commands.Judge said = judge_for said
task_to commands.Check said = Some (OfInput (orders.Check (workers_for said)) (detail_for said))
task_to commands.Explain said = explain_for said
task_to commands.Refute said = Some (OfInput (orders.Refute (length_for said)) (detail_for said))
task_to commands.Replay said = Some (OfInput orders.Replay (detail_for said))
task_to commands.Drive said = option_map (λ drive. OfInput (orders.Drive drive) (detail_for said)) (drive_for said)
task_to commands.Events said = events_for said

abbrev pub task_for : Said → Option Task
task_for said = task_to said.command said

-- how a task is carried out
abbrev pub manner_for : Said → Manner
manner_for said = record {
  to_file = said.output;
  summary = said.summary;
  least_reads = said.least_reads;
  coloring = unwrap_or said.coloring colorings.Auto;
  progress = said.progress;
}

-- what counts as said on an input that looks so: that it is a log, or a memory history of any length, for which no certificates are
-- made. The reason of a refusal is given then
abbrev pub said_on : Sight → Said → Said
said_on sights.Unseen said = said
said_on sights.Log said = record said { events = true }
said_on sights.Memory said = record said { long = said.long || not said.certificates; why = true }
said_on sights.Other said = record said { why = true }

abbrev pub asked_for : Sight → Said → Option Asked
asked_for sight said = option_map (λ task. record { task = task; manner = manner_for said }) (task_for (said_on sight said))

-- a command's word, and the words after it, ask for this on an input that looks so
abbrev pub IsAsked : Sight → Asked → Text → List Text → Type 0
IsAsked sight asked word words =
    (command : CommandName) × (word ≡ command_word command)
    × (said : Said) × Say (unsaid command) None words said × (asked_for sight said ≡ Some asked)

-- Which page is written, and when none is.
use Rattle.std.specs.Prelude.{◌≡◌, ◌<◌, ◌≤◌, ◌+◌, ◌-◌, ⊤, ℕ, List, Bool, Option, Some, None, IfSome, codes, length, option_and_then}
use Rattle.std.specs.Io.KnownBytes.{Appends}
use Rattle.serde_json.specs.Data.{Data}
use Rattle.serde_json.specs.Find.{as_number, as_u64, pointer}
use Rattle.serde_json.specs.Read.{read}
use Rattle.app_orders.specs.declared.form.Form.TheVariants as forms
use Rattle.app_orders.specs.declared.form.ListForm.TheVariants as list_forms
use Rattle.app_orders.specs.declared.form.LongForm.TheVariants as long_forms
use Rattle.app_orders.specs.declared.length.Length.{Length}
use Rattle.app_orders.specs.declared.length.Length.TheVariants.{Limited, Any}
use Rattle.app_orders.specs.declared.log_order.LogOrder.TheVariants as logs
use Rattle.app_orders.specs.declared.order.Order.{Order}
use Rattle.app_orders.specs.declared.order.Order.TheVariants.{Explain, ExplainLong, ListFaults}
use Rattle.app_engine.specs.declared.input.TheConstants.{MAX_INPUT_BYTES}
use Rattle.app_engine.specs.Running.{IsOfInput, IsOutput}
use Rattle.json_lines.specs.declared.outcome.Outcome.TheVariants.{Met}
use Rattle.log_reader.specs.Logs.{IsLogOf, IsRefusedLog, Log as EventLog}
use Rattle.app_logs.specs.declared.failure.LogError.TheVariants.{Refused, Memory, ReadFault, WriteFault}
use Rattle.app_logs.specs.LogAnswers.{IsLogAnswerBy}
use Rattle.app_logs.specs.LogTexts.{AreCallLines}
use Rattle.app_logs.specs.Reports.{IsForcedIn}
use Rattle.log_choices.specs.declared.seen.Seen.{Seen}
use Rattle.show_page.specs.Pages.{page, said}
use Rattle.app_pages.specs.declared.failure.PageError.{PageError}
use Rattle.app_pages.specs.declared.failure.PageError.TheVariants.{TooLong, Log}

-- the order whose output on an input its page shows
abbrev pub listing_order : ℕ → Length → Order
listing_order most long = ListFaults (record { most = most; length = long; form = list_forms.Json })

-- the orders whose outputs a page of an input shows as words, as a list of at most so many reads, and as a picture
abbrev pub words_order : Length → Order
words_order Limited = Explain forms.Words
words_order Any = ExplainLong long_forms.Words

abbrev pub list_order : ℕ → Length → Order
list_order most long = ListFaults (record { most = most; length = long; form = list_forms.Words })

abbrev pub picture_order : Length → Order
picture_order Limited = Explain forms.Picture
picture_order Any = ExplainLong long_forms.Picture

-- the whole number at a place of a JSON value, or 0
abbrev pub or_zero : Option ℕ → ℕ
or_zero None = 0
or_zero (Some n) = n

abbrev pub number_at : List ℕ → Data → ℕ
number_at place d = or_zero (option_and_then as_u64 (option_and_then as_number (pointer place d)))

-- how many reads show a fault, by a list of faults as JSON, which has a count for each of three kinds
abbrev pub counted_reads : Data → ℕ
counted_reads d = number_at (codes "/1/0/0/1") d + number_at (codes "/1/0/1/1") d + number_at (codes "/1/0/2/1") d

abbrev pub CountsReads : List ℕ → ℕ → Type 0
CountsReads report counted = (d : Data) × (read report ≡ Some d) × (counted ≡ counted_reads d)

-- the part says of an input what is answered to it in words, in a list of so many reads, and as a picture; and how many reads more there
-- are, as a list as JSON counts them
pub record IsSaidOfInput (long : Length) (input report part : List ℕ) : Type 0 where
  pub words : List ℕ
  pub most : ℕ
  pub counted : ℕ
  pub list : List ℕ
  pub picture : List ℕ
  pub are_words : IsOutput (words_order long) input words
  pub is_counted : CountsReads report counted
  pub is_list : IsOutput (list_order most long) input list
  pub is_picture : IsOutput (picture_order long) input picture
  pub is_said : part ≡ said words (counted - most) list picture

-- the text is the page of the input itself, and of what is answered to it
pub record IsPageOfInput (most : ℕ) (long : Length) (input text : List ℕ) : Type 0 where
  pub report : List ℕ
  pub part : List ℕ
  pub output : IsOutput (listing_order most long) input report
  pub is_said : IsSaidOfInput long input report part
  pub is_page : text ≡ page input report (codes "null") (codes "null") (codes "[]") part

-- the same of a log, by what its null reads saw
pub record IsSaidOfLog (saw : List (ℕ × Seen)) (log : EventLog) (report part : List ℕ) : Type 0 where
  pub words : List ℕ
  pub most : ℕ
  pub counted : ℕ
  pub list : List ℕ
  pub picture : List ℕ
  pub are_words : IsLogAnswerBy saw (logs.Explain long_forms.Words) log words Met
  pub is_counted : CountsReads report counted
  pub is_list : IsLogAnswerBy saw (logs.ListFaults most list_forms.Words) log list Met
  pub is_picture : IsLogAnswerBy saw (logs.Explain long_forms.Picture) log picture Met
  pub is_said : part ≡ said words (counted - most) list picture

-- the text is the page of what is answered to a log by what its null reads saw, and of the lines of its calls
pub record IsPageOf (most : ℕ) (saw : List (ℕ × Seen)) (log : EventLog) (text : List ℕ) : Type 0 where
  pub history : List ℕ
  pub report : List ℕ
  pub names : List ℕ
  pub lines : List ℕ
  pub notes : List ℕ
  pub part : List ℕ
  pub is_history : IsLogAnswerBy saw logs.WriteHistory log history Met
  pub is_report : IsLogAnswerBy saw (logs.ListFaults most list_forms.Json) log report Met
  pub are_names : IsLogAnswerBy saw logs.WriteNames log names Met
  pub are_lines : AreCallLines saw log lines
  pub are_notes : IsLogAnswerBy saw logs.WriteNotes log notes Met
  pub is_said : IsSaidOfLog saw log report part
  pub is_page : text ≡ page history report names lines notes part

-- and of the one log that these bytes have, by what is forced
pub record IsPageOfLog (most : ℕ) (torn : Bool) (bytes text : List ℕ) : Type 0 where
  pub log : EventLog
  pub saw : List (ℕ × Seen)
  pub of_bytes : IsLogOf bytes log torn
  pub forced : IsForcedIn log.in_time log.events saw
  pub is_page : IsPageOf most saw log text

-- an input of no more than so many bytes was read whole, and a page of it was written whole: what the reader had, where it tells its
-- bytes, and what the writer holds after what it held, where it tells its bytes
pub record WritesPage (most_bytes : ℕ) (IsPage : List ℕ → List ℕ → Type 0) (reader writer_before writer_after : Option (List ℕ)) : Type 0 where
  pub input : List ℕ
  pub text : List ℕ
  pub whole : IfSome reader (λ bytes. input ≡ bytes)
  pub within : length input ≤ most_bytes
  pub is_page : IsPage input text
  pub written : Appends writer_before writer_after text

-- the page of an input was written whole: the writer holds it after what it held, where it tells its bytes
abbrev pub WritesPageOf : ℕ → Length → List ℕ → Option (List ℕ) → Option (List ℕ) → Type 0
WritesPageOf most long input before after = (text : List ℕ) × IsPageOfInput most long input text × Appends before after text

-- why a log has no page: it is too long, or a line of it is refused; or its page could not be written; or memory or the reader failed,
-- which can be at any time
abbrev pub FailsToWrite : ℕ → Option (List ℕ) → PageError → Type 0
FailsToWrite most reader TooLong = IfSome reader (λ bytes. MAX_INPUT_BYTES < length bytes)
FailsToWrite most reader (Log (Refused refusal)) = IsOfInput MAX_INPUT_BYTES reader (λ bytes. IsRefusedLog bytes refusal)
FailsToWrite most reader (Log WriteFault) = IsOfInput MAX_INPUT_BYTES reader (λ bytes. (torn : Bool) × (text : List ℕ) × IsPageOfLog most torn bytes text)
FailsToWrite most reader (Log Memory) = ⊤
FailsToWrite most reader (Log ReadFault) = ⊤

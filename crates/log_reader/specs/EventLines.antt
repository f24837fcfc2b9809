-- On which lines the events of a log are, and what these say by the names of the log.
use Rattle.std.specs.Prelude.{◌≡◌, ◌⊎◌, ⊤, ℕ, ◌+◌, List, [], ◌∷◌, ◌++◌, length, codes, true, slice_get, slice_index_or, Some}
use Rattle.std.specs.List.{All}
use Rattle.json_bounded.specs.Text.{IsJson}
use Rattle.serde_json.specs.Data.{Data}
use Rattle.log_events.specs.declared.event.ClientCall.{ClientCall}
use Rattle.log_events.specs.declared.event.ClientCall.TheVariants.{WriteTo, ReadOf, DeleteOf}
use Rattle.log_events.specs.declared.event.Ending.{Ending}
use Rattle.log_events.specs.declared.event.Ending.TheVariants.{Answered, Got, GotNothing, Failed, Lost}
use Rattle.log_events.specs.declared.event.Event.{Event}
use Rattle.log_events.specs.declared.event.Event.TheVariants.{Starts, Begins, Ends}
use Rattle.log_reader.specs.Forms.{Said, SaidCall, SaidEnding, start, begin, end, write, read, delete, answer, nothing, failed, lost, said_at}
use Rattle.log_reader.specs.Logs.{IsFree, Log, ended_lines}
use Rattle.log_reader.specs.Names.{Name, same_name, text_name}

-- the number of the line of the event at a place, from 1, or 0 where there is no such event
abbrev pub line_at : Log → ℕ → ℕ
line_at log place = slice_index_or log.lines place 0

module _ (log : Log) where
  -- the log has this name at this number
  abbrev pub IsClientName : ℕ → Name → Type 0
  IsClientName client name = slice_get log.clients client ≡ Some name

  abbrev pub IsKeyName : ℕ → Name → Type 0
  IsKeyName key name = slice_get log.keys key ≡ Some name

  abbrev pub IsValueName : ℕ → Name → Type 0
  IsValueName value name = slice_get log.values value ≡ Some name

  -- what is said by names is this, by their numbers
  abbrev pub SaysCall : SaidCall → ClientCall → Type 0
  SaysCall (write key value) (WriteTo x v) = IsKeyName x key × IsValueName v value
  SaysCall (read key) (ReadOf x) = IsKeyName x key
  SaysCall (delete key) (DeleteOf x) = IsKeyName x key
  SaysCall said call = ⊥

  abbrev pub SaysEnding : SaidEnding → Ending → Type 0
  SaysEnding (answer value) (Got v) = IsValueName v value
  SaysEnding (answer value) Answered = same_name value (text_name (codes "ok")) ≡ true
  SaysEnding nothing GotNothing = ⊤
  SaysEnding failed Failed = ⊤
  SaysEnding lost Lost = ⊤
  SaysEnding said ending = ⊥

  abbrev pub Says : Said → Event → Type 0
  Says (start key value) (Starts x v) = IsKeyName x key × IsValueName v value
  Says (begin client said) (Begins c call) = IsClientName c client × SaysCall said call
  Says (end client said) (Ends c ending) = IsClientName c client × SaysEnding said ending
  Says said e = ⊥

-- this is the line of a text with this number, from 1
pub record IsLineOf (text : List ℕ) (number : ℕ) (line : List ℕ) : Type 0 where
  pub before : List (List ℕ)
  pub rest : List ℕ
  pub whole : text ≡ ended_lines before ++ (line ++ rest)
  pub free : All IsFree before
  pub line_free : IsFree line
  pub ends : (rest ≡ []) ⊎ ((more : List ℕ) × (rest ≡ 10 ∷ more))
  pub is_number : number ≡ length before + 1

-- the event at a place is what the line with its number says
pub record IsSaidIn (text : List ℕ) (log : Log) (place : ℕ) (e : Event) : Type 0 where
  pub number : ℕ
  pub at : slice_get log.lines place ≡ Some number
  pub line : List ℕ
  pub is_line : IsLineOf text number line
  pub value : Data
  pub json : IsJson line value
  pub said : Said
  pub form : said_at value ≡ Some said
  pub says : Says log said e

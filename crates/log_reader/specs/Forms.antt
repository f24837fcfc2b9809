-- The JSON forms of events.
use Rattle.std.specs.Prelude.{ℕ, Bool, false, List, [], ◌∷◌, ◌||◌, codes, nat_eq, Option, Some, None, option_map, option_and_then, if◌then◌else◌}
use Rattle.std.specs.Cmp.Lexicographic.{pointwise}
use Rattle.serde_json.specs.Data.{Data, null, string}
use Rattle.json_histories.specs.Json.{elements}
use Rattle.log_reader.specs.Names.{Name, name_of, value_name}

-- what a client calls, by names: a write to a key, of a value; a read of a key; a delete of a key
pub data SaidCall : Type 0 where
  write : Name → Name → SaidCall
  read : Name → SaidCall
  delete : Name → SaidCall

-- how a call ends: a value or `"ok"` was answered, or null; it failed, or is lost
pub data SaidEnding : Type 0 where
  answer : Name → SaidEnding
  nothing : SaidEnding
  failed : SaidEnding
  lost : SaidEnding

-- an event, by names, or that the lines of the log stand in the order of time
pub data Said : Type 0 where
  start : Name → Name → Said
  begin : Name → SaidCall → Said
  end : Name → SaidEnding → Said
  ordered : Said

-- the value is this text
abbrev pub is_word : List ℕ → Data → Bool
is_word word (string s) = pointwise nat_eq s word
is_word word d = false

-- of two that are there
abbrev pub both : {A B C : Type 0} → (A → B → C) → Option A → Option B → Option C
both f a b = option_and_then (λ x. option_map (f x) b) a

-- ["w", key, value], ["r", key], ["d", key]
abbrev pub call_in : List Data → Option SaidCall
call_in (word ∷ key ∷ []) =
    if is_word (codes "r") word then option_map read (name_of key)
    else (if is_word (codes "d") word then option_map delete (name_of key) else None)
call_in (word ∷ key ∷ value ∷ []) = if is_word (codes "w") word then both write (name_of key) (value_name value) else None
call_in ds = None

abbrev pub call_at : Data → Option SaidCall
call_at d = option_and_then call_in (elements d)

-- a value, "ok" or null
abbrev pub answer_at : Data → Option SaidEnding
answer_at null = Some nothing
answer_at d = option_map answer (value_name d)

-- the words of a call that ends without an answer
abbrev pub is_unanswered : Data → Bool
is_unanswered word = is_word (codes "fail") word || is_word (codes "lost") word

-- ["fail", client], ["lost", client]
abbrev pub unanswered_in : Data → Data → Option Said
unanswered_in word client =
    if is_word (codes "fail") word then option_map (λ c. end c failed) (name_of client)
    else (if is_word (codes "lost") word then option_map (λ c. end c lost) (name_of client) else None)

-- ["begin", client, call], ["end", client, answer]
abbrev pub called_in : Data → Data → Data → Option Said
called_in word client more =
    if is_word (codes "begin") word then both begin (name_of client) (call_at more)
    else (if is_word (codes "end") word then both end (name_of client) (answer_at more) else None)

-- ["order", "time"]
abbrev pub ordered_in : Data → Option Said
ordered_in order = if is_word (codes "time") order then Some ordered else None

-- one of these, or ["start", key, value]. A begin, an end, a fail and a lost may each have one element more, a note: any value, which says nothing
abbrev pub said_in : List Data → Option Said
said_in (word ∷ first ∷ []) = if is_word (codes "order") word then ordered_in first else unanswered_in word first
said_in (word ∷ first ∷ second ∷ []) =
    if is_word (codes "start") word then both start (name_of first) (value_name second)
    else (if is_unanswered word then unanswered_in word first else called_in word first second)
said_in (word ∷ client ∷ more ∷ note ∷ []) = called_in word client more
said_in ds = None

-- the event that a JSON value says
abbrev pub said_at : Data → Option Said
said_at d = option_and_then said_in (elements d)

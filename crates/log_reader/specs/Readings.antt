-- What a reader of a log has read.
use Rattle.std.specs.Prelude.{◌≡◌, ◌≢◌, ⊤, ℕ, ◌<◌, true, List, [], ◌++◌, length, Option, IfSome}
use Rattle.std.specs.List.{All}
use Rattle.log_events.specs.declared.event.ClientCall.{ClientCall}
use Rattle.log_events.specs.declared.event.ClientCall.TheVariants.{WriteTo, ReadOf, DeleteOf}
use Rattle.log_events.specs.declared.event.Ending.{Ending}
use Rattle.log_events.specs.declared.event.Ending.TheVariants.{Got}
use Rattle.log_events.specs.declared.event.Event.{Event}
use Rattle.log_events.specs.declared.event.Event.TheVariants.{Starts, Begins, Ends}
use Rattle.log_reader.specs.Logs.{BeginsBy, IsRefusedLog, Log}
use Rattle.log_reader.specs.declared.log_fault.LogFault.{LogFault}
use Rattle.log_reader.specs.declared.log_fault.LogFault.TheVariants.{Refused, Memory, Read}

-- the log so far, the bytes of lines to come that are held, and how many lines were read
pub record Reading : Type 0 where
  pub log : Log
  pub held : List ℕ
  pub count : ℕ

-- these bytes were read
pub record HasRead (text : List ℕ) (reading : Reading) : Type 0 where
  pub lines : List (List ℕ)
  pub begins : BeginsBy text lines reading.log reading.held
  pub count : reading.count ≡ length lines

-- a list stays in front
abbrev pub Grows : {X : Type 0} → List X → List X → Type 0
Grows {X} old new = (more : List X) × (new ≡ old ++ more)

-- what a log had it has still; the order of time is said before any event, or never
pub record Extends (old new : Log) : Type 0 where
  pub clients : Grows old.clients new.clients
  pub keys : Grows old.keys new.keys
  pub values : Grows old.values new.values
  pub events : Grows old.events new.events
  pub lines : Grows old.lines new.lines
  pub in_time : old.in_time ≡ true → new.in_time ≡ true
  pub settled : old.events ≢ [] → new.in_time ≡ old.in_time

-- why a text whose first lines have a log is not read until it has so many events: a later line is refused, before which it has fewer; or memory runs
-- out, or the reader fails
abbrev pub FaultsFor : ℕ → Log → List ℕ → LogFault → Type 0
FaultsFor most log text (Refused refusal) =
    (refused : IsRefusedLog text refusal) × Extends log refused.before × (length refused.before.events < most)
FaultsFor most log text Memory = ⊤
FaultsFor most log text Read = ⊤

-- each number of an event has a name
module _ (log : Log) where
  abbrev pub IsClient : ℕ → Type 0
  IsClient client = client < length log.clients

  abbrev pub IsKey : ℕ → Type 0
  IsKey key = key < length log.keys

  abbrev pub IsValue : ℕ → Type 0
  IsValue value = value < length log.values

  abbrev pub IsCallNamed : ClientCall → Type 0
  IsCallNamed (WriteTo x v) = IsKey x × IsValue v
  IsCallNamed (ReadOf x) = IsKey x
  IsCallNamed (DeleteOf x) = IsKey x

  abbrev pub IsEndingNamed : Ending → Type 0
  IsEndingNamed (Got v) = IsValue v
  IsEndingNamed ending = ⊤

  abbrev pub IsNamed : Event → Type 0
  IsNamed (Starts x v) = IsKey x × IsValue v
  IsNamed (Begins client call) = IsClient client × IsCallNamed call
  IsNamed (Ends client ending) = IsClient client × IsEndingNamed ending

  abbrev pub AreNamed : Type 0
  AreNamed = All IsNamed log.events

-- why a log is not read on until it has so many events, whose bytes were read and which the source had still
abbrev pub FaultsAt : ℕ → Option (List ℕ) → Reading → LogFault → Type 0
FaultsAt most source reading fault = (text : List ℕ) → HasRead text reading → IfSome source (λ bytes. FaultsFor most reading.log (text ++ bytes) fault)

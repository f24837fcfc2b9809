-- The places in the form of a history: where the elements of a list stand, and how many of them are read, one more than the
-- form can have.
use Rattle.std.specs.Prelude.{ℕ, ◌+◌, ◌==◌, if◌then◌else◌, Option, Some}
use Rattle.model_history.specs.declared.limits.TheConstants.{MAX_OPERATIONS, MAX_SESSIONS}
use Rattle.model_objects.specs.declared.table.TheConstants.{MAX_ENTRIES}
use Rattle.json_histories.specs.declared.history_place.TheConstants.{MAX_PARTS, MAX_WORDS, ENTRY_PARTS}
use Rattle.json_histories.specs.declared.history_place.HistoryPlace.{HistoryPlace}
use Rattle.json_histories.specs.declared.history_place.HistoryPlace.TheVariants.{Whole, Sessions, Session, Operation, Start, Entry, Scalar}

-- a text or a number has no elements
abbrev pub limit_of : HistoryPlace → Option ℕ
limit_of Whole = Some (MAX_PARTS + 1)
limit_of Sessions = Some (MAX_SESSIONS + 1)
limit_of Session = Some (MAX_OPERATIONS + 1)
limit_of Operation = Some (MAX_WORDS + 1)
limit_of Start = Some (MAX_ENTRIES + 1)
limit_of Entry = Some (ENTRY_PARTS + 1)
limit_of Scalar = Some 0

-- a history has its name, its sessions and its start
abbrev pub inside_of : HistoryPlace → ℕ → HistoryPlace
inside_of Whole index = if index == 1 then Sessions else (if index == 2 then Start else Scalar)
inside_of Sessions index = Session
inside_of Session index = Operation
inside_of Operation index = Scalar
inside_of Start index = Entry
inside_of Entry index = Scalar
inside_of Scalar index = Scalar

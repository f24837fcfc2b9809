-- Logs in which each read returns what was begun before, and the sessions of a cut: of the first events of a log.
use Rattle.std.specs.Prelude.{◌≡◌, ◌⊎◌, ℕ, ◌<◌, ◌≤◌, IsTrue, List, ◌++◌, length, take, Some, None, slice_get}
use Rattle.log_events.specs.declared.event.ClientCall.{ClientCall}
use Rattle.log_events.specs.declared.event.ClientCall.TheVariants.{WriteTo, ReadOf, DeleteOf}
use Rattle.log_events.specs.declared.event.Ending.TheVariants.{Got, GotNothing, Failed, Lost}
use Rattle.log_events.specs.declared.event.Event.{Event}
use Rattle.log_events.specs.declared.event.Event.TheVariants.{Starts, Begins, Ends}
use Rattle.log_events.specs.Events.{IsAt, IsEnded, Call}
use Rattle.log_events.specs.Histories.{Operation, is_deleted, operation, operations, client_session}

-- before the place j a client began the call, and it does not fail
abbrev pub IsBegunBefore : List Event → ℕ → ClientCall → Type 0
IsBegunBefore es j call =
    (client i : ℕ) × (i < j) × IsAt es i (Begins client call) × ((k : ℕ) → ¬ IsEnded es client call i k Failed)

-- the value that a read got is the start of its key, or its write was begun before; where a read got nothing, its key has no start, or
-- a delete of the key was begun before
pub record ReturnsWhatWasBegun (es : List Event) : Type 0 where
  pub value : (client x v i j : ℕ) → IsEnded es client (ReadOf x) i j (Got v)
      → ((k : ℕ) × (k < j) × IsAt es k (Starts x v)) ⊎ IsBegunBefore es j (WriteTo x v)
  pub nothing : (client x i j : ℕ) → IsEnded es client (ReadOf x) i j GotNothing
      → ((k v : ℕ) → ¬ IsAt es k (Starts x v)) ⊎ IsBegunBefore es j (DeleteOf x)

module _ (cut es : List Event) where
  -- an ended call has the same operation in the history of a cut as in that of the log; or it is a lost write with none in the cut,
  -- since its value is returned only later; or a read that got nothing, with none in one of the two
  abbrev pub IsAlike : Call → Type 0
  IsAlike a =
      (operation cut a.place a.call a.ending ≡ operation es a.place a.call a.ending)
      ⊎ (((x v : ℕ) × (a.call ≡ WriteTo x v) × (a.ending ≡ Some Lost) × (operation cut a.place a.call a.ending ≡ None))
      ⊎ ((x : ℕ) × (a.call ≡ ReadOf x) × (a.ending ≡ Some GotNothing)
      × ((operation cut a.place a.call a.ending ≡ None) ⊎ (operation es a.place a.call a.ending ≡ None))))

  -- the session of a client in both: first the operations of the calls that ended in the cut, and then in the cut at most one
  -- operation, whose return is unknown
  pub record IsCutSession (client : ℕ) (ended : List Call) (last rest : List Operation) : Type 0 where
    pub in_cut : client_session cut client ≡ operations cut ended ++ last
    pub in_log : client_session es client ≡ operations es ended ++ rest
    pub alike : (k : ℕ) (a : Call) → slice_get ended k ≡ Some a → IsAlike a
    pub short : length last ≤ 1
    pub unknown : (k : ℕ) (e : Operation) → slice_get last k ≡ Some e → e.1 ≡ None

  -- the session of a client in the cut begins that in the log, but for the return of its last operation
  abbrev pub BeginsSession : ℕ → Type 0
  BeginsSession client =
      (first last rest : List Operation) × (client_session cut client ≡ first ++ last) × (client_session es client ≡ first ++ rest)
      × (length last ≤ 1) × ((k : ℕ) (e : Operation) → slice_get last k ≡ Some e → e.1 ≡ None)

-- no call is lost, and no read gets nothing
pub record HasPlainEnds (es : List Event) : Type 0 where
  pub not_lost : (j client : ℕ) → ¬ IsAt es j (Ends client Lost)
  pub got : (j client : ℕ) → ¬ IsAt es j (Ends client GotNothing)

-- nor does a call fail
pub record EndsWell (es : List Event) : Type 0 where
  pub plain : HasPlainEnds es
  pub not_failed : (j client : ℕ) → ¬ IsAt es j (Ends client Failed)

-- all starts are among the first n events
abbrev pub HasStartsBefore : List Event → ℕ → Type 0
HasStartsBefore es n = (k x v : ℕ) → IsAt es k (Starts x v) → k < n

-- where a read got nothing of a key that some delete names, such a delete was begun before, and does not fail
abbrev pub FindsNothingInOrder : List Event → Type 0
FindsNothingInOrder es = (reader x i j : ℕ) → IsEnded es reader (ReadOf x) i j GotNothing → IsTrue (is_deleted es x)
    → IsBegunBefore es j (DeleteOf x)

-- the first n events of a log have what the reads that end among them rest on: where one got a value, each write of it that does not
-- fail; and where one got nothing of a key that some delete of the log names, some delete of it
pub record IsClosedCut (es : List Event) (n : ℕ) : Type 0 where
  pub writes : (reader client x v i j k : ℕ) → IsEnded es reader (ReadOf x) i j (Got v) → j < n → IsAt es k (Begins client (WriteTo x v))
      → ((m : ℕ) → ¬ IsEnded es client (WriteTo x v) k m Failed) → k < n
  pub deletes : (reader x i j : ℕ) → IsEnded es reader (ReadOf x) i j GotNothing → j < n → IsTrue (is_deleted es x)
      → IsTrue (is_deleted (take n es) x)

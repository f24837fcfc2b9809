-- How the operations of a log's history are named: by the lines of the log.
use Rattle.std.specs.Prelude.{ℕ, zero, suc, Bool, true, false, List, [], ◌++◌, codes, decimal, nat_le, Option, Some, None, slice_get, slice_index_or}
use Rattle.log_events.specs.Events.{Call}
use Rattle.log_events.specs.Histories.{clients}
use Rattle.log_events.specs.declared.event.Ending.{Ending}
use Rattle.log_events.specs.declared.event.Ending.TheVariants.{Answered, Got, GotNothing, Failed, Lost}
use Rattle.log_reader.specs.EventLines.{line_at}
use Rattle.log_reader.specs.Logs.{Log}
use Rattle.model_history.specs.declared.op_id.OpId.{OpId}
use Rattle.show_log_names.specs.declared.log_tables.StoodFor.{StoodFor}

-- the call that an operation of the history represents, by the calls of the operations of each session
abbrev pub origin_of : List (List Call) → OpId → Option Call
origin_of calls op = slice_get (slice_index_or calls op.session []) op.index

abbrev pub stood_for : Call → StoodFor
stood_for a = record { client = a.client; place = a.place; call = a.call; ending = a.ending }

-- the sessions after those of clients are those of lost writes and deletes
abbrev pub is_of_lost_call : Log → OpId → Bool
is_of_lost_call log op = nat_le (clients log.events) op.session

-- which of the three operations of a lost write or delete that was seen it is: the write of its mark by the client, the read of the mark,
-- or the write or delete itself, of which nothing more is said
abbrev pub role : Bool → ℕ → Option Ending → List ℕ
role true zero ending = codes " (later)"
role true (suc i) ending = []
role false i None = []
role false i (Some Answered) = []
role false i (Some (Got v)) = []
role false i (Some GotNothing) = []
role false i (Some Failed) = []
role false i (Some Lost) = codes " (call)"

abbrev pub number_name : OpId → List ℕ
number_name op = decimal op.session ++ (codes "." ++ decimal op.index)

-- an operation is named by the line on which its call begins; one that the history has not, by its numbers
abbrev pub name_by : Log → OpId → Option Call → List ℕ
name_by log op (Some a) = codes "line " ++ (decimal (line_at log a.place) ++ role (is_of_lost_call log op) op.index a.ending)
name_by log op None = number_name op

abbrev pub operation_name : Log → List (List Call) → OpId → List ℕ
operation_name log calls op = name_by log op (origin_of calls op)

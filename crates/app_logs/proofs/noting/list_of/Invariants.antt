use Rattle.std.specs.Prelude.{string_bytes}
use Rattle.app_logs.specs.Steps.NotesSoFar.{BeginsNotes}
use Rattle.app_logs.proofs.noting.list_of.Given as goal

-- the notes so far
abbrev pub invariant-loop-event : goal.invariant-loop-event
invariant-loop-event l = BeginsNotes (string_bytes l.text)

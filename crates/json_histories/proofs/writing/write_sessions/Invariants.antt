use Rattle.std.proofs.Common.{◌≡◌, ◌<◌, ℕ, [], map, take}
use Rattle.std.specs.Prelude.{slice_index_or}
use Rattle.serde_json.specs.View.{view}
use Rattle.model_history.specs.History.{IsSession}
use Rattle.json_histories.specs.Form.{AreCalls, session_form}
use Rattle.json_histories.proofs.writing.write_sessions.Given as goal

abbrev pub invariant-loop-s : goal.invariant-loop-s
invariant-loop-s g l = record {
  written : map view l.values.items ≡ map (session_form g.O.Named.operation_form) (take l.s l.history.1);
  sessions : (k : ℕ) → k < l.s → IsSession g.O.SeqObject.matches (slice_index_or l.history.1 k []);
  calls : (k : ℕ) → k < l.s → AreCalls g.O.Named.is_call (slice_index_or l.history.1 k []);
}

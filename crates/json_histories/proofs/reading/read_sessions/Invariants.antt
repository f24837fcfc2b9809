use Rattle.std.proofs.Common.{map}
use Rattle.serde_json.specs.View.{view}
use Rattle.json_histories.proofs.HistoryReading.{AreReadUpTo}
use Rattle.json_histories.proofs.reading.read_sessions.Given as goal

abbrev pub invariant-loop-s : goal.invariant-loop-s
invariant-loop-s g l = AreReadUpTo g.O.Named.operation_at g.O.SeqObject.matches (map view l.values) (map (λ es. es.items) l.sessions.items) l.s

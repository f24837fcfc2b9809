use Rattle.std.proofs.Common.{map}
use Rattle.serde_json.specs.View.{view}
use Rattle.json_histories.proofs.SessionReading.{IsReadUpTo}
use Rattle.json_histories.proofs.reading.read_operations.Given as goal

abbrev pub invariant-loop-index : goal.invariant-loop-index
invariant-loop-index g l = IsReadUpTo g.O.Named.operation_at l.s (map view l.values) l.entries.items l.unknown_seen l.index

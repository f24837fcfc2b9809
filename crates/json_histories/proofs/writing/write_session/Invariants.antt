use Rattle.std.proofs.Common.{◌≡◌, map, take}
use Rattle.serde_json.specs.View.{view}
use Rattle.json_histories.specs.Form.{AreCalls}
use Rattle.json_histories.proofs.writing.write_session.Given as goal

abbrev pub invariant-loop-entry : goal.invariant-loop-entry
invariant-loop-entry g l = record {
  written : map view l.values.items ≡ map (λ e. g.O.Named.operation_form e.0 e.1) (take l.entry-index l.entries);
  calls : AreCalls g.O.Named.is_call (take l.entry-index l.entries);
}

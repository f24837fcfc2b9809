use Rattle.std.proofs.Common.{◌≡◌, [], map, take}
use Rattle.std.specs.Prelude.{slice_index_or}
use Rattle.serde_json.specs.View.{view}
use Rattle.json_histories.specs.Reads.{list_form}
use Rattle.pattern_json.proofs.writing_certificates.session_value.Given as goal

-- the forms of the operations so far
abbrev pub invariant-loop-index : goal.invariant-loop-index
invariant-loop-index g l = map view l.values.items ≡ map (list_form g.T.Written.form) (take l.index (slice_index_or l.lists l.session []))

use Rattle.std.proofs.Common.{◌≡◌, map, take}
use Rattle.serde_json.specs.View.{view}
use Rattle.json_histories.specs.Reads.{list_form}
use Rattle.pattern_json.proofs.writing_certificates.lists_value.Given as goal

-- the forms of the sessions so far
abbrev pub invariant-loop-session : goal.invariant-loop-session
invariant-loop-session g l = map view l.values.items ≡ map (list_form (list_form g.T.Written.form)) (take l.session l.lists)

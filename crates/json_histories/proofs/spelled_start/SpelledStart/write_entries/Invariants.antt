use Rattle.std.proofs.Common.{◌≡◌, map, take}
use Rattle.serde_json.specs.View.{view}
use Rattle.json_histories.specs.Spelling.{entry_form}
use Rattle.json_histories.proofs.spelled_start.SpelledStart.write_entries.Given as goal

-- the entries so far are written
abbrev pub invariant-loop-key : goal.invariant-loop-key
invariant-loop-key g l = map view l.values.items ≡ map (entry_form g.Self.SpelledStart.start_form) (take l.key-index l.entries)

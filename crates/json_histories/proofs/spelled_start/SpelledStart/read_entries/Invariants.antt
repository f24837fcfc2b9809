use Rattle.std.proofs.Common.{◌≡◌, ◌++◌, None, drop, map}
use Rattle.std.specs.Prelude.{option_map}
use Rattle.serde_json.specs.View.{view}
use Rattle.json_histories.specs.Spelling.{entries_at}
use Rattle.json_histories.proofs.spelled_start.SpelledStart.read_entries.Given as goal

-- the whole is what was read, and behind it what the rest reads as
abbrev pub invariant-loop-value : goal.invariant-loop-value
invariant-loop-value g l =
    entries_at g.Self.SpelledStart.start_at None (map view l.fn.values)
    ≡ option_map (λ es. l.table ++ es) (entries_at g.Self.SpelledStart.start_at l.before (drop l.value-index (map view l.fn.values)))

use Rattle.std.proofs.Common.{map, sym, ◌∙◌}
use Rattle.serde_json.specs.View.{view}
use Rattle.json_histories.proofs.ListLaws.{slice_get-mapped}
use Rattle.json_histories.proofs.EntriesReading.{no_entry, not_above, reads_on}
use Rattle.json_histories.proofs.spelled_start.SpelledStart.read_entries.Goals as goal

pub returns-in_default : goal.returns-in_default
returns-in_default g c =
    let v = c.value-item.result in
    let here = slice_get-mapped view c.args.values.now c.loop-value.value-index v c.value-item.is c.loop-value-test.true in
    sym (no_entry g.Self.SpelledStart.start_at (map view c.args.values.now) c.loop-value.table c.loop-value.before c.loop-value.value-index (view v)
    c.loop-value.invariant here (sym c.read_entry.ensures ∙ c.in_default.is))

pub returns-then-not-is_above : goal.returns-then-not-is_above
returns-then-not-is_above g c =
    let v = c.value-item.result in
    let here = slice_get-mapped view c.args.values.now c.loop-value.value-index v c.value-item.is c.loop-value-test.true in
    sym (not_above g.Self.SpelledStart.start_at (map view c.args.values.now) c.loop-value.table c.loop-value.before c.loop-value.value-index (view v)
    c.loop-value.invariant here (c.in-Some.key, c.in-Some.start) (sym c.in-Some.ensures) (sym c.is_above.ensures ∙ c.if-not-is_above.true))

pub loop-value-preserved : goal.loop-value-preserved
loop-value-preserved g c =
    let v = c.value-item.result in
    let here = slice_get-mapped view c.args.values.now c.loop-value.value-index v c.value-item.is c.loop-value-test.true in
    rw c.in_ok-push.ensures.ok (reads_on g.Self.SpelledStart.start_at (map view c.args.values.now) c.loop-value.table c.loop-value.before c.loop-value.value-index (view v)
    c.loop-value.invariant here (c.in-Some.key, c.in-Some.start) (sym c.in-Some.ensures) (sym c.is_above.ensures ∙ c.if-not-is_above.false))

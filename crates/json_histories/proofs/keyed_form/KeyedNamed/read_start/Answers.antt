use Rattle.std.proofs.Common.{Some, None, sym, ap, ◌∙◌}
use Rattle.std.specs.Prelude.{option_and_then}
use Rattle.std.proofs.lemmas.Result.{IfOk-weaker}
use Rattle.serde_json.specs.View.{view}
use Rattle.json_histories.specs.Spelling.{entries_at}
use Rattle.json_histories.proofs.StartForms.{no_value, one_value, more_values}
use Rattle.json_histories.proofs.keyed_form.KeyedNamed.read_start.Goals as goal

pub returns-in-Some : goal.returns-in-Some
returns-in-Some g c =
    let start_at = g.O.Start.SpelledStart.start_at in
    let one = one_value view start_at c.args.rest.now c.value-item.result c.value-item.is c.in-len1.len_at_least c.in-len1.len_below
    ∙ ap (option_and_then (entries_at start_at None)) (sym c.in-Some.ensures) in
    IfOk-weaker c.read_entries.result _ _ (λ s read. read ∙ sym one) c.read_entries.ensures

pub returns-in-None : goal.returns-in-None
returns-in-None g c =
    let start_at = g.O.Start.SpelledStart.start_at in
    sym (one_value view start_at c.args.rest.now c.value-item.result c.value-item.is c.in-len1.len_at_least c.in-len1.len_below
    ∙ ap (option_and_then (entries_at start_at None)) (sym c.in-None.ensures))

pub returns-in-empty : goal.returns-in-empty
returns-in-empty g c =
    ap (λ t. Some t) c.new.ensures ∙ sym (no_value view g.O.Start.SpelledStart.start_at c.args.rest.now c.in-empty.len_below)

pub returns-in_default : goal.returns-in_default
returns-in_default g c = sym (more_values view g.O.Start.SpelledStart.start_at c.args.rest.now c.in_default.len_at_least)

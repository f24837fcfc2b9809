use Rattle.std.proofs.Common.{map, sym, ap, ◌∙◌}
use Rattle.std.specs.Prelude.{option_and_then, option_map}
use Rattle.serde_json.specs.View.{view}
use Rattle.json_histories.specs.Spelling.{word_rest}
use Rattle.json_histories.proofs.ReadForms.{worded-read}
use Rattle.json_histories.proofs.words.word_and_rest.Goals as goal

pub returns-clause-read : goal.returns-clause-read
returns-clause-read c =
    worded-read view (view c.args.value.now) c.in_ok-elements_of.field-0.now c.in_ok-elements_of.ensures c.in_ok-word.word.now c.in_ok-word.rest.now c.in_ok-as_str.field-0.now
    c.in_ok-word.ensures.cases.0 c.in_ok-as_str.ensures

pub returns-clause-parts : goal.returns-clause-parts
returns-clause-parts c =
    ap (option_map (λ word. (word, map view c.in_ok-word.rest.now))) c.in_ok-as_str.ensures
    ∙ sym (ap (λ values. word_rest (map view values)) c.in_ok-word.ensures.cases.0)
    ∙ ap (option_and_then word_rest) c.in_ok-elements_of.ensures

use Rattle.std.proofs.Common.{refl, sym, ap, ◌∙◌}
use Rattle.std.specs.Prelude.{option_and_then}
use Rattle.serde_json.specs.View.{view}
use Rattle.json_histories.specs.Spelling.{word_key_rest}
use Rattle.json_histories.proofs.KeyedParts.{few_values, word_and_key}
use Rattle.json_histories.proofs.keys.keyed_parts.Goals as goal

pub returns-in_default : goal.returns-in_default
returns-in_default c =
    let values = c.in_ok-elements_of.field-0.now in
    sym (few_values view values c.in_default.len_below) ∙ ap (option_and_then word_key_rest) c.in_ok-elements_of.ensures

pub returns-in_ok-key_of-in-len2-up : goal.returns-in_ok-key_of-in-len2-up
returns-in_ok-key_of-in-len2-up c =
    let values = c.in_ok-elements_of.field-0.now in
    let parts = word_and_key view values c.word-item.result c.key-item.result c.word-item.is c.key-item.is c.in-len2-up.len_at_least in
    sym (parts ∙ rw (sym c.in_ok-as_str-in-len2-up.ensures, sym c.in_ok-key_of-in-len2-up.ensures) refl)
    ∙ ap (option_and_then word_key_rest) c.in_ok-elements_of.ensures

use Rattle.std.proofs.Common.{◌≡◌, ◌≤◌, Some, false, subst, sym, ap, ◌∙◌}
use Rattle.std.proofs.lemmas.Result.{IfOk-weaker}
use Rattle.std.proofs.lemmas.Str.{IsUtf8-string_bytes}
use Rattle.serde_json.specs.Data.{depth}
use Rattle.serde_json.specs.Read.{max_depth}
use Rattle.serde_json.specs.View.{view}
use Rattle.serde_json.specs.Written.{has_float, compact_text}
use Rattle.json_histories.proofs.AnyForms.{any_form_has_no_float}
use Rattle.json_histories.proofs.FormDepth.{any_form_depth}
use Rattle.json_histories.proofs.reader.write_history.Goals as goal

pub returns-clause-text : goal.returns-clause-text
returns-clause-text c =
    let none : has_float (view c.in_ok-value_of.field-0) ≡ false = ap has_float c.in_ok-value_of.ensures.form ∙ any_form_has_no_float c.args.history.now in
    IfOk-weaker c.to_string.result _ _ (λ s text. text none ∙ ap compact_text c.in_ok-value_of.ensures.form) c.to_string.ensures.text

pub returns-clause-json : goal.returns-clause-json
returns-clause-json c =
    let nests : depth (view c.in_ok-value_of.field-0) ≤ max_depth =
    subst (λ d. depth d ≤ max_depth) (sym c.in_ok-value_of.ensures.form) (any_form_depth c.args.history.now) in
    IfOk-weaker c.to_string.result _ _ (λ s reads. (IsUtf8-string_bytes s, reads nests ∙ ap (λ d. Some d) c.in_ok-value_of.ensures.form)) c.to_string.ensures.reads_back

use Rattle.std.proofs.Common.{◌≡◌, ◌++◌, codes, false, ap, ◌∙◌}
use Rattle.std.proofs.lemmas.Result.{IfOk-weaker}
use Rattle.serde_json.specs.View.{view}
use Rattle.serde_json.specs.Written.{has_float, compact_text}
use Rattle.json_histories.proofs.AnyForms.{form_has_no_float}
use Rattle.live_script.proofs.lines.history_line.Goals as goal

pub returns : goal.returns
returns g c =
    let h = c.args.history.now in
    let none : has_float (view c.in_ok-value.value) ≡ false =
    ap has_float c.in_ok-value.ensures.form
    ∙ form_has_no_float g.O.Named.name g.O.Named.operation_form h.1 (g.O.Named.start_form h.0) g.met.O.Named.operation_has_no_float (g.met.O.Named.start_has_no_float h.0) in
    IfOk-weaker c.value_line-line.result _ _ (λ s text. text none ∙ ap (λ d. compact_text d ++ codes "\n") c.in_ok-value.ensures.form) c.value_line-line.ensures

use Rattle.std.proofs.lemmas.Result.{IfOk-weaker}
use Rattle.std.proofs.Common.{◌∙◌, ap}
use Rattle.std.specs.Prelude.{string_bytes}
use Rattle.app_engine.proofs.SealedTexts.{true_text}
use Rattle.app_engine.proofs.driving.text_of_seal.Goals as goal

pub returns : goal.returns
returns g c =
    let any = g.O.Drivable.any in
    let input = c.args.input.now in
    let history = c.args.sealed.now.history in
    IfOk-weaker c.text_of_report-text.result _ _
    (λ text reported. true_text (any input) (any history) c.in_ok-history.history (string_bytes text) (c.in_ok-history.ensures ∙ ap any c.history.ensures)
    (g.met.O.Drivable.sealed_from input history c.requires.sealed) reported)
    c.text_of_report-text.ensures

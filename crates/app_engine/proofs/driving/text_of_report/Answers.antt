use Rattle.std.specs.Prelude.{string_bytes}
use Rattle.app_engine.proofs.SealedTexts.{reported_text}
use Rattle.app_engine.proofs.driving.text_of_report.Goals as goal

pub returns : goal.returns
returns g c =
    reported_text c.args.history.now c.in_ok-report.report (string_bytes c.in_ok-form.form) (string_bytes c.in_ok-lines.lines) (string_bytes c.in_ok-format.field-0)
    c.in_ok-form.ensures.is_history c.in_ok-report.ensures c.in_ok-form.ensures.text c.in_ok-lines.ensures c.in_ok-format.ensures.ok

use Rattle.std.proofs.Common.{◌∙◌, ap}
use Rattle.std.specs.Prelude.{string_bytes}
use Rattle.std.proofs.lemmas.Result.{IfOk-weaker}
use Rattle.app_explanations.specs.Report.{line_for}
use Rattle.app_explanations.proofs.CoreLines.{tells}
use Rattle.app_explanations.proofs.finding_text.text_with_lines.Goals as goal

pub returns : goal.returns
returns c = λ long history true_of.
    IfOk-weaker c.format.result _ _
    (λ text same. tells long history c.args.criterion c.args.finding.now (string_bytes c.in_ok-line.line) (string_bytes c.in_ok-words.words)
    (string_bytes c.in_ok-core.core) (string_bytes c.in_ok-after.after) (string_bytes text)
    (c.in_ok-line.ensures ∙ ap (line_for c.args.criterion) c.answer.ensures) (c.in_ok-words.ensures long history c.args.criterion)
    (c.in_ok-core.ensures long history c.args.criterion true_of) (c.in_ok-after.ensures long history c.args.criterion) same) c.format.ensures.ok

use Rattle.std.proofs.Common.{◌∙◌}
use Rattle.std.proofs.lemmas.Result.{IfOk-weaker}
use Rattle.live_script.proofs.ReplyTexts.{other_line}
use Rattle.live_script.proofs.lines.reply_line.Goals as goal

pub returns-in_default : goal.returns-in_default
returns-in_default g c =
    IfOk-weaker c.other_line.result _ _
    (λ text is. is ∙ other_line g.O.Named.name g.O.Named.operation_form g.O.Named.start_form c.args.reply.now c.in_default.not-Sealed) c.other_line.ensures

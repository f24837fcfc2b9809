use Rattle.std.proofs.Common.{ap, string_bytes}
use Rattle.app_engine.proofs.LineAnswerLaws.{lines_answered}
use Rattle.app_engine.proofs.line_judge.judge_each.Goals as goal

pub returns-in-Ok-Ok-clause-output : goal.returns-in-Ok-Ok-clause-output
returns-in-Ok-Ok-clause-output g c = (
  c.in-Ok-Ok.outcome,
  lines_answered c.args.judging c.args.input.now c.new.result.items c.answer_lines-text.result.1.items (string_bytes c.in-Ok-Ok.text) c.in-Ok-Ok.outcome
      c.new.ensures.items (ap (λ v. v.items) c.in-Ok-Ok.ensures.ok) (rw c.in-Ok-Ok.is-0 at c.answer_lines-text.ensures.answered),
)

pub returns-in-Ok-Ok-clause-outcome : goal.returns-in-Ok-Ok-clause-outcome
returns-in-Ok-Ok-clause-outcome g c =
    lines_answered c.args.judging c.args.input.now c.new.result.items c.answer_lines-text.result.1.items (string_bytes c.in-Ok-Ok.text) c.in-Ok-Ok.outcome
    c.new.ensures.items (ap (λ v. v.items) c.in-Ok-Ok.ensures.ok) (rw c.in-Ok-Ok.is-0 at c.answer_lines-text.ensures.answered)

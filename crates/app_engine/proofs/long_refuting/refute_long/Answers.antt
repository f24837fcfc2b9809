use Rattle.std.proofs.Common.{ap, ◌∙◌}
use Rattle.std.specs.Prelude.{IsTrue}
use Rattle.live_case_board.specs.declared.answer.Answer.TheVariants.{No}
use Rattle.app_orders.specs.declared.length.Length.TheVariants.{Any}
use Rattle.json_histories.specs.declared.any_history.AnyHistory.TheVariants as histories
use Rattle.app_engine.specs.Refuting.{claim_form}
use Rattle.app_explanations.specs.Report.{line_for}
use Rattle.app_engine.proofs.Claims.{claim_not_shown}
use Rattle.app_engine.proofs.long_refuting.refute_long.Goals as goal

pub returns-in_ok-report_line-clause-output : goal.returns-in_ok-report_line-clause-output
returns-in_ok-report_line-clause-output c =
    let claim = c.in_ok-claim.claim in
    let tested = c.in_ok-is_shown.ensures in
    record {
      history = histories.Memory claim.history;
      criterion = claim.criterion;
      pattern = claim.pattern;
      is_history = c.in_ok-claim.ensures.history;
      read = c.in_ok-claim.ensures.read;
      shown = tested.exact.0 c.if-branch.true;
      excluded = tested.true_no c.if-branch.true;
      line = c.in_ok-report_line.ensures ∙ ap (λ kind. line_for claim.criterion (No kind)) c.kind.ensures;
    }

pub returns-else-branch-clause-error : goal.returns-else-branch-clause-error
returns-else-branch-clause-error c =
    let claim = c.in_ok-claim.claim in (
      claim_form (histories.Memory claim.history) claim.criterion claim.pattern,
      c.in_ok-claim.ensures.read,
      claim_not_shown Any (histories.Memory claim.history) claim.criterion claim.pattern c.in_ok-claim.ensures.history
          (λ shown. let yes : IsTrue c.in_ok-is_shown.field-0 = c.in_ok-is_shown.ensures.exact.1 shown in let no = c.if-branch.false in absurd cc),
    )

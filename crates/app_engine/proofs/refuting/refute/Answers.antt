use Rattle.std.specs.Prelude.{IsTrue}
use Rattle.app_orders.specs.declared.length.Length.TheVariants.{Limited}
use Rattle.app_engine.specs.Refuting.{claim_form}
use Rattle.app_engine.proofs.Claims.{claim_not_shown}
use Rattle.app_engine.proofs.refuting.refute.Goals as goal

pub returns-else-branch-clause-error : goal.returns-else-branch-clause-error
returns-else-branch-clause-error c =
    let claim = c.in_ok-claim.claim in (
      claim_form claim.history claim.criterion claim.pattern,
      c.in_ok-claim.ensures.read,
      claim_not_shown Limited claim.history claim.criterion claim.pattern c.in_ok-claim.ensures.history
          (λ shown. let yes : IsTrue c.in_ok-is_shown.field-0 = c.in_ok-is_shown.ensures.exact.1 shown in let no = c.if-branch.false in absurd cc),
    )

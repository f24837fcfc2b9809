use Rattle.app_engine.proofs.LongClaims.{no_criterion, no_pattern}
use Rattle.app_engine.proofs.long_refuting.claim_of.Goals as goal

pub returns-in_default-clause-error : goal.returns-in_default-clause-error
returns-in_default-clause-error c =
    let history = c.in_ok-history.ensures in
    let none = rw c.in_default.is at c.requires.is_criterion in
    no_criterion c.args.input.now c.args.violation c.requires c.in_ok-history.history history.is_history history.begins none

pub returns-in_default-pattern-clause-error : goal.returns-in_default-pattern-clause-error
returns-in_default-pattern-clause-error c =
    let history = c.in_ok-history.ensures in
    let none = rw c.in_default-pattern.is at c.requires.is_pattern in
    no_pattern c.args.input.now c.args.violation c.requires c.in_ok-history.history history.is_history history.begins none

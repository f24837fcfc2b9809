use Rattle.app_judging.proofs.DecidedLaws.{at-none, free-met, none-free}
use Rattle.app_judging.proofs.by_sources.find.Goals as goal

pub returns-in-None-clause-decided : goal.returns-in-None-clause-decided
returns-in-None-clause-decided c = λ decided.
    let h = c.args.h.now in
    let criterion = c.args.criterion in
    free-met h c.value_is_history.ensures criterion decided
    (none-free h criterion decided
    (λ apart. at-none c.in_ok-pattern.field-0 c.in-None.is (c.in_ok-pattern.ensures.exact apart))
    (λ memory. at-none c.in_ok-pattern.field-0 c.in-None.is (c.in_ok-pattern.ensures.happened_before memory)))

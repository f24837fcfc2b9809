use Rattle.std.proofs.Common.{Option, IfSome, subst}
use Rattle.order_memory.specs.Memory.{MemoryHistory}
use Rattle.json_histories.specs.AnyForm.{form_of, IsAnyHistory, IsJson}
use Rattle.json_histories.specs.declared.any_history.AnyHistory.TheVariants as histories
use Rattle.app_engine.proofs.Reported.{reported_known}
use Rattle.app_engine.proofs.expecting.report_decided_on.Goals as goal

pub returns-in_ok-known-in-Some-clause-report : goal.returns-in_ok-known-in-Some-clause-report
returns-in_ok-known-in-Some-clause-report c =
    let input = c.args.input.now in
    let known = c.in_ok-known-in-Some in
    reported_known input (histories.Memory c.in-Some.history) known.field-0
    (subst (λ (o : Option MemoryHistory). IfSome o (λ h. IsAnyHistory (histories.Memory h))) c.in-Some.is c.in_ok-history.ensures.is_history)
    (subst (λ (o : Option MemoryHistory). IfSome o (λ h. IsJson input (form_of (histories.Memory h)))) c.in-Some.is c.in_ok-history.ensures.form)
    known.ensures

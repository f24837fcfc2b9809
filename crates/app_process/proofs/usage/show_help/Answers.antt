-- Help could not be written, as the writer failed.
use Rattle.std.proofs.Common.{List, Option, ap, inr, subst, ℕ}
use Rattle.std.specs.Option.{option_copied}
use Rattle.app_engine.specs.declared.failure.RunError.TheVariants as failures
use Rattle.app_process.specs.Failing.{Tells}
use Rattle.app_process.proofs.FaultLaws.{fails_to_take}
use Rattle.app_process.proofs.usage.show_help.Goals as goal

pub returns : goal.returns
returns g c =
    let P : Option (List ℕ) → Type 0 = λ label. Tells label failures.WriteFault (g.E.Say.said c.args.errors.now) (g.E.Say.said c.report.new.errors) c.report.result in
    inr (fails_to_take g.W.Sink.called _ _ c.in-Err.ensures.fault, subst P (ap option_copied c.plain.ensures) c.report.ensures)

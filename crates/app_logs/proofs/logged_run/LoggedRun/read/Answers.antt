-- The run of a log that was read is that of its bytes.
use Rattle.std.proofs.Common.{Bool, IfSome, subst, sym}
use Rattle.std.proofs.lemmas.Result.{err_from_is_err_and}
use Rattle.log_reader.specs.Logs.{IsLogOf, Log}
use Rattle.app_logs.proofs.CallLaws.{whole_end, whole_error}
use Rattle.app_logs.proofs.logged_run.LoggedRun.read.Goals as goal

pub returns-clause-whole : goal.returns-clause-whole
returns-clause-whole g c =
    let before = g.R.Source.remaining c.args.source.now in
    let whole = c.in_ok-whole.whole in
    let run = c.in_ok-run.run' in
    subst (λ (t : Bool). IfSome before (λ bytes. IsLogOf bytes run.log t)) (sym c.in_ok-run.ensures.torn)
    (subst (λ (l : Log). IfSome before (λ bytes. IsLogOf bytes l whole.torn)) (sym c.in_ok-run.ensures.log) c.in_ok-whole.ensures.whole)

pub returns-clause-end : goal.returns-clause-end
returns-clause-end g c = c.in_ok-whole.ensures.end

pub returns-clause-calls : goal.returns-clause-calls
returns-clause-calls g c = c.in_ok-whole.ensures.calls

pub returns-in_err-whole-clause-calls : goal.returns-in_err-whole-clause-calls
returns-in_err-whole-clause-calls g c =
    let p = err_from_is_err_and c.from_residual.result c.from_residual.ensures.1 in
    whole_error g.R.Source.called c.from_residual.result p.0 c.in_err-whole.field-0.0 _ _ p.1 p.2 c.in_err-whole.ensures.calls

pub returns-in_err-run-clause-calls : goal.returns-in_err-run-clause-calls
returns-in_err-run-clause-calls g c =
    let p = err_from_is_err_and c.from_residual-in_err-run.result c.from_residual-in_err-run.ensures.1 in
    whole_end g.R.Source.called c.from_residual-in_err-run.result p.0 _ _ p.1 p.2 c.in_ok-whole.ensures.calls

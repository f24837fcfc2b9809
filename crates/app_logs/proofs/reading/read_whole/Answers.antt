-- A reader that has read nothing reads the whole text, and its fault is one of the whole text.
use Rattle.std.proofs.Common.{[], Ok, subst}
use Rattle.std.proofs.lemmas.Result.{err_from_is_err_and}
use Rattle.log_reader.specs.LogCalls.{ReadsLogBy}
use Rattle.log_reader.specs.declared.progress.Progress.{Progress}
use Rattle.app_logs.proofs.CallLaws.{lines_on, no_write_fault, whole_fault}
use Rattle.app_logs.proofs.Faults.{first-fault}
use Rattle.app_logs.proofs.reading.read_whole.Goals as goal

pub returns-in_err-torn-clause-error : goal.returns-in_err-torn-clause-error
returns-in_err-torn-clause-error g c =
    let p = err_from_is_err_and c.from_residual.result c.from_residual.ensures.1 in
    rw (p.1, p.2)
    (first-fault _ (g.R.Source.remaining c.args.source.now) c.args.reader.now c.in_err-torn.field-0.0 c.requires c.in_err-torn.ensures.fault)

pub returns-in_err-torn-clause-unwritten : goal.returns-in_err-torn-clause-unwritten
returns-in_err-torn-clause-unwritten g c =
    let p = err_from_is_err_and c.from_residual.result c.from_residual.ensures.1 in
    rw (p.1, p.2) (no_write_fault c.in_err-torn.field-0.0)

pub returns-in_err-torn-clause-calls : goal.returns-in_err-torn-clause-calls
returns-in_err-torn-clause-calls g c =
    let p = err_from_is_err_and c.from_residual.result c.from_residual.ensures.1 in
    let (lines, counted, by) = c.in_err-torn.ensures.calls in
    whole_fault g.R.Source.called c.from_residual.result p.0 lines c.in_err-torn.field-0.0 _ _ p.1 p.2 by

pub returns-in-End-clause-whole : goal.returns-in-End-clause-whole
returns-in-End-clause-whole g c =
    let read = rw c.in-End.is at c.in_ok-torn.ensures.read in
    read.log [] c.requires

pub returns-in-End-clause-calls : goal.returns-in-End-clause-calls
returns-in-End-clause-calls g c =
    let (lines, counted, by) = c.in_ok-torn.ensures.calls in
    (lines, subst (λ (p : Progress). ReadsLogBy g.R.Source.called lines (Ok p) c.args.source.now c.read.new.source) c.in-End.is by)

pub returns-in-More-clause-calls : goal.returns-in-More-clause-calls
returns-in-More-clause-calls g c =
    let (lines, counted, by) = c.in_ok-torn.ensures.calls in
    lines_on g.R.Source.called _ _
    (lines, subst (λ (p : Progress). ReadsLogBy g.R.Source.called lines (Ok p) c.args.source.now c.read.new.source) c.in-More.is by)

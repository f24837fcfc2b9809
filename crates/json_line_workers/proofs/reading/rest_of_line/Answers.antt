use Rattle.std.proofs.Common.{◌≡◌, ◌+◌, refl, rules}
use Rattle.std.proofs.lemmas.Result.{err_from_is_err_and}
use Rattle.json_line_workers.proofs.CallLaws.{fault_last}
use Rattle.json_line_workers.proofs.NextLaws.{next-passed}
use Rattle.json_line_workers.proofs.reading.rest_of_line.Goals as goal

pub returns-clause-next : goal.returns-clause-next
returns-clause-next g c =
    let at : c.in-Some.at ≡ c.args.held.now.at.at + c.in_ok-count.count = search rules in
    next-passed g.J.Job.input c.args.most c.args.held.now _ (g.R.Source.remaining c.args.reader.now) (g.R.Source.remaining c.pass_over.new.reader) _ c.in_ok-count.count
    c.requires.reading c.requires.inside at refl refl c.new.ensures.items c.in_ok-count.ensures.passed c.in_ok-count.ensures.cut

pub returns-in_err-count-clause-calls : goal.returns-in_err-count-clause-calls
returns-in_err-count-clause-calls g c =
    let p = err_from_is_err_and c.from_residual.result c.from_residual.ensures.1 in
    rw (p.1, p.2) c.in_err-count.ensures.calls

pub returns-in_default-clause-calls : goal.returns-in_default-clause-calls
returns-in_default-clause-calls g c = fault_last g.R.Source.called c.in_ok-count.last _ _ c.in_ok-count.ensures.calls

-- A log is read by the calls of its reader.
use Rattle.std.proofs.Common.{subst}
use Rattle.std.specs.Prelude.{Result}
use Rattle.std.proofs.lemmas.Result.{err_from_is_err_and}
use Rattle.json_lines.proofs.TakingLaws.{further_none}
use Rattle.app_logs.specs.ReadCalls.{ReadsWholeBy}
use Rattle.app_logs.proofs.CallLaws.{none_made, whole_memory}
use Rattle.app_logs.proofs.reading.read_log.Goals as goal

pub returns-in_err-reader-clause-calls : goal.returns-in_err-reader-clause-calls
returns-in_err-reader-clause-calls g c =
    let p = err_from_is_err_and c.from_residual.result c.from_residual.ensures.1 in
    whole_memory g.R.Source.called c.from_residual.result p.0 _ _ p.1 p.2 (none_made g.R.Source.called c.args.source.now)

pub returns-in_err-reader-clause-read_on : goal.returns-in_err-reader-clause-read_on
returns-in_err-reader-clause-read_on g c = further_none (g.R.Source.remaining c.args.source.now)

pub returns-in-Ok-clause-calls : goal.returns-in-Ok-clause-calls
returns-in-Ok-clause-calls g c =
    subst (λ (r : Result _ _). ReadsWholeBy g.R.Source.called r c.args.source.now c.read_whole-read.new.source) c.in-Ok.is
    c.read_whole-read.ensures.calls

pub returns-in-Err-clause-calls : goal.returns-in-Err-clause-calls
returns-in-Err-clause-calls g c =
    subst (λ (r : Result _ _). ReadsWholeBy g.R.Source.called r c.args.source.now c.read_whole-read.new.source) c.in-Err.is
    c.read_whole-read.ensures.calls

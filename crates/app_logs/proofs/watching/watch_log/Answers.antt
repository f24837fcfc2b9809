-- A log of which nothing was read was judged at no cut; what is known of a late write says nothing of the lines.
use Rattle.std.specs.Prelude.{Result, IfOk, OnOk}
use Rattle.std.proofs.Common.{◌∙◌, inl, refl, subst, sym}
use Rattle.std.proofs.lemmas.Result.{err_from_is_err_and}
use Rattle.json_lines.specs.WriteCalls.{PassesOn}
use Rattle.json_lines.proofs.TakingLaws.{further_none}
use Rattle.app_logs.specs.LogAnswers.{WatchesLog}
use Rattle.app_logs.specs.ReadCalls.{WatchesBy}
use Rattle.app_logs.proofs.CallLaws.{no_line, watch_memory, watch_same}
use Rattle.app_logs.proofs.Watched.{no-cuts, watched-with}
use Rattle.app_logs.proofs.watching.watch_log.Goals as goal

pub returns-in_err-reader-clause-first_cuts : goal.returns-in_err-reader-clause-first_cuts
returns-in_err-reader-clause-first_cuts g c =
    let p = err_from_is_err_and c.from_residual.result c.from_residual.ensures.1 in
    rw p.1
    (λ other. no-cuts c.args.watch.now.every c.args.watch.now.expected (g.R.Source.remaining c.args.source.now) (g.W.Sink.contents c.args.writer.now))

pub returns-in-Ok-clause-watched : goal.returns-in-Ok-clause-watched
returns-in-Ok-clause-watched g c =
    watched-with c.args.watch.now.every c.args.watch.now.expected (g.R.Source.remaining c.args.source.now) (g.W.Sink.contents c.args.writer.now)
    (g.R.Source.remaining c.watch_from-watched.new.source) (g.W.Sink.contents c.watch_from-watched.new.writer) c.in-Ok.followed
    c.late_write-late.result c.is_in_time-says_order.result
    (subst (λ (r : Result _ _). IfOk r (WatchesLog c.args.watch.now.every c.args.watch.now.expected (g.R.Source.remaining c.args.source.now)
    (g.R.Source.remaining c.watch_from-watched.new.source) (g.W.Sink.contents c.args.writer.now) (g.W.Sink.contents c.watch_from-watched.new.writer)))
    c.in-Ok.is c.watch_from-watched.ensures.watched)

-- ---- memory ran out before anything was read

pub returns-in_err-reader-clause-begun : goal.returns-in_err-reader-clause-begun
returns-in_err-reader-clause-begun g c = λ is.
    let p = err_from_is_err_and c.from_residual.result c.from_residual.ensures.1 in absurd (cc (is, p.1, p.2))

pub returns-in_err-reader-clause-read_on : goal.returns-in_err-reader-clause-read_on
returns-in_err-reader-clause-read_on g c = further_none (g.R.Source.remaining c.args.source.now)

pub returns-in_err-reader-clause-calls : goal.returns-in_err-reader-clause-calls
returns-in_err-reader-clause-calls g c =
    let p = err_from_is_err_and c.from_residual.result c.from_residual.ensures.1 in
    watch_memory g.R.Source.called c.args.watch.now.rest c.from_residual.result p.0 _ _ p.1 p.2 (no_line g.R.Source.called c.args.source.now)

pub returns-in_err-reader-clause-unfailed : goal.returns-in_err-reader-clause-unfailed
returns-in_err-reader-clause-unfailed g c = λ other. inl refl

pub returns-in_err-reader-clause-write_fault : goal.returns-in_err-reader-clause-write_fault
returns-in_err-reader-clause-write_fault g c = λ is.
    let p = err_from_is_err_and c.from_residual.result c.from_residual.ensures.1 in absurd (cc (is, p.1, p.2))

-- ---- the log was judged

pub returns-in-Ok-clause-calls : goal.returns-in-Ok-clause-calls
returns-in-Ok-clause-calls g c =
    watch_same g.R.Source.called c.args.watch.now.rest c.in-Ok.followed _ _ _
    (subst (λ (r : Result _ _). WatchesBy g.R.Source.called c.args.watch.now.rest r c.args.source.now c.watch_from-watched.new.source) c.in-Ok.is
    c.watch_from-watched.ensures.calls)

pub returns-in-Ok-clause-passed_on : goal.returns-in-Ok-clause-passed_on
returns-in-Ok-clause-passed_on g c =
    subst (λ (r : Result _ _). OnOk r (PassesOn g.W.Sink.called c.args.writer.now c.watch_from-watched.new.writer)) c.in-Ok.is
    c.watch_from-watched.ensures.passed_on

pub returns-in-Ok-clause-unfailed : goal.returns-in-Ok-clause-unfailed
returns-in-Ok-clause-unfailed g c = λ other. c.watch_from-watched.ensures.unfailed (λ fault. absurd (cc (fault, c.in-Ok.is)))

-- ---- it was not

pub returns-in-Err-clause-begun : goal.returns-in-Err-clause-begun
returns-in-Err-clause-begun g c = λ is. c.watch_from-watched.ensures.begun (c.in-Err.is ∙ is)

pub returns-in-Err-clause-calls : goal.returns-in-Err-clause-calls
returns-in-Err-clause-calls g c =
    subst (λ (r : Result _ _). WatchesBy g.R.Source.called c.args.watch.now.rest r c.args.source.now c.watch_from-watched.new.source) c.in-Err.is
    c.watch_from-watched.ensures.calls

pub returns-in-Err-clause-unfailed : goal.returns-in-Err-clause-unfailed
returns-in-Err-clause-unfailed g c = λ other. c.watch_from-watched.ensures.unfailed (λ fault. other (sym c.in-Err.is ∙ fault))

pub returns-in-Err-clause-write_fault : goal.returns-in-Err-clause-write_fault
returns-in-Err-clause-write_fault g c = λ is. c.watch_from-watched.ensures.write_fault (c.in-Err.is ∙ is)

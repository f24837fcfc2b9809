-- The log that is followed is that of the reader.
use Rattle.std.specs.Prelude.{Err, Result, refl}
use Rattle.std.proofs.Common.{Option, ℕ, List, ap, subst}
use Rattle.std.specs.Option.{option_copied}
use Rattle.app_logs.specs.declared.failure.LogError.{LogError}
use Rattle.app_logs.specs.declared.following.Followed.{Followed}
use Rattle.app_process.specs.Endings.{EndsLog}
use Rattle.app_process.specs.Faults.{Blames, MayFailOnLog, ReadingFails, WritingFails}
use Rattle.app_process.proofs.FaultLaws.{fails_to_take, inner_fails, log_finds_none, may_fail_on_log}
use Rattle.app_process.proofs.EndLaws.{answers_log, refuses_log}
use Rattle.app_process.proofs.log_process.status_of_log.Goals as goal

pub returns-in-Ok : goal.returns-in-Ok
returns-in-Ok g c =
    let P : Option (List ℕ) → Type 0 = λ reader. EndsLog (Blames (ReadingFails 0 g.R.Source.called) (WritingFails g.W.Sink.called)) (option_copied c.args.place.now.label) c.args.order c.args.manner.now reader
    (g.W.Sink.contents c.args.writer.now) (g.W.Sink.contents c.follow_log.new.writer) (g.E.Say.said c.args.errors.now)
    (g.E.Say.said c.status_counted.new.errors) c.status_counted.result in
    subst P (ap g.R.Source.remaining c.of-source.ensures)
    (answers_log _ c.args.order c.args.manner.now _ _ _ _ _ _ _ _ _ c.in-Ok.followed c.in-Ok.ensures.followed c.status.ensures.status
    c.say_of_log.ensures c.status_counted.ensures.status c.status_counted.ensures.said)

pub returns : goal.returns
returns g c =
    let failed : Result Followed LogError = Err c.in-Err.error in
    let blamed : MayFailOnLog (Blames (ReadingFails 0 g.R.Source.called) (WritingFails g.W.Sink.called)) c.in-Err.error =
    may_fail_on_log failed c.in-Err.error refl
    (λ e. inner_fails g.R.Source.called (λ s. s.reader) 0 (log_finds_none _ _ _ failed _ _ c.in-Err.ensures.calls e))
    (λ e. fails_to_take g.W.Sink.called c.args.writer.now c.follow_log.new.writer (c.in-Err.ensures.write_fault e)) in
    let P : Option (List ℕ) → Type 0 = λ reader. EndsLog (Blames (ReadingFails 0 g.R.Source.called) (WritingFails g.W.Sink.called)) (option_copied c.args.place.now.label) c.args.order c.args.manner.now reader
    (g.W.Sink.contents c.args.writer.now) (g.W.Sink.contents c.follow_log.new.writer) (g.E.Say.said c.args.errors.now)
    (g.E.Say.said c.report_error.new.errors) c.report_error.result in
    subst P (ap g.R.Source.remaining c.of-source.ensures)
    (refuses_log _ g.W.Sink.contents c.args.writer.now c.follow_log.new.writer c.args.order c.args.manner.now _ _ _ _ c.in-Err.error
    c.in-Err.ensures.error blamed c.in-Err.ensures.unwritten c.in-Err.ensures.first_cuts c.in-Err.ensures.refused c.report_error.ensures)

-- There is no page, as the reader or the writer failed, or for another reason.
use Rattle.std.specs.Prelude.{Err, Result, refl}
use Rattle.app_logs.specs.declared.following.Followed.{Followed}
use Rattle.app_pages.specs.declared.failure.PageError.{PageError}
use Rattle.app_process.specs.Faults.{Blames, MayFailOnPage, ReadingFails, WritingFails}
use Rattle.app_process.proofs.FaultLaws.{fails_to_take, finds_none, may_fail_on_page}
use Rattle.app_process.proofs.PageLaws.{refuses_log_page}
use Rattle.app_process.proofs.page_process.write_page_of_log.Goals as goal

pub returns : goal.returns
returns g c =
    let failed : Result Followed PageError = Err c.in-Err.error in
    let blamed : MayFailOnPage (Blames (ReadingFails 0 g.R.Source.called) (WritingFails g.W.Sink.called)) c.in-Err.error =
    may_fail_on_page failed c.in-Err.error refl
    (λ e. finds_none g.R.Source.called c.args.reader c.page_of_log.new.reader (c.in-Err.ensures.fault e))
    (λ e. fails_to_take g.W.Sink.called c.args.writer.now c.page_of_log.new.writer (c.in-Err.ensures.write_fault e)) in
    refuses_log_page _ _ c.args.most g.W.Sink.contents c.args.writer.now c.page_of_log.new.writer _ _ _ _ c.in-Err.error
    c.in-Err.ensures.failed blamed c.in-Err.ensures.unwritten c.report_page_error.ensures

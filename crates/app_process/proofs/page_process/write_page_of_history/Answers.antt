-- There is no page, as the reader or the writer failed, or for another reason.
use Rattle.std.specs.Prelude.{Err, Result, refl}
use Rattle.std.proofs.Common.{subst}
use Rattle.std.specs.Option.{option_copied}
use Rattle.show_refusals.specs.declared.refusal.InputForm.{InputForm}
use Rattle.app_engine.specs.declared.failure.RunError.{RunError}
use Rattle.app_process.specs.Failing.{Refuses, refusal_for}
use Rattle.app_process.specs.Faults.{Blames, MayFail, ReadingFails, WritingFails}
use Rattle.app_process.proofs.FaultLaws.{fails_to_take, finds_none_for, may_fail}
use Rattle.app_process.proofs.PageLaws.{refuses_input}
use Rattle.app_process.proofs.page_process.write_page_of_history.Goals as goal

pub returns : goal.returns
returns g c =
    let failed : Result Unit RunError = Err c.in-Err.error in
    let blamed : MayFail (Blames (ReadingFails 0 g.R.Source.called) (WritingFails g.W.Sink.called)) c.in-Err.error =
    may_fail failed c.in-Err.error refl
    (λ e. finds_none_for g.R.Source.called c.args.length c.args.reader c.page_of_input.new.reader (c.in-Err.ensures.fault e))
    (λ e. fails_to_take g.W.Sink.called c.args.writer.now c.page_of_input.new.writer (c.in-Err.ensures.write_fault e)) in
    let P : InputForm → Type 0 = λ form. Refuses (option_copied c.args.place.now.label) c.args.place.now.is_terminal c.args.detail
    (refusal_for form c.in-Err.error) c.in-Err.error (g.E.Say.said c.args.errors.now) (g.E.Say.said c.report_refused.new.errors) c.report_refused.result in
    refuses_input _ _ c.args.most g.W.Sink.contents c.args.writer.now c.page_of_input.new.writer c.args.length c.args.detail _ _ _ _ c.in-Err.error
    c.in-Err.ensures.failed blamed c.in-Err.ensures.unwritten (subst P c.history_form-form.ensures c.report_refused.ensures)

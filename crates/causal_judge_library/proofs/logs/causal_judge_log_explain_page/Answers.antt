use Rattle.causal_judge_library.proofs.Tellings.{tells_log_page}
use Rattle.causal_judge_library.proofs.logs.causal_judge_log_explain_page.Goals as goal

pub returns : goal.returns
returns c =
    let page = c.log_page_alone-page.ensures in
    tells_log_page c.args.input.now c.args.answer.now c.tell_log_page.new.answer c.tell_log_page.new.needed c.tell_log_page.result c.as_str.result.now
    c.log_page_alone-page.result page.within page.page page.failed c.tell_log_page.ensures

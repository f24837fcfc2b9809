use Rattle.std.proofs.Common.{◌∙◌}
use Rattle.std.proofs.lemmas.Result.{err_from_is_err_and}
use Rattle.judge_reader.proofs.LongForms.{json_form, only_history, only_memory, parts_are_history}
use Rattle.judge_reader.proofs.reader.read_long_in.Goals as goal

pub returns-in_err-start-clause-only : goal.returns-in_err-start-clause-only
returns-in_err-start-clause-only c = λ h is json.
    let p = err_from_is_err_and c.from_residual.result c.from_residual.ensures.1 in
    rw (p.1) (p.2 ∙ only_memory c.args.text.now h is json c.in_err-start.field-0.0 c.in_err-start.ensures.refused)

pub returns-in_err-start-clause-refused : goal.returns-in_err-start-clause-refused
returns-in_err-start-clause-refused c =
    let p = err_from_is_err_and c.from_residual.result c.from_residual.ensures.1 in
    rw (p.1, p.2) c.in_err-start.ensures.refused

pub of-requires : goal.of-requires
of-requires c =
    let found = c.in_ok-start.ensures.read in
    parts_are_history found.0 (c.in_ok-start.start, c.in_ok-start.sessions) found.2

pub returns-clause-form : goal.returns-clause-form
returns-clause-form c = json_form c.args.text.now (c.in_ok-start.start, c.in_ok-start.sessions) c.in_ok-of.field-0 c.in_ok-start.ensures.read c.in_ok-of.ensures.history

pub returns-clause-only : goal.returns-clause-only
returns-clause-only c = λ h is json. c.in_ok-of.ensures.history ∙ only_history c.args.text.now h is json (c.in_ok-start.start, c.in_ok-start.sessions) c.in_ok-start.ensures.read

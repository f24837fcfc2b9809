use Rattle.std.proofs.lemmas.Result.{err_from_is_err_and}
use Rattle.judge_reader.proofs.FirstForms.{begins_with, first_is_history}
use Rattle.judge_reader.proofs.first.read_long_first.Goals as goal

pub returns-in_err-start-clause-refused : goal.returns-in_err-start-clause-refused
returns-in_err-start-clause-refused c =
    let p = err_from_is_err_and c.from_residual.result c.from_residual.ensures.1 in
    rw (p.1, p.2) c.in_err-start.ensures.refused

pub of-requires : goal.of-requires
of-requires c = first_is_history c.args.text.now (c.in_ok-start.start, c.in_ok-start.sessions) c.in_ok-start.ensures.read

pub returns-clause-begins : goal.returns-clause-begins
returns-clause-begins c = begins_with c.args.text.now (c.in_ok-start.start, c.in_ok-start.sessions) c.in_ok-of.field-0 c.in_ok-start.ensures.read c.in_ok-of.ensures.history

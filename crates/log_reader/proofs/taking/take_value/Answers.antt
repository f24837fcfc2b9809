use Rattle.std.proofs.Common.{sym, subst}
use Rattle.std.proofs.lemmas.Result.{err_from_is_err_and}
use Rattle.serde_json.specs.View.{view}
use Rattle.log_reader.specs.BookSteps.{TakesValue}
use Rattle.log_reader.specs.Logs.{Log}
use Rattle.log_reader.specs.Steps.{said_view}
use Rattle.log_reader.proofs.TakeLaws.{on_any, value_refused}
use Rattle.log_reader.proofs.taking.take_value.Goals as goal

pub returns-in_err-take_said-in-Some-clause-fault : goal.returns-in_err-take_said-in-Some-clause-fault
returns-in_err-take_said-in-Some-clause-fault c =
    let p = err_from_is_err_and c.from_residual.result c.from_residual.ensures.1 in
    rw (p.1, p.2)
    (value_refused c.args.book.now (view c.args.value.now) (said_view c.in-Some.said) c.args.line c.in_err-take_said-in-Some.field-0.0 (sym c.in-Some.ensures)
    c.in_err-take_said-in-Some.ensures.fault)

pub returns-in_ok-take_said-in-Some-clause-added : goal.returns-in_ok-take_said-in-Some-clause-added
returns-in_ok-take_said-in-Some-clause-added c =
    on_any c.add_note.result _
    (subst (λ (l : Log). TakesValue c.args.line c.args.book.now (view c.args.value.now) l) (sym c.add_note.ensures.log)
    (said_view c.in-Some.said, sym c.in-Some.ensures, c.in_ok-take_said-in-Some.ensures.added))

use Rattle.std.specs.Prelude.{string_bytes}
use Rattle.json_histories.specs.declared.any_history.AnyHistory.TheVariants as histories
use Rattle.app_engine.proofs.LongOutputs.{explained_output}
use Rattle.app_engine.proofs.explaining.explain_long.Goals as goal

pub returns-clause-output : goal.returns-clause-output
returns-clause-output g c =
    let read = c.in_ok-history.ensures in
    explained_output c.args.input.now (histories.Memory c.in_ok-history.history) c.args.form (string_bytes c.in_ok-text.field-0) read.is_history read.form
    c.in_ok-text.ensures

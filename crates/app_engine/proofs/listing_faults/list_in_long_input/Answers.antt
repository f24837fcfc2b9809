use Rattle.std.specs.Prelude.{string_bytes}
use Rattle.app_orders.specs.declared.length.Length.TheVariants.{Any}
use Rattle.json_histories.specs.declared.any_history.AnyHistory.TheVariants as histories
use Rattle.app_engine.proofs.LongOutputs.{listed_output}
use Rattle.app_engine.proofs.listing_faults.list_in_long_input.Goals as goal

pub returns-clause-list : goal.returns-clause-list
returns-clause-list g c =
    let read = c.in_ok-history.ensures in
    listed_output c.args.input.now (histories.Memory c.in_ok-history.history) c.args.form Any c.args.most (string_bytes c.in_ok-text.field-0) read.is_history
    read.form c.in_ok-text.ensures

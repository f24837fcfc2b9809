use Rattle.std.specs.Prelude.{string_bytes}
use Rattle.app_orders.specs.declared.length.Length.TheVariants.{Limited}
use Rattle.app_engine.proofs.LongOutputs.{listed_output}
use Rattle.app_engine.proofs.listing_faults.list_in_limited_input.Goals as goal

pub returns-in_ok-list_in_limited-in-Ok-clause-list : goal.returns-in_ok-list_in_limited-in-Ok-clause-list
returns-in_ok-list_in_limited-in-Ok-clause-list g c =
    let read = c.in_ok-history.ensures in
    listed_output c.args.input.now c.in_ok-history.history c.args.form Limited c.args.most (string_bytes c.in_ok-list_in_limited-in-Ok.field-0) read.is_history read.form
    c.in_ok-list_in_limited-in-Ok.ensures

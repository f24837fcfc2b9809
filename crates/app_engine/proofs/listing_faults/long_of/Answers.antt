use Rattle.app_engine.proofs.LongOutputs.{read_again}
use Rattle.app_engine.proofs.listing_faults.long_of.Goals as goal

pub returns-in-Ok-clause-long : goal.returns-in-Ok-clause-long
returns-in-Ok-clause-long c =
    read_again c.args.input.now c.args.history.now c.in-Memory.field-0 c.in-Ok.long c.in-Memory.is c.requires.is_history c.requires.read
    c.in-Ok.ensures.only

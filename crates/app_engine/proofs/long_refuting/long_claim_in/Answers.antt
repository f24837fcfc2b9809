use Rattle.app_engine.proofs.LongClaims.{wrong_shape}
use Rattle.app_engine.proofs.long_refuting.long_claim_in.Goals as goal

pub returns-in-Ok-None-clause-error : goal.returns-in-Ok-None-clause-error
returns-in-Ok-None-clause-error c =
    let found = rw c.in-Ok-None.field-0-is at c.in-Ok-None.ensures.read in
    wrong_shape c.args.input.now found.0 found.1 found.2

use Rattle.pattern_json.proofs.Claims.{refused_shape}
use Rattle.pattern_json.proofs.claim.read_claim.Goals as goal

pub returns-in-Ok-None-clause-refused : goal.returns-in-Ok-None-clause-refused
returns-in-Ok-None-clause-refused c =
    let found = rw c.in-Ok-None.field-0-is at c.in-Ok-None.ensures.read in refused_shape c.args.text.now found.0 found.1 found.2

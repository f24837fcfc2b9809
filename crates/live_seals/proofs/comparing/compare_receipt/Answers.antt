use Rattle.std.proofs.Common.{◌<◌, subst}
use Rattle.live_seals.proofs.comparing.compare_receipt.Goals as goal

pub compare_told-requires-clause-shared : goal.compare_told-requires-clause-shared
compare_told-requires-clause-shared g c = λ x e. c.requires.1 c.loop-i.i x (subst (λ n. c.loop-i.i < n) c.len-i-end.ensures.operations c.loop-i-test.true) e

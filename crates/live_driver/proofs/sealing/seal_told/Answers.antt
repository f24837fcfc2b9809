use Rattle.std.proofs.Common.{subst, sym}
use Rattle.live_seals.specs.Seals.{AreReceiptsOf, HoldsAll}
use Rattle.live_driver.proofs.sealing.seal_told.Goals as goal

pub seal-requires-after_bounds : goal.seal-requires-after_bounds
seal-requires-after_bounds g c = λ κs bounds.
    subst (λ receipts. AreReceiptsOf c.args.run.now.lanes.now receipts) (sym c.deref.ensures.value) c.requires

pub returns-in-Ok-clause-holds : goal.returns-in-Ok-clause-holds
returns-in-Ok-clause-holds g c =
    subst (λ receipts. HoldsAll c.in-Ok.sealed.history receipts) c.deref.ensures.value c.in-Ok.ensures.holds

pub returns-in-Ok-clause-seal : goal.returns-in-Ok-clause-seal
returns-in-Ok-clause-seal g c = c.in-Ok.ensures.seal

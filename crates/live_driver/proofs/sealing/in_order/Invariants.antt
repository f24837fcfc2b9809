use Rattle.std.proofs.Common.{◌≡◌, length}
use Rattle.live_driver.specs.Clients.{AreSealsOf}
use Rattle.live_driver.proofs.sealing.in_order.Given as goal

abbrev pub invariant-loop-number : goal.invariant-loop-number
invariant-loop-number g l = record {
  many : length l.sealed.items ≡ l.number;
  seals : AreSealsOf l.run.lanes.now l.sealed.items;
  left : AreSealsOf l.run.lanes.now l.taken.items;
}

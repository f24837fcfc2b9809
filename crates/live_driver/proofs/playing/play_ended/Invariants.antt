use Rattle.live_driver.specs.Clients.{AreSealsOf, IsAt, IsLastReceipt}
use Rattle.live_driver.proofs.playing.play_ended.Given as goal

abbrev pub invariant-loop-at : goal.invariant-loop-at
invariant-loop-at g l = record {
  at : IsAt l.run.lanes.now l.run.input.now l.s l.at l.client.session l.client.replica;
  receipt : IsLastReceipt l.client.session l.receipt;
  seals : AreSealsOf l.run.lanes.now l.seals.items;
}

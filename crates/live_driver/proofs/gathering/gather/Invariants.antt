use Rattle.std.proofs.Common.{length}
use Rattle.std.specs.Prelude.{vec_len}
use Rattle.live_seals.specs.Seals.{AreReceiptsOf}
use Rattle.live_driver.specs.Clients.{AreAllPlayed, AreOfLanesFrom, AreRecorded, AreSealsOf}
use Rattle.live_driver.proofs.Gathered.{StandFrom}
use Rattle.live_driver.proofs.gathering.gather.Given as goal

abbrev pub invariant-loop-result : goal.invariant-loop-result
invariant-loop-result g l = record {
  recorded : AreRecorded l.run.lanes.now l.run.input.now l.sessions.items;
  lanes : AreOfLanesFrom (length l.results.items) l.run.input.now l.sessions.items;
  played : AreAllPlayed l.run.lanes.now l.run.plan.stop l.run.input.now l.results.items;
  told : AreReceiptsOf l.run.lanes.now l.receipts.items;
  calls : StandFrom l.run.lanes.now l.run.plan.stop l.run.input.now (length l.results.items) l.receipts.items;
  seals : AreSealsOf l.run.lanes.now l.seals.items;
}

abbrev pub decreases-loop-result : goal.decreases-loop-result
decreases-loop-result g l = vec_len l.results

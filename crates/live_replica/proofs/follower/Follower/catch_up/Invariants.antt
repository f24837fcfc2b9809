use Rattle.std.proofs.Common.{◌≡◌, ◌≤◌, length}
use Rattle.std.specs.Prelude.{Some}
use Rattle.live_replica.specs.Steps.Logs.{IsFollowing}
use Rattle.live_replica.proofs.follower.Follower.catch_up.Given as goal

-- the object has applied the updates so far
abbrev pub invariant-loop-at : goal.invariant-loop-at
invariant-loop-at g l = record {
  start : l.self.start ≡ l.fn.self.start;
  within : l.at ≤ length l.updates;
  applied : l.self.applied ≡ Some l.at;
  following : IsFollowing g.O.SeqObject.query g.O.SeqObject.stands l.self.object l.self.start l.updates l.self.applied l.self.checkpoints.items;
}

use Rattle.live_replica.proofs.Checkpoints.{following-keep}
use Rattle.live_replica.proofs.follower.Follower.keep.Goals as goal

pub returns-in_ok-push-clause-following : goal.returns-in_ok-push-clause-following
returns-in_ok-push-clause-following g c =
    rw c.in_ok-push.ensures.items
    (following-keep g.O.SeqObject.query g.O.SeqObject.stands c.args.self.now.start c.args.self.now.object c.args.updates.now c.args.self.now.applied c.args.self.now.checkpoints.items c.requires.following
    c.args.applied c.requires.applied c.in_ok-object.object c.in_ok-object.ensures)

pub overflow_sub-left : goal.overflow_sub-left
overflow_sub-left g c = (c.requires.following.taken c.args.applied c.requires.applied).within

pub returns-in_err-object-clause-following : goal.returns-in_err-object-clause-following
returns-in_err-object-clause-following g c = c.requires.following

pub returns-in_err-push-clause-following : goal.returns-in_err-push-clause-following
returns-in_err-push-clause-following g c = rw c.in_err-push.ensures.items c.requires.following

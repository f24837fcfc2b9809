use Rattle.live_replica.proofs.Checkpoints.{following-pop}
use Rattle.live_replica.proofs.follower.Follower.renew.Goals as goal

pub returns-in-Some-pop-clause-following : goal.returns-in-Some-pop-clause-following
returns-in-Some-pop-clause-following g c =
    following-pop g.O.SeqObject.query g.O.SeqObject.stands c.args.self.now.start c.args.self.now.object c.args.updates.now c.args.self.now.applied c.args.self.now.checkpoints.items c.requires.following
    c.pop.new.self.items c.in-Some-pop.field-0 c.in-Some-pop.ensures.items

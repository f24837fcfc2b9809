use Rattle.std.proofs.Common.{rules}
use Rattle.std.specs.Prelude.{nat_le}
use Rattle.std.proofs.lemmas.Fn.{filter_same}
use Rattle.live_replica.proofs.Checkpoints.{following-behind, following-displaced}
use Rattle.live_replica.proofs.follower.Follower.displace.Goals as goal

pub returns-then-applied-at-clause-following : goal.returns-then-applied-at-clause-following
returns-then-applied-at-clause-following g c = λ u.
    following-behind g.O.SeqObject.query g.O.SeqObject.stands c.args.self.now.start c.args.self.now.object c.args.updates.now c.args.self.now.applied c.args.self.now.checkpoints.items c.requires.following
    c.in-Some.applied c.args.at u c.in-Some.is c.if-applied-at.true c.requires.within

pub returns-clause-following : goal.returns-clause-following
returns-clause-following g c = λ u.
    following-displaced g.O.SeqObject.query g.O.SeqObject.stands c.args.self.now.start c.args.self.now.object c.args.updates.now c.args.self.now.applied c.args.self.now.checkpoints.items c.requires.following
    c.args.at u c.retain.new.self.items c.requires.within
    (filter_same _ (λ d. nat_le d.applied c.args.at) _ (λ d b f' k. search rules) c.args.self.now.checkpoints.items c.retain.new.self.items c.retain.ensures.filtered)

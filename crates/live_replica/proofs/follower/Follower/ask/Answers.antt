use Rattle.std.proofs.Common.{ap, length, ◌∙◌}
use Rattle.live_replica.proofs.Following.{answered}
use Rattle.live_replica.proofs.Checkpoints.{following-query}
use Rattle.live_replica.proofs.follower.Follower.ask.Goals as goal

pub returns-clause-following : goal.returns-clause-following
returns-clause-following g c =
    following-query g.O.SeqObject.query g.O.SeqObject.stands c.catch_up.new.self.start c.catch_up.new.self.object c.args.updates.now c.catch_up.new.self.applied c.catch_up.new.self.checkpoints.items c.catch_up.ensures.following
    c.apply.new.self c.args.call (c.in_ok-ret.ensures.takes_in c.catch_up.new.self.start) c.requires.query

pub returns-clause-reply : goal.returns-clause-reply
returns-clause-reply g c =
    λ cs same.
    answered g.O.SeqObject.query g.O.SeqObject.stands c.catch_up.new.self.object c.apply.new.self c.catch_up.new.self.start c.args.updates.now c.args.call (c.in_ok-ret.ensures.takes_in c.catch_up.new.self.start)
    g.O.SeqObject.answer g.met.O.SeqObject.query_changes_nothing (c.catch_up.ensures.following.taken (length c.args.updates.now) c.in_ok-catch_up.ensures.caught_up) c.in_ok-ret.ret (c.in_ok-ret.ensures.answers c.catch_up.new.self.start) cs same
    ∙ ap (λ s. g.O.SeqObject.answer s cs c.args.call) c.catch_up.ensures.start

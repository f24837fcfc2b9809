use Rattle.std.proofs.Common.{subst}
use Rattle.live_replica.specs.Replaying.{IsAnswer}
use Rattle.live_replica.specs.Updates.{calls}
use Rattle.live_replica.proofs.replica.Replica.act_within.Goals as goal

pub returns-clause-reply : goal.returns-clause-reply
returns-clause-reply g c =
    subst (λ (d : g.row.O-Call.Denot). IsAnswer g.O.SeqObject.query g.O.SeqObject.answer c.args.self.now.start (calls c.args.self.now.taken) d c.in_ok-ret-2.ret)
    c.own_update-update.ensures.called c.in_ok-ret-2.ensures.reply

pub returns-clause-state : goal.returns-clause-state
returns-clause-state g c = c.in_ok-ret-2.ensures.state

pub returns-then-is_query-clause-reply : goal.returns-then-is_query-clause-reply
returns-then-is_query-clause-reply g c = c.in_ok-ret.ensures.reply

pub returns-then-is_query-clause-state : goal.returns-then-is_query-clause-state
returns-then-is_query-clause-state g c = c.in_ok-ret.ensures.state

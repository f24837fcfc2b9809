use Rattle.std.proofs.Common.{◌≡◌, arith, ℕ, length, List, ap, subst, sym, ◌∙◌}
use Rattle.std.specs.Prelude.{◌<◌, insert, map}
use Rattle.live_replica.specs.declared.update.UpdateOf.{UpdateOf}
use Rattle.live_replica.specs.Steps.Logs.{IsFollowing, LogState}
use Rattle.live_replica.specs.Updates.{key}
use Rattle.live_replica.proofs.update_log.UpdateLog.take_in.Goals as goal

pub invariant_of-self : goal.invariant_of-self
invariant_of-self g c =
    let same : c.put.new.self.updates ≡ insert c.updates-2.result.now c.place_of-at.result c.args.update =
    c.put.ensures.updates ∙ ap (λ (us : List (UpdateOf g.row.O-Call.Denot)). insert us c.place_of-at.result c.args.update) (sym c.updates-2.ensures) in (
      subst g.O.SeqObject.is_start (sym c.displace.ensures.start) c.self.invariant.0,
      subst (λ (us : List (UpdateOf g.row.O-Call.Denot)). IsFollowing g.O.SeqObject.query g.O.SeqObject.stands c.displace.new.self.object c.displace.new.self.start us c.displace.new.self.applied c.displace.new.self.checkpoints.items)
          (sym same) (c.displace.ensures.following c.args.update),
    )

pub returns-clause-start : goal.returns-clause-start
returns-clause-start g c = c.displace.ensures.start ∙ ap (λ (l : LogState g.row.O-Start.Denot g.row.O-Call.Denot). l.start) c.self.view_is

pub returns-clause-room : goal.returns-clause-room
returns-clause-room g c = c.put.ensures.room ∙ ap (λ (l : LogState g.row.O-Start.Denot g.row.O-Call.Denot). l.room) c.self.view_is

pub returns-clause-updates : goal.returns-clause-updates
returns-clause-updates g c =
    let at = c.place_of-at.ensures.place ∙ ap (λ (us : List (UpdateOf g.row.O-Call.Denot)). g.P.UpdateOrder.place (map key us) (key c.args.update)) c.updates.ensures in
    c.put.ensures.updates ∙ (ap (λ (n : ℕ). insert c.self.inside.taken.updates n c.args.update) at
    ∙ ap (λ (l : LogState g.row.O-Start.Denot g.row.O-Call.Denot). insert l.updates (g.P.UpdateOrder.place (map key l.updates) (key c.args.update)) c.args.update) c.self.view_is)

pub put-requires-clause-room : goal.put-requires-clause-room
put-requires-clause-room g c = subst (λ (l : LogState g.row.O-Start.Denot g.row.O-Call.Denot). 0 < l.room) (sym c.self.view_is) c.requires.room

pub displace-requires-clause-following : goal.displace-requires-clause-following
displace-requires-clause-following g c = λ κs lives.
    subst (λ (us : List (UpdateOf g.row.O-Call.Denot)). IsFollowing g.O.SeqObject.query g.O.SeqObject.stands c.self.inside.follower.object c.self.inside.follower.start us c.self.inside.follower.applied c.self.inside.follower.checkpoints.items)
    (sym c.updates-2.ensures) c.self.invariant.1

pub displace-requires-clause-within : goal.displace-requires-clause-within
displace-requires-clause-within g c = λ κs lives.
    let first = ap length c.updates.ensures in
    let second = ap length c.updates-2.ensures in
    let within = c.place_of-at.ensures.within in
    omega (arith, first, second, within)

pub put-requires-clause-place : goal.put-requires-clause-place
put-requires-clause-place g c =
    let same = ap length c.updates.ensures in
    let within = c.place_of-at.ensures.within in
    omega (arith, same, within)

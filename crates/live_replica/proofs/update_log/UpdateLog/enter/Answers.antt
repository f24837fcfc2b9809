use Rattle.std.proofs.Common.{◌≡◌, arith, ◌∷◌, ◌++◌, ℕ, List, [], ap, length, refl, subst, sym, ◌∙◌}
use Rattle.std.specs.Prelude.{◌<◌, insert}
use Rattle.std.proofs.lemmas.List.Edits.{insert_end}
use Rattle.live_replica.specs.declared.update.UpdateOf.{UpdateOf}
use Rattle.live_replica.specs.Replaying.{IsAnswer}
use Rattle.live_replica.specs.Steps.Logs.{IsFollowing, LogState}
use Rattle.live_replica.specs.Updates.{calls}
use Rattle.live_replica.proofs.update_log.UpdateLog.enter.Goals as goal

pub invariant_of-self-2 : goal.invariant_of-self-2
invariant_of-self-2 g c =
    let same : c.put.new.self.updates ≡ c.updates.result.now ++ c.args.update ∷ [] =
    c.put.ensures.updates ∙ (ap (λ (n : ℕ). insert c.self.inside.taken.updates n c.args.update) (ap length c.updates-end.ensures)
    ∙ (insert_end c.self.inside.taken.updates c.args.update ∙ ap (λ (us : List (UpdateOf g.row.O-Call.Denot)). us ++ c.args.update ∷ []) (sym c.updates.ensures))) in (
      subst g.O.SeqObject.is_start (sym c.enter.ensures.start) c.self.invariant.0,
      subst (λ (us : List (UpdateOf g.row.O-Call.Denot)). IsFollowing g.O.SeqObject.query g.O.SeqObject.stands c.enter.new.self.object c.enter.new.self.start us c.enter.new.self.applied c.enter.new.self.checkpoints.items)
          (sym same) (c.in_ok-ret.ensures.entered c.args.update refl),
    )

pub returns-clause-start : goal.returns-clause-start
returns-clause-start g c = c.enter.ensures.start ∙ ap (λ (l : LogState g.row.O-Start.Denot g.row.O-Call.Denot). l.start) c.self.view_is

pub returns-clause-updates : goal.returns-clause-updates
returns-clause-updates g c =
    c.put.ensures.updates ∙ (ap (λ (n : ℕ). insert c.self.inside.taken.updates n c.args.update) (ap length c.updates-end.ensures)
    ∙ (insert_end c.self.inside.taken.updates c.args.update ∙ ap (λ (l : LogState g.row.O-Start.Denot g.row.O-Call.Denot). l.updates ++ c.args.update ∷ []) c.self.view_is))

pub returns-clause-room : goal.returns-clause-room
returns-clause-room g c = c.put.ensures.room ∙ ap (λ (l : LogState g.row.O-Start.Denot g.row.O-Call.Denot). l.room) c.self.view_is

pub returns-clause-reply : goal.returns-clause-reply
returns-clause-reply g c =
    subst (λ (l : LogState g.row.O-Start.Denot g.row.O-Call.Denot). IsAnswer g.O.SeqObject.query g.O.SeqObject.answer l.start (calls l.updates) c.args.update.call c.in_ok-ret.ret) c.self.view_is
    (subst (λ (us : List (UpdateOf g.row.O-Call.Denot)). IsAnswer g.O.SeqObject.query g.O.SeqObject.answer c.self.inside.follower.start (calls us) c.args.update.call c.in_ok-ret.ret)
    c.updates.ensures c.in_ok-ret.ensures.reply)

pub put-requires-clause-place : goal.put-requires-clause-place
put-requires-clause-place g c = let same = ap length c.updates-end.ensures in omega (arith, same)

pub put-requires-clause-room : goal.put-requires-clause-room
put-requires-clause-room g c = subst (λ (l : LogState g.row.O-Start.Denot g.row.O-Call.Denot). 0 < l.room) (sym c.self.view_is) c.requires

pub enter-requires-clause-following : goal.enter-requires-clause-following
enter-requires-clause-following g c = λ κs lives.
    subst (λ (us : List (UpdateOf g.row.O-Call.Denot)). IsFollowing g.O.SeqObject.query g.O.SeqObject.stands c.self.inside.follower.object c.self.inside.follower.start us c.self.inside.follower.applied c.self.inside.follower.checkpoints.items)
    (sym c.updates.ensures) c.self.invariant.1

pub invariant_of-self : goal.invariant_of-self
invariant_of-self g c = (
  subst g.O.SeqObject.is_start (sym c.enter.ensures.start) c.self.invariant.0,
  subst (λ (us : List (UpdateOf g.row.O-Call.Denot)). IsFollowing g.O.SeqObject.query g.O.SeqObject.stands c.enter.new.self.object c.enter.new.self.start us c.enter.new.self.applied c.enter.new.self.checkpoints.items)
      c.updates.ensures c.in_err-ret.ensures.err,
)

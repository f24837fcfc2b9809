use Rattle.std.proofs.Common.{◌≡◌, ℕ, refl, ap, length, arith, get_or, ◌∙◌}
use Rattle.std.specs.Prelude.{Some, slice_get}
use Rattle.std.proofs.lemmas.Option.{slice_get_read}
use Rattle.live_replica.proofs.Checkpoints.{following-more}
use Rattle.live_replica.proofs.follower.Follower.catch_up.Goals as goal

pub loop-at-preserved : goal.loop-at-preserved
loop-at-preserved g c =
    let here : slice_get c.args.updates.now c.loop-at.at ≡ Some c.index-updates-at.result = slice_get_read c.args.updates.now (length c.args.updates.now) c.loop-at.at c.index-updates-at.result refl (omega arith) c.index-updates-at.is in
    record {
      start = c.keep.ensures.start ∙ c.loop-at.invariant.start;
      within = omega arith;
      applied = refl;
      following = following-more g.O.SeqObject.query g.O.SeqObject.stands c.keep.new.self.start c.keep.new.self.object c.args.updates.now c.keep.new.self.applied c.keep.new.self.checkpoints.items c.keep.ensures.following
          c.apply.new.self (get_or c.args.updates.now c.loop-at.at c.index-updates-at.result).call (λ ds st. c.in_ok-apply.ensures.takes_in c.keep.new.self.start ds st)
          c.loop-at.at c.index-updates-at.result here (ap (λ u. u.call) c.index-updates-at.is) (c.keep.ensures.applied ∙ c.loop-at.invariant.applied);
    }

pub loop-at-init : goal.loop-at-init
loop-at-init g c = record {
  start = c.renew.ensures.start;
  within = (c.renew.ensures.following.taken c.in_ok-from.from c.in_ok-from.ensures.applied).within;
  applied = c.in_ok-from.ensures.applied;
  following = c.renew.ensures.following;
}

pub keep-requires-clause-applied : goal.keep-requires-clause-applied
keep-requires-clause-applied g c = λ κs lives. c.loop-at.invariant.applied

pub keep-requires-clause-following : goal.keep-requires-clause-following
keep-requires-clause-following g c = λ κs lives. c.loop-at.invariant.following

pub keep-requires-2-clause-applied : goal.keep-requires-2-clause-applied
keep-requires-2-clause-applied g c = λ κs lives.
    c.loop-at.invariant.applied ∙ ap (λ (n : ℕ). Some n) (let within = c.loop-at.invariant.within in let past = c.loop-at-test.false in omega (arith, within, past))

pub keep-requires-2-clause-following : goal.keep-requires-2-clause-following
keep-requires-2-clause-following g c = λ κs lives. c.loop-at.invariant.following

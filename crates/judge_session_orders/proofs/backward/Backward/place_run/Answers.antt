use Rattle.std.specs.Prelude.{◌≡◌, ◌<◌, List, ℕ, length}
use Rattle.std.proofs.Common.{arith, sym, subst, ◌∙◌, ⊎_elim}
use Rattle.judge_session_orders.specs.OnItsWay.{IsAwake, left_of, many_left}
use Rattle.judge_session_orders.specs.Turns.{IsWoken}
use Rattle.judge_session_orders.proofs.Awake.{awake-all, awake-next}
use Rattle.judge_session_orders.proofs.LeftSums.{placed-fewer}
use Rattle.judge_session_orders.proofs.backward.Backward.place_run.Goals as goal

pub loop-goes_on-preserved : goal.loop-goes_on-preserved
loop-goes_on-preserved c =
    let index = c.args.index.now in
    let h = index.history in
    let b = c.loop-goes_on.self in
    let after = c.place-hint.new.self in
    let next = c.loop-goes_on.invariant.next c.loop-goes_on-test.true in
    let placed = c.place-hint.ensures.placed in
    let awake : List ℕ = c.take_hint.new.self.awake.items in
    let asked = c.in_ok-take_hint.ensures.sessions ∙ c.loop-goes_on.invariant.sessions in
    let fewer : many_left h after < many_left h b = placed-fewer (length h.1) c.args.session (left_of h b) (left_of h after) placed.placing
    next.exists in
    let most = c.loop-goes_on.invariant.most in
    record {
      next = c.is_free_other-goes_on.ensures.next;
      on_its_way = placed.on_its_way;
      own = placed.own ∙ c.loop-goes_on.invariant.own;
      sessions = asked;
      awake = ⊎_elim
          (λ (woken : IsWoken c.loop-goes_on.turns.awake.items c.place-hint.result awake).
          awake-next index b after c.args.session next placed c.place-hint.result c.place-hint.ensures.below
          c.place-hint.ensures.freed c.loop-goes_on.turns.awake.items awake c.loop-goes_on.invariant.awake woken)
          (λ (whole : awake ≡ c.loop-goes_on.turns.sessions.items).
          subst (IsAwake index after) (sym (whole ∙ c.loop-goes_on.invariant.sessions))
          (awake-all index after placed.on_its_way c.args.turns.now.sessions.items c.requires.sessions))
          c.in_ok-take_hint.ensures.awake;
      most = omega arith;
      fewer = λ _. omega arith;
    }

pub loop-goes_on-smaller : goal.loop-goes_on-smaller
loop-goes_on-smaller c =
    let h = c.args.index.now.history in
    let next = c.loop-goes_on.invariant.next c.loop-goes_on-test.true in
    placed-fewer (length h.1) c.args.session (left_of h c.loop-goes_on.self) (left_of h c.place-hint.new.self)
    c.place-hint.ensures.placed.placing next.exists

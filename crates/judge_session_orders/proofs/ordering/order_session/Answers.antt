use Rattle.std.proofs.Common.{sym, subst}
use Rattle.judge_session_orders.specs.OnItsWay.{IsAwake}
use Rattle.judge_session_orders.proofs.Awake.{awake-all}
use Rattle.judge_session_orders.proofs.ordering.order_session.Goals as goal

pub loop-session-init : goal.loop-session-init
loop-session-init c =
    record {
      on_its_way = c.begin.ensures.on_its_way;
      own = c.begin.ensures.own;
      sessions = c.in_ok-wake_all.ensures.sessions;
      awake = subst (IsAwake c.args.index.now c.begin.new.backward) (sym c.in_ok-wake_all.ensures.awake)
          (awake-all c.args.index.now c.begin.new.backward c.begin.ensures.on_its_way c.args.turns.now.sessions.items c.requires.sessions);
    }

use Rattle.std.specs.Prelude.{◌≡◌, ◌<◌, ◌≤◌, IsTrue}
use Rattle.judge_session_orders.specs.OnItsWay.{CanBePlaced, IsAwake, IsOnItsWay, many_left}
use Rattle.judge_session_orders.proofs.backward.Backward.place_run.Given as goal

-- after the first turn fewer operations are left
abbrev pub invariant-loop-goes_on : goal.invariant-loop-goes_on
invariant-loop-goes_on l = record {
  next : IsTrue l.goes_on → CanBePlaced l.index l.self l.session;
  on_its_way : IsOnItsWay l.index l.self;
  own : l.self.own ≡ l.initial.self.own;
  sessions : l.turns.sessions.items ≡ l.initial.turns.sessions.items;
  awake : IsAwake l.index l.self l.turns.awake.items;
  most : many_left l.index.history l.self ≤ many_left l.index.history l.initial.self;
  fewer : ¬ IsTrue l.goes_on → many_left l.index.history l.self < many_left l.index.history l.initial.self;
}

abbrev pub decreases-loop-goes_on : goal.decreases-loop-goes_on
decreases-loop-goes_on l = many_left l.index.history l.self

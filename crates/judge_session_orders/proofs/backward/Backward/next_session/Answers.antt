use Rattle.std.proofs.Common.{refl}
use Rattle.judge_session_orders.proofs.Awake.{none-go_on}
use Rattle.judge_session_orders.proofs.backward.Backward.next_session.Goals as goal

pub returns-then-is_free-clause-next : goal.returns-then-is_free-clause-next
returns-then-is_free-clause-next c = record {
  on_its_way = c.requires.on_its_way;
  exists = c.requires.on_its_way.known.exists;
  free = c.if-is_free.ensures.free refl;
  turn = λ _. c.in_default-free_other.ensures.none;
}

pub returns-else-is_free-clause-stuck : goal.returns-else-is_free-clause-stuck
returns-else-is_free-clause-stuck c =
    none-go_on c.args.index.now c.args.self.now c.in_default-free_other.ensures.none (c.if-is_free.ensures.stopped (λ t. absurd cc))

pub returns-in-Some-clause-next : goal.returns-in-Some-clause-next
returns-in-Some-clause-next c = c.in-Some.ensures

pub returns-in-Some-clause-awake : goal.returns-in-Some-clause-awake
returns-in-Some-clause-awake c = c.requires.awake

pub returns-then-is_free-clause-awake : goal.returns-then-is_free-clause-awake
returns-then-is_free-clause-awake c = c.let_sleep.ensures

pub returns-else-is_free-clause-awake : goal.returns-else-is_free-clause-awake
returns-else-is_free-clause-awake c = c.let_sleep.ensures

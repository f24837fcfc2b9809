use Rattle.std.specs.Prelude.{Option, Some, None, IfNone}
use Rattle.judge_session_orders.proofs.Awake.{awake-stopped}
use Rattle.judge_session_orders.proofs.backward.Backward.free_other.Goals as goal

-- what follows where there is none
none-so : {A P Q : Type 0} (e : Option A) → (P → Q) → IfNone e P → IfNone e Q
none-so None so holds = so holds
none-so (Some a) so holds = holds

pub returns-in-None-clause-none : goal.returns-in-None-clause-none
returns-in-None-clause-none c =
    none-so c.free_among-in-None.result
    (awake-stopped c.args.index.now c.args.self.now c.args.sessions.now c.requires.awake c.min-at.result c.in-None.ensures.none)
    c.free_among-in-None.ensures.none

use Rattle.std.proofs.Common.{refl}
use Rattle.judge_session_orders.proofs.OutcomeLaws.{ended-clear, explained-outcome, overwritten-outcome, stuck-outcome}
use Rattle.judge_session_orders.proofs.backward.Backward.outcome.Goals as goal

pub returns-then-is_any_left-clause-outcome : goal.returns-then-is_any_left-clause-outcome
returns-then-is_any_left-clause-outcome c =
    let found = c.if-is_any_left.ensures.some refl in
    stuck-outcome c.args.index.now c.args.self.now c.requires.on_its_way c.requires.sources c.requires.stuck found.0 found.1

pub returns-then-self-clause-outcome : goal.returns-then-self-clause-outcome
returns-then-self-clause-outcome c =
    overwritten-outcome c.args.index.now c.args.self.now c.requires.on_its_way (c.if-is_any_left.ensures.none (λ t. absurd cc)) c.if-self.true

pub returns-else-self-clause-outcome : goal.returns-else-self-clause-outcome
returns-else-self-clause-outcome c =
    explained-outcome c.args.index.now c.args.self.now c.requires.on_its_way (c.if-is_any_left.ensures.none (λ t. absurd cc))
    c.requires.sources c.if-self.false

pub returns-else-self-clause-clear : goal.returns-else-self-clause-clear
returns-else-self-clause-clear c _ =
    ended-clear c.args.index.now c.args.self.now c.requires.on_its_way (c.if-is_any_left.ensures.none (λ t. absurd cc))

use Rattle.std.proofs.Common.{ap, arith, length, sym}
use Rattle.std.specs.Prelude.{[]}
use Rattle.std.proofs.lemmas.List.{get_or_past}
use Rattle.model_history.proofs.history.History.len.Goals as goal

pub session-requires-after_bounds : goal.session-requires-after_bounds
session-requires-after_bounds g c = omega (arith, c.if-s-sessions.true, c.sessions.ensures.count)

pub returns-then-s-sessions-clause-count : goal.returns-then-s-sessions-clause-count
returns-then-s-sessions-clause-count g c = ap length c.session.ensures.operations

pub returns-else-s-sessions-clause-count : goal.returns-else-s-sessions-clause-count
returns-else-s-sessions-clause-count g c =
    sym (ap length (get_or_past c.args.self.now.1 c.args.s [] (omega (arith, c.if-s-sessions.false, c.sessions.ensures.count))))

pub returns-then-s-sessions-clause-short : goal.returns-then-s-sessions-clause-short
returns-then-s-sessions-clause-short g c = c.session.ensures.is_session.short

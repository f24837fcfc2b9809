use Rattle.std.proofs.Common.{◌≡◌}
use Rattle.cert_make.specs.ByProgramOrder.{in_turn}
use Rattle.cert_make.proofs.by_program_order.sessions_in_turn.Given as goal

-- the sessions so far have had their turn
abbrev pub invariant-loop-session : goal.invariant-loop-session
invariant-loop-session g l = l.list.items ≡ in_turn l.h l.session

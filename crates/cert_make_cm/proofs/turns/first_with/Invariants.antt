use Rattle.std.proofs.Common.{◌≤◌}
use Rattle.cert_make_cm.proofs.turns.first_with.Given as goal

-- no more than all
abbrev pub invariant-loop-first : goal.invariant-loop-first
invariant-loop-first l = l.first ≤ l.turns

-- how many are left
abbrev pub decreases-loop-first : goal.decreases-loop-first
decreases-loop-first l = l.first

use Rattle.std.proofs.Common.{ℕ, ◌<◌, get_or}
use Rattle.cert_check.specs.Steps.Needs.{IsCountCovered}
use Rattle.cert_check.proofs.need.is_covered.Given as goal

-- the counts so far are covered
abbrev pub invariant-loop-session : goal.invariant-loop-session
invariant-loop-session l = (s : ℕ) → s < l.session → IsCountCovered (get_or l.vector s 0) l.before l.other s l.op

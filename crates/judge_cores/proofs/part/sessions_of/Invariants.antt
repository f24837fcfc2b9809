use Rattle.std.proofs.Common.{map}
use Rattle.judge_cores.specs.Parts.{AreFewSessions}
use Rattle.judge_cores.proofs.part.sessions_of.Given as goal

abbrev pub invariant-loop-ops : goal.invariant-loop-ops
invariant-loop-ops l = AreFewSessions (map (λ s. s.items) l.sessions.items)

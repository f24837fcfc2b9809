use Rattle.std.proofs.Common.{◌≡◌, map}
use Rattle.cert_subhistories.proofs.KeptParts.{kept_of_sessions}
use Rattle.cert_subhistories.proofs.part.part_of.Given as goal

-- what is kept of the sessions so far
abbrev pub invariant-loop-s : goal.invariant-loop-s
invariant-loop-s g l = map (λ v. v.items) l.sessions.items ≡ kept_of_sessions (g.K.Keeps.kept l.kept) l.s l.history.1

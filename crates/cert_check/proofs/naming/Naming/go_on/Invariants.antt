use Rattle.std.proofs.Common.{length}
use Rattle.cert_check.specs.Steps.Namings.{AreCountsAt, AreNamedWell}
use Rattle.cert_check.proofs.naming.Naming.go_on.Given as goal

-- the counts are those of the list so far, each operation of which is named well
abbrev pub invariant-loop-place : goal.invariant-loop-place
invariant-loop-place g l = AreCountsAt l.list l.place (length l.h.1) l.self.counts.items × AreNamedWell l.h l.v l.list l.place

use Rattle.live_simulation.proofs.RefuteSteps.{passing, not_passing}
use Rattle.std.specs.Prelude.{slice_get}
use Rattle.live_simulation.proofs.cases.Cases.refute_refusal.Goals as goal

pub returns-then-passing : goal.returns-then-passing
returns-then-passing g c =
    passing g.O.Refutable.passes c.args.pattern.now (slice_get c.args.self.now.files c.args.c) c.in-Some.file.now c.in-Some.ensures c.in_ok-passing.passing c.in_ok-passing.ensures c.if-passing.true

pub returns-else-passing : goal.returns-else-passing
returns-else-passing g c =
    not_passing g.O.Refutable.passes c.args.pattern.now (slice_get c.args.self.now.files c.args.c) c.in-Some.file.now c.in-Some.ensures c.in_ok-passing.passing c.in_ok-passing.ensures c.if-passing.false

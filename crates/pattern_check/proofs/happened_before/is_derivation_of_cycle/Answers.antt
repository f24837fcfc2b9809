use Rattle.pattern_check.proofs.DerivedEnds.{cycle-none, cycle-some}
use Rattle.pattern_check.proofs.happened_before.is_derivation_of_cycle.Goals as goal

pub returns-in_default : goal.returns-in_default
returns-in_default g c =
    let found = rw c.lines.ensures at c.in_ok-pair.ensures in
    cycle-none (g.M.KnownMemory.history c.args.h.now) c.args.op c.args.derivation.now (rw c.in_default.is at found)

pub returns : goal.returns
returns g c =
    let found = rw c.lines.ensures at c.in_ok-pair.ensures in
    cycle-some (g.M.KnownMemory.history c.args.h.now) c.args.op c.args.derivation.now c.requires c.in-Some.pair (rw c.in-Some.is at found) c.eq.result c.eq.ensures

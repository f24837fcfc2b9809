use Rattle.std.proofs.Common.{◌≡◌, List, arith, subst, sym}
use Rattle.std.specs.Prelude.{insert}
use Rattle.std.proofs.lemmas.Grind.{common_steps}
use Rattle.live_replica.specs.declared.update.UpdateOf.{UpdateOf}
use Rattle.live_replica.specs.Steps.Logs.{IsTally}
use Rattle.live_replica.proofs.Tallies.{tally-insert}
use Rattle.live_replica.proofs.taken.Taken.put.Goals as goal

pub invariant_of-self : goal.invariant_of-self
invariant_of-self g c =
    let e : c.insert.new.self.items ≡ insert c.self.inside.updates.items c.args.at c.args.update = grind (arith, common_steps) in
    subst (λ (us : List (UpdateOf g.row.C.Denot)). IsTally us c.count_in.new.counts c.count_in.new.ends) (sym e)
    (tally-insert c.self.inside.updates.items c.args.at c.args.update c.self.inside.counts c.self.inside.ends c.count_in.new.counts c.count_in.new.ends c.self.invariant c.count_in.ensures.counted c.count_in.ensures.ended)

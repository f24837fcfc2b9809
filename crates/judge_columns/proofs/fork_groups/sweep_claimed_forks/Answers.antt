use Rattle.std.specs.Prelude.{◌≡◌, ◌++◌, ◌∷◌, ℕ, List, []}
use Rattle.judge_columns.proofs.fork_groups.sweep_claimed_forks.Goals as goal

pub sweep_group-requires-clause-from : goal.sweep_group-requires-clause-from
sweep_group-requires-clause-from c = c.groups-count.ensures.each c.in-Some.group c.in-Some.ensures

pub loop-claim-preserved : goal.loop-claim-preserved
loop-claim-preserved c =
    let groups : List ℕ = c.loop-claim.found.numbers.items in
    let grown : c.push.new.self.items ≡ groups ++ c.in-Some.group ∷ [] = c.in_ok-push.ensures.items in
    record {
      sizes = c.in_ok-sweep_group.ensures.sizes;
      late = c.in_ok-sweep_group.ensures.late;
      swept = rw (grown) (c.in_ok-sweep_group.ensures.swept groups c.loop-claim.invariant.swept);
    }

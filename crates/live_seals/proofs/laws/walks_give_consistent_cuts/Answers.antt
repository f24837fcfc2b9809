use Rattle.live_cut_plan.specs.Plans.{fresh_plan, after_looks}
use Rattle.live_seals.specs.Runs.{looks}
use Rattle.live_seals.proofs.ConsistentCuts.{seals_are_cuts, walks_seal}
use Rattle.live_seals.proofs.laws.walks_give_consistent_cuts.Goals as goal

pub returns : goal.returns
returns g c = λ k cap es z j told old new start run at stands walk.
    seals_are_cuts k cap es z (after_looks (fresh_plan k cap told) (looks z es)) start run (walks_seal k cap es z j told old new at stands walk)

use Rattle.live_cut_plan.specs.Plans.{fresh_plan}
use Rattle.live_seals.proofs.ReturnsFirst.{returns_first, fresh_first}
use Rattle.live_seals.proofs.laws.returns_come_before_calls.Goals as goal

pub returns-clause-asked : goal.returns-clause-asked
returns-clause-asked c = λ k cap told looks follows. returns_first looks (fresh_plan k cap told) follows

pub returns-clause-walked : goal.returns-clause-walked
returns-clause-walked c = λ k cap told old new looks stands walk. fresh_first (fresh_plan k cap told) old new looks stands walk

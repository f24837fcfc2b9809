use Rattle.std.proofs.Common.{sym, ◌∙◌, subst}
use Rattle.judge_memory.proofs.Numbers.{number-once}
use Rattle.judge_memory.specs.Placements.{IsPlaced, next_of}
use Rattle.judge_memory.proofs.RunSteps.{source-placed}
use Rattle.judge_memory.proofs.rounds.Placement.is_source_placed.Goals as goal

pub returns-in-Some-clause-placed : goal.returns-in-Some-clause-placed
returns-in-Some-clause-placed c placed a p is_op is from =
    let h = c.args.index.now.history in
    let found = c.in-Some.ensures.source p is_op is in
    let distinct = c.value_is_indexed.ensures.distinct in
    source-placed h (next_of c.args.self.now.next.items) distinct c.in-Some.source found.0 p found.1 found.2 found.3
    (c.is_placed.ensures.0 placed) a from

pub returns-in-Some-clause-waits : goal.returns-in-Some-clause-waits
returns-in-Some-clause-waits c unplaced p is_op is =
    let h = c.args.index.now.history in
    let found = c.in-Some.ensures.source p is_op is in (
      found.0,
      found.2,
      λ placed. unplaced (c.is_placed.ensures.1 (λ a is_a is_source.
          subst (IsPlaced h (next_of c.args.self.now.next.items)) (number-once h found.0 a found.1 is_a (found.3 ∙ sym is_source)) placed)),
    )

pub returns-in-None-clause-placed : goal.returns-in-None-clause-placed
returns-in-None-clause-placed c placed a p is_op is from = absurd (c.in-None.ensures.source p is_op is a from)

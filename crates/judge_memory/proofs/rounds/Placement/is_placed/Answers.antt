use Rattle.std.proofs.Common.{arith}
use Rattle.std.proofs.lemmas.Bool.{lt-ltb, ltb-true}
use Rattle.std.proofs.lemmas.List.{get_or_read}
use Rattle.judge_memory.specs.Placements.{next_of}
use Rattle.judge_memory.proofs.RunSteps.{number_placed-test}
use Rattle.judge_memory.proofs.rounds.Placement.is_placed.Goals as goal

pub returns : goal.returns
returns c =
    let next = c.args.self.now.next.items in
    let value = get_or_read next c.session_of.result c.index.result.now (grind arith) c.index.ensures 0 in
    let test = number_placed-test c.args.index.now.history (next_of next) c.args.operation c.session_of.result c.requires.below
    c.session_of.ensures.session in (
      (λ below. test.0 (let less = ltb-true c.args.operation c.index.result.now below in omega arith)),
      (λ each. lt-ltb c.args.operation c.index.result.now (let less = test.1 each in omega arith)),
    )

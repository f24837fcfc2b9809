use Rattle.std.specs.Prelude.{◌<◌, ◌≤◌}
use Rattle.std.proofs.Common.{arith}
use Rattle.judge_memory.specs.Steps.{many}
use Rattle.judge_memory.proofs.Numbers.{number-found}
use Rattle.judge_columns.proofs.shares.first_write.Goals as goal

pub returns-in-Write : goal.returns-in-Write
returns-in-Write c =
    let h = c.args.index.now.history in
    let below : c.loop-operation.operation < many h = grind arith in
    let a = number-found h c.loop-operation.operation below in
    record {
      first = grind arith;
      below = grind arith;
      write = (a.0, a.2, c.in-Write.ensures.part a.0 a.1 a.2);
      none = c.loop-operation.invariant;
    }

pub returns : goal.returns
returns c b x v wrote from_b below =
    let end : c.args.end ≤ c.loop-operation.operation = grind arith in
    c.loop-operation.invariant b x v wrote from_b (omega arith)

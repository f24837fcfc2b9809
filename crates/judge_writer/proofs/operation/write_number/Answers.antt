use Rattle.std.proofs.Common.{arith}
use Rattle.std.proofs.lemmas.Result.{on_ok_weaker}
use Rattle.judge_writer.proofs.Written.{number_written}
use Rattle.judge_writer.proofs.operation.write_number.Goals as goal

pub returns : goal.returns
returns c =
    on_ok_weaker c.u64.result (λ after. number_written c.args.number c.args.out.now c.u64.new.self (omega arith) (c.u64.ensures.room.0, after)) c.u64.ensures.ok

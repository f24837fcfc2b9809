use Rattle.std.proofs.lemmas.Result.{on_ok_weaker}
use Rattle.judge_writer.proofs.Written.{text_written}
use Rattle.judge_writer.proofs.operation.write_text.Goals as goal

pub returns : goal.returns
returns c =
    on_ok_weaker c.string.result (λ after. text_written c.args.text.now c.args.out.now c.string.new.self (c.string.ensures.room.0, after)) c.string.ensures.ok

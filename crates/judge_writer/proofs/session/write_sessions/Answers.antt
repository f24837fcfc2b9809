use Rattle.std.proofs.Common.{map}
use Rattle.std.proofs.lemmas.Result.{on_ok_weaker}
use Rattle.judge_writer.specs.Steps.{operations_form}
use Rattle.judge_writer.proofs.Written.{list_written}
use Rattle.judge_writer.proofs.session.write_sessions.Goals as goal

pub returns : goal.returns
returns c =
    on_ok_weaker c.end_array.result (λ after.
    list_written (map operations_form c.args.history.now.1) _ _ _ _ (c.begin_array.ensures.room.0, c.in_ok-begin_array.ensures.ok)
    c.in_ok-write_each.ensures (c.end_array.ensures.room.0, after)) c.end_array.ensures.ok

use Rattle.std.proofs.Common.{[], arith}
use Rattle.judge_writer.specs.Steps.{operations_form}
use Rattle.judge_writer.proofs.Written.{all_written, next_written, none_written}
use Rattle.judge_writer.proofs.session.write_each.Goals as goal

pub loop-s-init : goal.loop-s-init
loop-s-init c = none_written c.args.out.now

pub loop-s-preserved : goal.loop-s-preserved
loop-s-preserved c =
    next_written operations_form c.args.history.now.1 c.loop-s.s c.session.result.now [] c.args.out.now c.loop-s.out c.write_session.new.out
    c.session.ensures (omega (arith, c.loop-s-test.true, c.sessions-s-end.ensures.count)) c.loop-s.invariant c.in_ok-write_session.ensures

pub returns : goal.returns
returns c = all_written operations_form c.args.history.now.1 c.loop-s.s c.args.out.now c.loop-s.out (omega arith) c.loop-s.invariant

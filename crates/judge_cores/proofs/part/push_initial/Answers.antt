use Rattle.std.proofs.Common.{arith}
use Rattle.model_objects.proofs.TableLemmas.{pushed_is_table}
use Rattle.judge_cores.proofs.part.push_initial.Goals as goal

pub returns-in_ok-push : goal.returns-in_ok-push
returns-in_ok-push c =
    rw c.in_ok-push.ensures.ok (pushed_is_table 0 (λ _. Unit {0}) c.args.start.now c.args.key c.args.value c.requires (omega arith) c.ranges.key.fits
    (c.is_above_all.ensures c.if-is_above_all.true) (λ same. absurd (omega arith)) tt)

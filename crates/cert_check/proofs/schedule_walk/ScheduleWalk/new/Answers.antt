use Rattle.std.proofs.Common.{[], arith}
use Rattle.cert_check.proofs.schedule_walk.ScheduleWalk.new.Goals as goal

pub invariant_of-result : goal.invariant_of-result
invariant_of-result g c = record {
  shape = c.requires.shape;
  needs = c.requires.needs;
  counting = c.in_ok-naming.ensures [];
  well = record { each = λ j below. absurd (omega arith) };
}

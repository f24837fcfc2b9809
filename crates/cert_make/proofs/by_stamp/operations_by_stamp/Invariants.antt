use Rattle.std.specs.Prelude.{◌≡◌}
use Rattle.cert_make.specs.ByStamp.{stamped_before}
use Rattle.cert_make.proofs.by_stamp.operations_by_stamp.Given as goal

-- the operations of the sessions so far are listed
abbrev pub invariant-loop-session : goal.invariant-loop-session
invariant-loop-session g l = l.ops.items ≡ stamped_before l.h l.advice l.session

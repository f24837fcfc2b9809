use Rattle.std.specs.Prelude.{◌≡◌, ◌++◌}
use Rattle.cert_make.specs.Advice.{heard_before}
use Rattle.cert_make.specs.ByStamp.{stamped_in}
use Rattle.cert_make.proofs.by_stamp.push_stamped.Given as goal

-- the operations so far are listed
abbrev pub invariant-loop-index : goal.invariant-loop-index
invariant-loop-index g l = record {
  known : l.heard ≡ heard_before l.reported l.session l.index;
  listed : l.ops.items ≡ l.fn.ops.items ++ stamped_in l.reported l.session l.index;
}

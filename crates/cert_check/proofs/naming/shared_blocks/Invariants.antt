use Rattle.std.proofs.Common.{◌≡◌, ◌≤◌, length, take, ◌-◌}
use Rattle.cert_check.proofs.naming.shared_blocks.Given as goal

abbrev pub decreases-loop-shared : goal.decreases-loop-shared
decreases-loop-shared l = length l.left - l.shared

-- what both have in common so far
abbrev pub invariant-loop-shared : goal.invariant-loop-shared
invariant-loop-shared l = (l.shared ≤ l.most) × (take l.shared l.left ≡ take l.shared l.right)

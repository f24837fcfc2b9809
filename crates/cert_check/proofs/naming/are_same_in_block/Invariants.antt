use Rattle.std.specs.Prelude.{◌≡◌, ◌≤◌, ◌<◌, ℕ, IsTrue, slice_get}
use Rattle.cert_check.proofs.naming.are_same_in_block.Given as goal

-- where all were the same so far, these are
abbrev pub invariant-loop-at : goal.invariant-loop-at
invariant-loop-at l = IsTrue l.all → (k : ℕ) → l.place ≤ k → k < l.at → slice_get l.left k ≡ slice_get l.right k

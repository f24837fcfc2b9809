use Rattle.std.proofs.Common.{◌≤◌, take}
use Rattle.std.specs.Prelude.{All, IsTrue}
use Rattle.log_choices.proofs.forced_looks.first_possible.Given as goal

-- those so far begin after the end
abbrev pub invariant-loop-delete : goal.invariant-loop-delete
invariant-loop-delete l = All (λ d. IsTrue l.timed.in_time × (l.read.end ≤ d.place)) (take l.delete-index l.deletes)

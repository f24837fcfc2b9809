use Rattle.std.proofs.Common.{◌≡◌, ◌≢◌, ℕ}
use Rattle.std.specs.Prelude.{slice_index}
use Rattle.log_choices.proofs.forced_pasts.join.Given as goal

-- the counts that changed are those of the other
abbrev pub invariant-loop-client : goal.invariant-loop-client
invariant-loop-client l = (c : ℕ) → slice_index l.past c ≢ slice_index l.initial.past c → slice_index l.past c ≡ slice_index l.other c

use Rattle.std.proofs.Common.{◌≡◌, ◌<◌, ℕ, [], take}
use Rattle.std.specs.Prelude.{slice_index_or}
use Rattle.judge_decision.proofs.WithoutLimits.{HasSmallKeys}
use Rattle.judge_decision.proofs.lengthened.lengthened.Given as goal

-- the sessions so far are there, and their keys are small
abbrev pub invariant-loop-session : goal.invariant-loop-session
invariant-loop-session l = record {
  sessions : l.sessions ≡ take l.session l.fn.h.1;
  keys : (s : ℕ) → s < l.session → HasSmallKeys (slice_index_or l.fn.h.1 s []);
}

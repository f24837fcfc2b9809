use Rattle.std.specs.Prelude.{◌↔◌, ℕ}
use Rattle.judge_columns.specs.Shares.{IsShare, IsShared}
use Rattle.judge_columns.specs.Swept.{IsListed}
use Rattle.judge_columns.proofs.shares.share_of.Given as goal

abbrev pub invariant-loop-i : goal.invariant-loop-i
invariant-loop-i l = record {
  share : IsShare l.index.history l.share;
  all : (t : ℕ) → IsShared l.index.history l.share t ↔ IsListed l.sessions l.i t;
}

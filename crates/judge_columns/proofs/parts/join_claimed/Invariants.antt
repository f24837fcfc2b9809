use Rattle.std.specs.Prelude.{vec_len}
use Rattle.judge_columns.specs.Groups.{AreClaimed, IsClaimed}
use Rattle.judge_columns.proofs.parts.join_claimed.Given as goal

-- what is left, and what the others show together
abbrev pub invariant-loop-part : goal.invariant-loop-part
invariant-loop-part l = record {
  each : AreClaimed l._index.history l._share (vec_len l.parts) l.parts.items;
  whole : IsClaimed l._index.history l._share l.whole;
}

abbrev pub decreases-loop-part : goal.decreases-loop-part
decreases-loop-part l = vec_len l.parts

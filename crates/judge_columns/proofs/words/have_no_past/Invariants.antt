use Rattle.std.specs.Prelude.{◌≡◌, ◌+◌, ◌<◌, ℕ, Some, slice_get}
use Rattle.judge_columns.specs.Words.{HasNoPast}
use Rattle.judge_columns.proofs.words.have_no_past.Given as goal

abbrev pub invariant-loop-bit : goal.invariant-loop-bit
invariant-loop-bit l = (k n : ℕ) → k < l.bit → slice_get l.writes (l.from + k) ≡ Some n → HasNoPast l.index.history n

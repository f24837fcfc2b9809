use Rattle.std.specs.Prelude.{◌≡◌, ◌<◌, ℕ, Some, length, slice_get}
use Rattle.judge_memory.specs.Steps.{many}
use Rattle.judge_columns.specs.Forks.{HasForkSizes, IsForkAt}
use Rattle.judge_workers.specs.Numbers.{HasNumber}
use Rattle.judge_columns.specs.Groups.{IsInGroups}
use Rattle.judge_columns.specs.Parts.{IsSweptOver}
use Rattle.judge_columns.proofs.fork_groups.sweep_left_forks.Given as goal

abbrev pub invariant-loop-i : goal.invariant-loop-i
invariant-loop-i l = record {
  sizes : HasForkSizes l.index l.words;
  late : length l.late.items ≡ many l.index.history;
  kept : (g : ℕ) → HasNumber l.initial.all.items g → HasNumber l.all.items g;
  done : (j g : ℕ) → j < l.i → slice_get l.rest.items j ≡ Some g → HasNumber l.all.items g;
  swept : IsSweptOver l.index.history (IsInGroups 128 (IsForkAt l.index.history l.writes) l.all.items) l.swept;
}

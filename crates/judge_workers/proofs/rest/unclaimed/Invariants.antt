use Rattle.std.specs.Prelude.{◌⊎◌, ℕ, ◌<◌}
use Rattle.judge_workers.specs.Numbers.{HasNumber}
use Rattle.judge_workers.proofs.rest.unclaimed.Given as goal

abbrev pub invariant-loop-number : goal.invariant-loop-number
invariant-loop-number l = record {
  below : (g : ℕ) → HasNumber l.rest.items g → g < l.count;
  apart : (g : ℕ) → HasNumber l.rest.items g → ¬ HasNumber l.claimed g;
  all : (g : ℕ) → g < l.number → HasNumber l.claimed g ⊎ HasNumber l.rest.items g;
}

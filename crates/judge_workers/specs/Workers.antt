-- How many workers work side by side.
use Rattle.std.specs.Prelude.{ℕ, ◌≤◌}
use Rattle.judge_workers.specs.declared.limit.TheConstants.{MAX_WORKERS}

-- how many workers there may be
abbrev pub AreWorkers : ℕ → Type 0
AreWorkers n = (1 ≤ n) × (n ≤ MAX_WORKERS)

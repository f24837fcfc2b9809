use Rattle.std.specs.Prelude.{◌≡◌, ℕ, Some, length, slice_get}
use Rattle.judge_memory.proofs.variables.places.Given as goal

-- the keys so far have their places
abbrev pub invariant-loop-key : goal.invariant-loop-key
invariant-loop-key l = record {
  count : length l.places.items ≡ l.key-index;
  each : (n place : ℕ) → slice_get l.places.items n ≡ Some place → slice_get l.distinct place ≡ slice_get l.keys n;
}

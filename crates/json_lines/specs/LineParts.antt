-- The parts of what a reader of lines has read.
use Rattle.std.specs.Prelude.{◌≡◌, ◌+◌, ◌≤◌, ℕ, List, length}
use Rattle.json_lines.specs.declared.read_call.TheConstants.{CHUNK_BYTES}

-- a line stands in the bytes before what belongs to no line yet, and there are few of them
pub record IsParted (chunk bytes : List ℕ) (start end at most : ℕ) : Type 0 where
  pub room : length chunk ≡ CHUNK_BYTES
  pub line : start ≤ end
  pub before : end ≤ at
  pub within : at ≤ length bytes
  pub few : length bytes ≤ most + CHUNK_BYTES

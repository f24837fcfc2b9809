-- Which histories are those of memories.
use Rattle.std.specs.Prelude.{⊤}
use Rattle.json_histories.specs.declared.any_history.AnyHistory.{AnyHistory}
use Rattle.json_histories.specs.declared.any_history.AnyHistory.TheVariants as histories

-- a history of another object than a memory
abbrev pub IsOfAnotherObject : AnyHistory → Type 0
IsOfAnotherObject (histories.Memory h) = ⊥
IsOfAnotherObject _ = ⊤

-- What is read into a list.
use Rattle.std.specs.Prelude.{◌≡◌, ◌++◌, ℕ, List, Option}
use Rattle.json_lines.specs.declared.fault.Fault.{Fault}
use Rattle.json_lines.specs.declared.fault.Fault.TheVariants.{Memory}
use Rattle.app_process.specs.Failing.{LacksMemory}
use Rattle.app_process.specs.Saying.{Known, SaysSome}
use Rattle.std.specs.Io.KnownBytes.{Consumes}

-- a reader gave some bytes, and these were appended
abbrev pub Reads : Option (List ℕ) → Option (List ℕ) → List ℕ → List ℕ → Type 0
Reads old new before after = (more : List ℕ) × Consumes old new more × (after ≡ before ++ more)

-- why it was not found how an input looks is said
abbrev pub EndsUnlooked : Option (List ℕ) → Fault → Known → Known → ℕ → Type 0
EndsUnlooked label Memory before after status = LacksMemory label before after status
EndsUnlooked label _ before after status = (status ≡ 3) × SaysSome before after

-- What the functions that read a log say to one another: no promise to a reader rests on it.
use Rattle.std.specs.Prelude.{ℕ, List, ◌++◌, Bool, Option, Some, None, IfSome}
use Rattle.std.specs.Io.KnownBytes.{Consumes, IsAtEnd}
use Rattle.log_reader.specs.Logs.{IsLogOf}
use Rattle.log_reader.specs.Readings.{HasRead, Reading}
use Rattle.log_reader.specs.declared.progress.Progress.{Progress}
use Rattle.log_reader.specs.declared.progress.Progress.TheVariants.{More, End}

-- more of a text was read
abbrev pub ReadsMore : Option (List ℕ) → Option (List ℕ) → Reading → Reading → Type 0
ReadsMore before after old new = (text : List ℕ) → HasRead text old → (taken : List ℕ) × Consumes before after taken × HasRead (text ++ taken) new

-- all of it was read
pub record ReadsAll (before after : Option (List ℕ)) (old new : Reading) (torn : Bool) : Type 0 where
  pub end : IsAtEnd after
  pub log : (text : List ℕ) → HasRead text old → IfSome before (λ bytes. IsLogOf (text ++ bytes) new.log torn)

abbrev pub ReadsLine : Option (List ℕ) → Option (List ℕ) → Reading → Reading → Option Progress → Type 0
ReadsLine before after old new None = ReadsMore before after old new
ReadsLine before after old new (Some More) = ⊥
ReadsLine before after old new (Some (End torn)) = ReadsAll before after old new torn

abbrev pub Reads : Option (List ℕ) → Option (List ℕ) → Reading → Reading → Progress → Type 0
Reads before after old new More = ReadsMore before after old new
Reads before after old new (End torn) = ReadsAll before after old new torn

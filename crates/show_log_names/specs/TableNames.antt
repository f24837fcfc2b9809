-- What a table of names gives.
use Rattle.std.specs.Prelude.{◌≡◌, ℕ, List, Some, slice_get}
use Rattle.log_reader.specs.Names.{Name}
use Rattle.log_reader.specs.NameTexts.{IsNameText}

-- the text is that of the name with this number, where the table has one
abbrev pub IsNameAt : List Name → ℕ → List ℕ → Type 0
IsNameAt table number text = (name : Name) → slice_get table number ≡ Some name → IsNameText name text

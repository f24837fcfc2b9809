-- What is gathered of the elements of a list.
use Rattle.std.specs.Prelude.{◌≡◌, List, [], ◌∷◌, ◌++◌, Bool, true, false, Option, Some, None}
use Rattle.serde_json.specs.Data.{Data}

module _ {S : Type 0} (is_of : S → List Data → Type 0) (refuses : List Data → Type 0) (new : S) where
  -- one element more is taken after these, or no list that goes on with it is wanted
  abbrev pub IsTaken : Bool → List Data → Data → Type 0
  IsTaken true ds d = is_of new (ds ++ d ∷ [])
  IsTaken false ds d = (more : List Data) → refuses (ds ++ d ∷ more)

  -- all of these elements were taken, or they are not wanted
  abbrev pub AreTaken : Bool → List Data → Type 0
  AreTaken true ds = is_of new ds
  AreTaken false ds = refuses ds

  -- the same of a value, which may be no list
  abbrev pub IsTakenList : Bool → Option (List Data) → Type 0
  IsTakenList taken None = taken ≡ false
  IsTakenList taken (Some ds) = AreTaken taken ds

-- What is read of lists, and what is kept of them.
use Rattle.std.specs.Prelude.{◌≡◌, ◌≢◌, List, All, map, Bool, true, false, Option, Some, None}
use Rattle.serde_json.specs.Data.{Data}
use Rattle.json_histories.specs.Reads.{list_form}
use Rattle.pattern_json.specs.Shortened.{kept_sessions}

module _ {A : Type 0} (fits : A → Type 0) (form : A → Data) where
  -- the value is the form of this, or the form of nothing in range
  abbrev pub IsForm : Data → A → Type 0
  IsForm d a = (d ≡ form a) × fits a

  abbrev pub IsNoForm : Data → Type 0
  IsNoForm d = (a : A) → fits a → d ≢ form a

  -- these elements are the forms of these, or of nothing in range
  abbrev pub AreForms : List Data → List A → Type 0
  AreForms ds xs = (ds ≡ map form xs) × All fits xs

  abbrev pub AreNoForms : List Data → Type 0
  AreNoForms ds = (xs : List A) → All fits xs → ds ≢ map form xs

  -- whether the value is a form, and of what
  abbrev pub IsReadInto : Bool → Data → A → Type 0
  IsReadInto true d a = IsForm d a
  IsReadInto false d a = IsNoForm d

module _ {A : Type 0} (fits : A → Type 0) (form : A → Data) where
  -- these elements are the forms of what this is kept of
  abbrev pub AreKept : List Data → List A → Type 0
  AreKept ds kept = (xs : List A) × AreForms fits form ds xs × (kept ≡ kept_sessions xs)

  -- the value is the form of a list of which this is kept
  abbrev pub IsKept : Data → List A → Type 0
  IsKept d kept = (xs : List A) × IsForm (All fits) (list_form form) d xs × (kept ≡ kept_sessions xs)

  -- or it is the form of no list
  abbrev pub IsKeptIn : Data → Option (List A) → Type 0
  IsKeptIn d None = IsNoForm (All fits) (list_form form) d
  IsKeptIn d (Some kept) = IsKept d kept

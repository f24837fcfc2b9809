-- What is read of a value, and the forms that readers share.
use Rattle.std.specs.Prelude.{◌≡◌, ◌≢◌, ℕ, List, ◌∷◌, map, Option, MatchOption}
use Rattle.serde_json.specs.Data.{Data, number, string, unsigned}
use Rattle.json_histories.specs.Json.{list}

-- a whole number
abbrev pub number_form : ℕ → Data
number_form n = number (unsigned n)

-- a list, of the forms of its elements
abbrev pub list_form : {A : Type 0} → (A → Data) → List A → Data
list_form form xs = list (map form xs)

-- a list that begins with a word
abbrev pub worded : List ℕ → List Data → Data
worded word ds = list (string word ∷ ds)

-- what is read of a value: that of which it is the form, or none where it is the form of nothing
abbrev pub IsRead : {A D : Type 0} → (A → D) → D → Option A → Type 0
IsRead {A} form d read = MatchOption read ((a : A) → d ≢ form a) (λ a. d ≡ form a)

-- the same among those in a range
abbrev pub IsReadWithin : {A : Type 0} → (A → Type 0) → (A → Data) → Data → Option A → Type 0
IsReadWithin {A} fits form d read = MatchOption read ((a : A) → fits a → d ≢ form a) (λ a. (d ≡ form a) × fits a)

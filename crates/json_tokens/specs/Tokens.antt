-- What is passed of the tokens of a text.
use Rattle.std.specs.Prelude.{◌≡◌, ℕ, List, length, Option, Some}
use Rattle.json.specs.Json.{items, value}
use Rattle.json.specs.Token.{Token}
use Rattle.serde_json.specs.Data.{Data, Items}
use Rattle.serde_json.specs.Read.{of_json, of_items, converted}
use Rattle.json_histories.specs.Json.{elements, listed}

-- one value is passed, of which this holds
abbrev pub IsValue : (Data → Type 0) → ℕ → List Token → List Token → Type 0
IsValue P depth old new = (d : Data) × (converted of_json (value depth old) ≡ Some (d, new)) × P d

-- one value is passed, and this holds of its elements, where it is a list
abbrev pub IsList : (Option (List Data) → Type 0) → ℕ → List Token → List Token → Type 0
IsList P depth old new = (d : Data) × (converted of_json (value depth old) ≡ Some (d, new)) × P (elements d)

-- the rest of a list is passed, of whose elements this holds
abbrev pub IsRest : (List Data → Type 0) → ℕ → List Token → List Token → Type 0
IsRest P depth old new = (ds : Items) × (converted of_items (items (value depth) (length old) old) ≡ Some (ds, new)) × P (listed ds)

-- JSON values as the forms of this project see them: lists, texts, whole numbers.
use Rattle.std.specs.Prelude.{ℕ, List, [], ◌∷◌, Bool, false, nat_eq, Option, Some, None, option_and_then, codes}
use Rattle.std.specs.Option.{option_map_or}
use Rattle.std.specs.Cmp.Lexicographic.{pointwise}
use Rattle.serde_json.specs.Data.{Data, null, boolean, number, string, array, object, Items, no_items, item}
use Rattle.serde_json.specs.Find.{as_number, as_str, as_u64}
use Rattle.serde_json.specs.View.{items_of}

-- the JSON list of these
abbrev pub list : List Data → Data
list ds = array (items_of ds)

-- what stands in a JSON list, one after the other
abbrev pub listed : Items → List Data
listed no_items = []
listed (item d ds) = d ∷ listed ds

-- the elements of a JSON list, where the value is one
abbrev pub elements : Data → Option (List Data)
elements null = None
elements (boolean b) = None
elements (number n) = None
elements (string s) = None
elements (array ds) = Some (listed ds)
elements (object ms) = None

-- the whole number from 0 to 2 ^ 64 - 1, where the value is one
abbrev pub whole_number : Data → Option ℕ
whole_number d = option_and_then as_u64 (as_number d)

-- the text `"?"`, which represents a return that isn't known
abbrev pub unknown : Data
unknown = string (codes "?")

abbrev pub is_unknown : Data → Bool
is_unknown d = option_map_or (λ s. pointwise nat_eq s (codes "?")) (as_str d) false

-- What stands behind what `serde_json` reads.
use Rattle.std.specs.Prelude.{ℕ, List, length, Option, option_map}
use Rattle.json.specs.Json.{items, members, value}
use Rattle.json.specs.Token.{Token}
use Rattle.serde_json.specs.Data.{no_members}
use Rattle.serde_json.specs.Read.{of_json, of_items, of_members, converted}

-- behind a value that nests no deeper than the number
abbrev pub behind_value : ℕ → List Token → Option (List Token)
behind_value depth ts = option_map (λ p. p.1) (converted of_json (value depth ts))

-- behind the rest of a list, and its bracket
abbrev pub behind_items : ℕ → List Token → Option (List Token)
behind_items depth ts = option_map (λ p. p.1) (converted of_items (items (value depth) (length ts) ts))

-- behind the rest of an object, and its brace
abbrev pub behind_members : ℕ → List Token → Option (List Token)
behind_members depth ts = option_map (λ p. p.1) (converted (λ ms. of_members ms no_members) (members (value depth) (length ts) ts))

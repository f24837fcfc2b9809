-- What a token says by itself.
use Rattle.std.specs.Prelude.{◌≡◌, ℕ, List, ◌∷◌, Some}
use Rattle.json.specs.Json.{value}
use Rattle.json.specs.Token.{Token}
use Rattle.serde_json.specs.Read.{of_json, converted}
use Rattle.json_histories.specs.Reads.{number_form}

-- the token is a value, which is this number
abbrev pub IsAlone : Token → ℕ → Type 0
IsAlone t n = (depth : ℕ) (ts : List Token) → converted of_json (value depth (t ∷ ts)) ≡ Some (number_form n, ts)

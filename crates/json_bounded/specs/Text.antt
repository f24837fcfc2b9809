-- What a text is as JSON, and why one is refused.
use Rattle.std.specs.Prelude.{◌≡◌, ⊤, ℕ, List, Some}
use Rattle.std.specs.Str.{IsUtf8}
use Rattle.serde_json.specs.Data.{Data}
use Rattle.serde_json.specs.Read.{read}
use Rattle.json_bounded.specs.declared.text_error.TextError.{TextError}
use Rattle.json_bounded.specs.declared.text_error.TextError.TheVariants.{NotJson, Memory}

-- the JSON value of a text, as `serde_json` reads it
abbrev pub IsJson : List ℕ → Data → Type 0
IsJson text d = IsUtf8 text × (read text ≡ Some d)

-- what an error says: that this holds, unless memory ran out
abbrev pub StopsFor : Type 0 → TextError → Type 0
StopsFor refused NotJson = refused
StopsFor refused Memory = ⊤

-- a text is refused where it is no JSON
abbrev pub IsTextRefused : List ℕ → TextError → Type 0
IsTextRefused text = StopsFor ((d : Data) → ¬ IsJson text d)

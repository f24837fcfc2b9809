-- What is read of the tokens of a text.
use Rattle.std.specs.Prelude.{◌≡◌, ℕ, List, length, Option, Some, None}
use Rattle.json.specs.Json.{items, value}
use Rattle.json.specs.Token.{Token}
use Rattle.serde_json.specs.Data.{Data, Items}
use Rattle.serde_json.specs.Read.{of_json, of_items, converted, read}
use Rattle.json_bounded.specs.Cut.{cut, cut_items}
use Rattle.json_bounded.specs.Text.{StopsFor}
use Rattle.json_bounded.specs.declared.text_error.TextError.{TextError}

module _ {P : Type 0} (limit : P → Option ℕ) (inside : P → ℕ → P) (place : P) where
  -- of one value this is kept
  abbrev pub IsCut : ℕ → List Token → List Token → Data → Type 0
  IsCut depth old new kept = (d : Data) × (converted of_json (value depth old) ≡ Some (d, new)) × (kept ≡ cut limit inside place d)

  -- of the rest of a list these are kept
  abbrev pub AreCut : ℕ → List Token → List Token → Items → Type 0
  AreCut depth old new kept =
      (ds : Items) × (converted of_items (items (value depth) (length old) old) ≡ Some (ds, new)) × (kept ≡ cut_items limit inside place 0 (limit place) ds)

  -- of a text this is kept
  abbrev pub IsWholeCut : List ℕ → Data → Type 0
  IsWholeCut text kept = (d : Data) × (read text ≡ Some d) × (kept ≡ cut limit inside place d)

-- no value comes next
abbrev pub IsRefused : ℕ → List Token → TextError → Type 0
IsRefused depth old = StopsFor (converted of_json (value depth old) ≡ None)

-- no rest of a list comes next
abbrev pub AreRefused : ℕ → List Token → TextError → Type 0
AreRefused depth old = StopsFor (converted of_items (items (value depth) (length old) old) ≡ None)

-- the text is no value
abbrev pub IsWholeRefused : List ℕ → TextError → Type 0
IsWholeRefused text = StopsFor (read text ≡ None)

-- The texts of names.
use Rattle.std.specs.Prelude.{◌≡◌, ℕ, List, Some}
use Rattle.serde_json.specs.Data.{Data}
use Rattle.json_bounded.specs.Text.{IsJson}
use Rattle.log_reader.specs.Names.{Name, value_name}
use Rattle.log_reader.specs.Shown.{IsShown}

-- a JSON text of a value that has this name, which disturbs no terminal
pub record IsNameText (name : Name) (text : List ℕ) : Type 0 where
  pub value : Data
  pub json : IsJson text value
  pub names : value_name value ≡ Some name
  pub shown : IsShown text

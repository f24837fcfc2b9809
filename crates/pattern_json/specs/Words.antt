-- The words of forms.
use Rattle.std.specs.Prelude.{ℕ, List}
use Rattle.serde_json.specs.Data.{Data, string}

-- the text of a name
abbrev pub word_form : {A : Type 0} → (A → List ℕ) → A → Data
word_form name a = string (name a)

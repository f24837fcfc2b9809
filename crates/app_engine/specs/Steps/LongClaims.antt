-- What is read of the text of a claim after its history, which is read by itself.
use Rattle.std.specs.Prelude.{ℕ, List, [], ◌∷◌}
use Rattle.serde_json.specs.Data.{Data}
use Rattle.pattern_json.specs.PatternForm.{form_of as pattern_form}
use Rattle.cert_check.specs.CriterionNames.{name_of}
use Rattle.json_histories.specs.AnyForm.{IsJson}
use Rattle.json_histories.specs.Json.{list}
use Rattle.json_histories.specs.Reads.{IsRead}
use Rattle.pattern_json.specs.Words.{word_form}
use Rattle.pattern_json.specs.declared.violation.Violation.{Violation}

-- the text is JSON of a list of three, of which the last two are read as these
pub record IsShownBy (text : List ℕ) (violation : Violation) : Type 0 where
  pub history : Data
  pub criterion : Data
  pub pattern : Data
  pub json : IsJson text (list (history ∷ criterion ∷ pattern ∷ []))
  pub is_criterion : IsRead (word_form name_of) criterion violation.criterion
  pub is_pattern : IsRead pattern_form pattern violation.pattern

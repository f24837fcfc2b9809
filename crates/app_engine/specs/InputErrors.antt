-- Why an input is refused that is a list which begins with a history.
use Rattle.std.specs.Prelude.{◌≡◌, ◌⊎◌, ⊤, ℕ, List, Option}
use Rattle.serde_json.specs.Data.{Data}
use Rattle.json_histories.specs.declared.read_error.ReadError.{ReadError}
use Rattle.json_histories.specs.declared.read_error.ReadError.TheVariants as errors
use Rattle.json_histories.specs.Json.{elements}
use Rattle.json_histories.specs.AnyForm.{IsJson}
use Rattle.json_histories.specs.Refusals.{IsFirst}
use Rattle.app_engine.specs.declared.failure.RunError.{RunError}
use Rattle.app_engine.specs.declared.failure.RunError.TheVariants.{History, Memory}

module _ (refusal_of : Option (List Data) → Option ReadError) (IsWrong : RunError → Data → Type 0) where
  -- why a text is refused: it is no JSON, or the first refusal of its value is that of the list or of the history, or else what comes
  -- after the history is wrong
  abbrev pub IsTextError : List ℕ → RunError → Type 0
  IsTextError text (History refusal) =
      ((refusal ≡ errors.NotJson) × ((d : Data) → ¬ IsJson text d))
      ⊎ ((d : Data) × IsJson text d × IsFirst (refusal_of (elements d)) refusal)
  IsTextError text Memory = ⊤
  IsTextError text error = (d : Data) × IsJson text d × IsWrong error d

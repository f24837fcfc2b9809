-- What is drawn of a history.
use Rattle.std.specs.Prelude.{ℕ, List}
use Rattle.json_histories.specs.declared.any_history.AnyHistory.{AnyHistory}
use Rattle.json_histories.specs.AnyForm.{form_of, IsJson}
use Rattle.show_pictures.specs.Markup.{IsSvgElement}
use Rattle.app_orders.specs.declared.length.Length.{Length}
use Rattle.app_orders.specs.declared.length.Length.TheVariants.{Limited}
use Rattle.app_explanations.specs.Lengths.{IsHistoryOf}

-- the input is a history, which may be that long, and the text one SVG element; what the picture shows of the history is no promise
pub record IsPictureAt (long : Length) (input text : List ℕ) : Type 0 where
  pub history : AnyHistory
  pub is_history : IsHistoryOf long history
  pub read : IsJson input (form_of history)
  pub drawn : IsSvgElement text

abbrev pub IsPicture : List ℕ → List ℕ → Type 0
IsPicture = IsPictureAt Limited

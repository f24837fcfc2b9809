-- Which texts say that their lines stand in the order of time.
use Rattle.std.specs.Prelude.{◌≡◌, true, ℕ, List, Some}
use Rattle.std.specs.List.{All}
use Rattle.json_bounded.specs.Text.{IsJson}
use Rattle.json_lines.specs.Lines.{is_blank}
use Rattle.serde_json.specs.Data.{Data}
use Rattle.log_reader.specs.EventLines.{IsLineOf}
use Rattle.log_reader.specs.Forms.{ordered, said_at}
use Rattle.log_reader.specs.Logs.{IsFull}

abbrev pub AreBlank : List (List ℕ) → Type 0
AreBlank lines = All (λ line. is_blank line ≡ true) lines

-- the first line that is not blank says it
pub record SaysOrderFirst (text : List ℕ) : Type 0 where
  pub number : ℕ
  pub line : List ℕ
  pub is_line : IsLineOf text number line
  pub after_blanks : AreBlank is_line.before
  pub full : IsFull line
  pub value : Data
  pub json : IsJson line value
  pub form : said_at value ≡ Some ordered

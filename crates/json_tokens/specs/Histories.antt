-- What is read of a value that may be a history.
use Rattle.std.specs.Prelude.{◌≡◌, Result, MatchResult}
use Rattle.serde_json.specs.Data.{Data}
use Rattle.json_histories.specs.declared.any_history.AnyHistory.{AnyHistory}
use Rattle.json_histories.specs.declared.read_error.ReadError.{ReadError}
use Rattle.json_histories.specs.AnyForm.{first_refusal, form_of, IsAnyHistory}
use Rattle.json_histories.specs.Refusals.{IsFirst}

-- the history whose form the value is, or its first refusal
abbrev pub IsHistoryIn : Data → Result AnyHistory ReadError → Type 0
IsHistoryIn d read = MatchResult read (λ h. (d ≡ form_of h) × IsAnyHistory h) (IsFirst (first_refusal d))

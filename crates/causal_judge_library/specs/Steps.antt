-- What the steps of a call tell.
use Rattle.std.specs.Prelude.{◌≡◌, ◌⊎◌, ℕ, List, Result, Ok, Err, String, Vec, string_bytes}
use Rattle.app_engine.specs.Failure.{failure_status}
use Rattle.app_engine.specs.declared.answered.Answered.{Answered}
use Rattle.app_engine.specs.declared.failure.RunError.{RunError}
use Rattle.app_engine.specs.declared.failure.RunError.TheVariants as failures
use Rattle.app_logs.specs.Failure.{status_for}
use Rattle.app_logs.specs.declared.failure.LogError.{LogError}
use Rattle.app_pages.specs.declared.failure.PageError.{PageError}
use Rattle.app_pages.specs.declared.failure.PageError.TheVariants.{TooLong, Log}
use Rattle.app_pages.specs.declared.logs.LogPage.{LogPage}
use Rattle.causal_judge_library.specs.Calls.{IsTold, IsUntold, log_refusal_text, refusal_text}
use Rattle.causal_judge_library.specs.declared.TheConstants.{REFUSED, ANSWERED}

module _ (before after : List ℕ) (needed status : ℕ) where
  -- the line of a refusal is told, or that memory ran out
  abbrev pub TellsFailure : RunError → Type 0
  TellsFailure error =
      ((failure_status error ≡ 1) × IsTold before after needed REFUSED status (refusal_text error)) ⊎ IsUntold before after needed status

  -- what came of a call is told
  abbrev pub TellsOf : {Z : Type 0} → Result (String Z) RunError → Type 0
  TellsOf (Ok text) = IsTold before after needed ANSWERED status (string_bytes text)
  TellsOf (Err error) = TellsFailure error

  -- the same of a page
  abbrev pub TellsOfPage : {Z : Type 0} → Result (Vec ℕ Z) RunError → Type 0
  TellsOfPage (Ok page) = IsTold before after needed ANSWERED status page.items
  TellsOfPage (Err error) = TellsFailure error

  -- the same of a log, and of its page
  abbrev pub TellsLogFailure : List ℕ → LogError → Type 0
  TellsLogFailure told error =
      ((status_for error ≡ 1) × IsTold before after needed REFUSED status (log_refusal_text error told)) ⊎ IsUntold before after needed status

  abbrev pub TellsOfLog : List ℕ → Result Answered LogError → Type 0
  TellsOfLog told (Ok answered) = IsTold before after needed ANSWERED status (string_bytes answered.text)
  TellsOfLog told (Err error) = TellsLogFailure told error

  abbrev pub TellsOfLogPage : List ℕ → Result LogPage PageError → Type 0
  TellsOfLogPage told (Ok page) = IsTold before after needed ANSWERED status page.bytes.items
  TellsOfLogPage told (Err TooLong) = TellsFailure failures.TooLong
  TellsOfLogPage told (Err (Log error)) = TellsLogFailure told error

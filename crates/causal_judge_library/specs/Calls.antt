-- What a call from C answers: a status, a text, and how many bytes the text has.
use Rattle.std.specs.Prelude.{◌≡◌, ◌⊎◌, ◌≤◌, ◌<◌, ℕ, List, ◌++◌, Bool, codes, drop, length, Some}
use Rattle.app_orders.specs.declared.length.Length.{Length}
use Rattle.app_orders.specs.declared.log_order.LogOrder.{LogOrder}
use Rattle.app_orders.specs.declared.order.Order.{Order}
use Rattle.app_orders.specs.declared.page.TheConstants.{USUAL_LISTED}
use Rattle.app_engine.specs.Failure.{failure_status, line_for}
use Rattle.app_engine.specs.InputLengths.{length_for, most_bytes}
use Rattle.app_engine.specs.Running.{Fails, IsOutput}
use Rattle.app_engine.specs.declared.failure.RunError.{RunError}
use Rattle.app_engine.specs.declared.failure.RunError.TheVariants as failures
use Rattle.app_engine.specs.declared.input.TheConstants.{MAX_INPUT_BYTES}
use Rattle.json_lines.specs.declared.outcome.Outcome.{Outcome}
use Rattle.log_reader.specs.Logs.{IsRefusedLog}
use Rattle.log_reader.specs.declared.refusal.Refusal.{Refusal}
use Rattle.app_logs.specs.Alone.{IsAnswerTo}
use Rattle.app_logs.specs.Failure.{lines_for, refusal_lines}
use Rattle.app_logs.specs.declared.failure.LogError.{LogError}
use Rattle.app_pages.specs.Writing.{IsPageOfInput, IsPageOfLog, listing_order}
use Rattle.causal_judge_library.specs.declared.TheConstants.{TOO_SMALL, NO_MEMORY, REFUSED, ANSWERED}

-- the text stands first in the buffer, and behind it what stood there before, where it has room in it; else the buffer is as it
-- was, which its own status says. How many bytes the text has is told in both cases
pub record IsTold (before after : List ℕ) (needed : ℕ) (fitting status : ℕ) (text : List ℕ) : Type 0 where
  pub needed_bytes : needed ≡ length text
  pub whole : length text ≤ length before → (status ≡ fitting) × (after ≡ text ++ drop (length text) before)
  pub too_small : length before < length text → (status ≡ TOO_SMALL) × (after ≡ before)

-- nothing is told: the buffer is as it was
pub record IsUntold (before after : List ℕ) (needed status : ℕ) : Type 0 where
  pub no_bytes : needed ≡ 0
  pub same : after ≡ before
  pub memory : status ≡ NO_MEMORY

-- the line of a failed run, and a line feed
abbrev pub refusal_text : RunError → List ℕ
refusal_text error = line_for error ++ codes "\n"

-- the lines of a log that has no answer, and a line feed
abbrev pub log_refusal_text : LogError → List ℕ → List ℕ
log_refusal_text error told = lines_for error told ++ codes "\n"

module _ (order : Order) (input before after : List ℕ) (needed status : ℕ) where
  -- the output for the whole input is told, as a run of the order writes it
  abbrev pub TellsOutput : Type 0
  TellsOutput =
      (text : List ℕ) × (length input ≤ most_bytes (length_for order)) × IsOutput order input text × IsTold before after needed ANSWERED status text

  -- the line is told by which a run of the order would refuse the input
  abbrev pub TellsRefusal : Type 0
  TellsRefusal =
      (error : RunError) × Fails order (Some input) error × (failure_status error ≡ 1) × IsTold before after needed REFUSED status (refusal_text error)

  -- what a call tells: an output, a refusal, or that memory ran out
  abbrev pub Tells : Type 0
  Tells = TellsOutput ⊎ (TellsRefusal ⊎ IsUntold before after needed status)

module _ (long : Length) (input before after : List ℕ) (needed status : ℕ) where
  -- the page of the whole input is told, with as many reads as a page lists if no number is given
  abbrev pub TellsPageText : Type 0
  TellsPageText =
      (text : List ℕ) × (length input ≤ most_bytes long) × IsPageOfInput USUAL_LISTED long input text
      × IsTold before after needed ANSWERED status text

  -- what a call for a page tells: that page, a refusal, or that memory ran out
  abbrev pub TellsPage : Type 0
  TellsPage =
      TellsPageText
      ⊎ (TellsRefusal (listing_order USUAL_LISTED long) input before after needed status ⊎ IsUntold before after needed status)

module _ (input before after : List ℕ) (needed status : ℕ) where
  -- the lines are told on the first line of a log that is refused, with whatever is told of that line besides
  abbrev pub TellsLogRefusal : Type 0
  TellsLogRefusal =
      (refusal : Refusal) × (told : List ℕ) × IsRefusedLog input refusal
      × IsTold before after needed REFUSED status (refusal_lines refusal told ++ codes "\n")

  -- what a call on a log tells: an answer, a refused line, or that memory ran out
  abbrev pub TellsLog : LogOrder → Type 0
  TellsLog order =
      ((text : List ℕ) × (outcome : Outcome) × IsAnswerTo order input text outcome × IsTold before after needed ANSWERED status text)
      ⊎ (TellsLogRefusal ⊎ IsUntold before after needed status)

  -- the page of a log is told
  abbrev pub TellsLogPageText : Type 0
  TellsLogPageText =
      (text : List ℕ) × (torn : Bool) × (length input ≤ MAX_INPUT_BYTES) × IsPageOfLog USUAL_LISTED torn input text
      × IsTold before after needed ANSWERED status text

  -- that a log is too long for a page is told
  abbrev pub TellsTooLong : Type 0
  TellsTooLong = (MAX_INPUT_BYTES < length input) × IsTold before after needed REFUSED status (refusal_text failures.TooLong)

  -- what a call for the page of a log tells: that page, that the log is too long or a line of it refused, or that memory ran out
  abbrev pub TellsLogPage : Type 0
  TellsLogPage = TellsLogPageText ⊎ (TellsTooLong ⊎ (TellsLogRefusal ⊎ IsUntold before after needed status))

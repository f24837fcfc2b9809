-- A call tells what came of it.
use Rattle.std.proofs.Common.{◌≤◌, ◌≡◌, ℕ, List, Some, arith, length, inl, inr, subst}
use Rattle.std.specs.Prelude.{Result, Ok, Err, IfErr, IfOk, OnOk, String, Vec, string_bytes}
use Rattle.app_orders.specs.declared.length.Length.{Length}
use Rattle.app_orders.specs.declared.log_order.LogOrder.{LogOrder}
use Rattle.app_orders.specs.declared.order.Order.{Order}
use Rattle.app_orders.specs.declared.page.TheConstants.{USUAL_LISTED}
use Rattle.app_engine.specs.InputLengths.{length_for, most_bytes}
use Rattle.app_engine.specs.Running.{Fails, IsOfInput, IsOutput}
use Rattle.app_engine.specs.declared.answered.Answered.{Answered}
use Rattle.app_engine.specs.declared.failure.RunError.{RunError}
use Rattle.app_engine.specs.declared.input.TheConstants.{MAX_INPUT_BYTES}
use Rattle.log_reader.specs.Logs.{IsRefusedLog}
use Rattle.log_reader.specs.declared.refusal.Refusal.{Refusal}
use Rattle.app_logs.specs.Alone.{IsAnswerTo, IsMemoryError}
use Rattle.app_logs.specs.declared.failure.LogError.{LogError}
use Rattle.app_logs.specs.declared.failure.LogError.TheVariants.{Refused, Memory, ReadFault, WriteFault}
use Rattle.app_pages.specs.Writing.{FailsToWrite, IsPageOfInput, IsPageOfLog, listing_order}
use Rattle.app_pages.specs.declared.failure.PageError.{PageError}
use Rattle.app_pages.specs.declared.failure.PageError.TheVariants.{TooLong, Log}
use Rattle.app_pages.specs.declared.logs.LogPage.{LogPage}
use Rattle.causal_judge_library.specs.Calls.{Tells, TellsLog, TellsLogPage, TellsPage}
use Rattle.causal_judge_library.specs.Steps.{TellsOf, TellsOfLog, TellsOfLogPage, TellsOfPage}

-- a line of the input is refused that the log of a page has
refused : (input : List ℕ) (refusal : Refusal) → IsOfInput MAX_INPUT_BYTES (Some input) (λ bytes. IsRefusedLog bytes refusal) → IsRefusedLog input refusal
refused input refusal of_input = subst (λ (bytes : List ℕ). IsRefusedLog bytes refusal) of_input.1 of_input.3

-- the statuses of other failures are not that of a refusal
no_memory : ◌≡◌ {A = ℕ} 4 1 → ⊥
no_memory is_one = omega arith

no_fault : ◌≡◌ {A = ℕ} 3 1 → ⊥
no_fault is_one = omega arith

module _ (input before after : List ℕ) (needed status : ℕ) where
  pub tells : {Z : Type 0} (order : Order) (outcome : Result (String Z) RunError)
      → OnOk outcome (length input ≤ most_bytes (length_for order)) → IfOk outcome (λ text. IsOutput order input (string_bytes text))
      → IfErr outcome (Fails order (Some input)) → TellsOf before after needed status outcome → Tells order input before after needed status
  tells order (Ok text) within answer failed told = inl (string_bytes text, within, answer, told)
  tells order (Err error) within answer failed (inl (one, told)) = inr (inl (error, failed, one, told))
  tells order (Err error) within answer failed (inr untold) = inr (inr untold)

  pub tells_page : {Z : Type 0} (long : Length) (outcome : Result (Vec ℕ Z) RunError)
      → OnOk outcome (length input ≤ most_bytes long) → IfOk outcome (λ page. IsPageOfInput USUAL_LISTED long input page.items)
      → IfErr outcome (Fails (listing_order USUAL_LISTED long) (Some input)) → TellsOfPage before after needed status outcome
      → TellsPage long input before after needed status
  tells_page long (Ok page) within is_page failed told = inl (page.items, within, is_page, told)
  tells_page long (Err error) within is_page failed (inl (one, told)) = inr (inl (error, failed, one, told))
  tells_page long (Err error) within is_page failed (inr untold) = inr (inr untold)

  pub tells_log : (order : LogOrder) (told : List ℕ) (outcome : Result Answered LogError)
      → IfOk outcome (λ answered. IsAnswerTo order input (string_bytes answered.text) answered.outcome) → IfErr outcome (IsMemoryError input)
      → TellsOfLog before after needed status told outcome → TellsLog input before after needed status order
  tells_log order told (Ok answered) answer failed is_told = inl (string_bytes answered.text, answered.outcome, answer, is_told)
  tells_log order told (Err (Refused refusal)) answer failed (inl (one, is_told)) = inr (inl (refusal, told, failed, is_told))
  tells_log order told (Err Memory) answer failed (inl (one, is_told)) = absurd (no_memory one)
  tells_log order told (Err ReadFault) answer failed (inl (one, is_told)) = absurd failed
  tells_log order told (Err WriteFault) answer failed (inl (one, is_told)) = absurd failed
  tells_log order told (Err (Refused refusal)) answer failed (inr untold) = inr (inr untold)
  tells_log order told (Err Memory) answer failed (inr untold) = inr (inr untold)
  tells_log order told (Err ReadFault) answer failed (inr untold) = inr (inr untold)
  tells_log order told (Err WriteFault) answer failed (inr untold) = inr (inr untold)

  pub tells_log_page : (told : List ℕ) (outcome : Result LogPage PageError) → OnOk outcome (length input ≤ MAX_INPUT_BYTES)
      → IfOk outcome (λ page. IsPageOfLog USUAL_LISTED page.torn input page.bytes.items) → IfErr outcome (FailsToWrite USUAL_LISTED (Some input))
      → TellsOfLogPage before after needed status told outcome → TellsLogPage input before after needed status
  tells_log_page told (Ok page) within is_page failed is_told = inl (page.bytes.items, page.torn, within, is_page, is_told)
  tells_log_page told (Err TooLong) within is_page failed (inl (one, is_told)) = inr (inl (failed, is_told))
  tells_log_page told (Err TooLong) within is_page failed (inr untold) = inr (inr (inr untold))
  tells_log_page told (Err (Log (Refused refusal))) within is_page failed (inl (one, is_told)) = inr (inr (inl (refusal, told, refused input refusal failed, is_told)))
  tells_log_page told (Err (Log (Refused refusal))) within is_page failed (inr untold) = inr (inr (inr untold))
  tells_log_page told (Err (Log Memory)) within is_page failed (inl (one, is_told)) = absurd (no_memory one)
  tells_log_page told (Err (Log Memory)) within is_page failed (inr untold) = inr (inr (inr untold))
  tells_log_page told (Err (Log ReadFault)) within is_page failed (inl (one, is_told)) = absurd (no_fault one)
  tells_log_page told (Err (Log ReadFault)) within is_page failed (inr untold) = inr (inr (inr untold))
  tells_log_page told (Err (Log WriteFault)) within is_page failed (inl (one, is_told)) = absurd (no_fault one)
  tells_log_page told (Err (Log WriteFault)) within is_page failed (inr untold) = inr (inr (inr untold))

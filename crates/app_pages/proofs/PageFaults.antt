-- What a failure of reading a log, of answering it or of writing its page says of the page.
use Rattle.std.proofs.Common.{◌≡◌, List, ℕ, Result, Err}
use Rattle.std.specs.Prelude.{◌≢◌}
use Rattle.app_engine.specs.Failure.{IsInputError}
use Rattle.app_engine.specs.declared.failure.RunError.{RunError}
use Rattle.app_engine.specs.declared.failure.RunError.TheVariants as failures
use Rattle.app_logs.specs.Alone.{IsMemoryError}
use Rattle.app_logs.specs.declared.failure.LogError.{LogError}
use Rattle.app_logs.specs.declared.failure.LogError.TheVariants.{Refused, Memory, ReadFault, WriteFault}
use Rattle.app_pages.specs.Endings.{ReadLogWhole}
use Rattle.app_pages.specs.Failure.{page_error_by}
use Rattle.app_pages.specs.declared.failure.PageError.{PageError}
use Rattle.app_pages.specs.declared.failure.PageError.TheVariants.{Log}

-- a log that could not be read was not read whole
pub not_whole : {X : Type 0} (Holds : Type 0) (r : Result X PageError) (error : PageError) (failure : RunError) → r ≡ Err error
    → error ≡ page_error_by failure → IsInputError failure → ReadLogWhole r Holds
not_whole Holds r error failures.TooLong is same what = rw (is, same) tt
not_whole Holds r error failures.ReadFault is same what = rw (is, same) tt
not_whole Holds r error failures.Memory is same what = rw (is, same) tt
not_whole Holds r error failure is same what = absurd what

-- what holds of a log that was read whole holds whatever else failed
pub whole : {X : Type 0} (Holds : Type 0) (r : Result X PageError) (error : PageError) (inner : LogError) → Holds → r ≡ Err error → error ≡ Log inner
    → ReadLogWhole r Holds
whole Holds r error (Refused refusal) holds is same = rw (is, same) holds
whole Holds r error Memory holds is same = rw (is, same) tt
whole Holds r error ReadFault holds is same = rw (is, same) tt
whole Holds r error WriteFault holds is same = rw (is, same) holds

-- where a log could not be read, or had no answer, the writer did not fail
pub unread_not_written : (failure : RunError) → IsInputError failure → page_error_by failure ≢ Log WriteFault
unread_not_written failures.TooLong what is = absurd cc
unread_not_written failures.ReadFault what is = absurd cc
unread_not_written failures.Memory what is = absurd cc
unread_not_written failure what is = absurd what

pub unanswered_not_written : (bytes : List ℕ) (inner : LogError) → IsMemoryError bytes inner → Log inner ≢ Log WriteFault
unanswered_not_written bytes (Refused refusal) what is = absurd cc
unanswered_not_written bytes Memory what is = absurd cc
unanswered_not_written bytes ReadFault what is = absurd what
unanswered_not_written bytes WriteFault what is = absurd what

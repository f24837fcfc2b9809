-- Why a log has no page.
use Rattle.app_engine.specs.declared.failure.RunError.{RunError}
use Rattle.app_engine.specs.declared.failure.RunError.TheVariants as failures
use Rattle.app_logs.specs.declared.failure.LogError.TheVariants.{Memory, ReadFault, WriteFault}
use Rattle.app_pages.specs.declared.failure.PageError.{PageError}
use Rattle.app_pages.specs.declared.failure.PageError.TheVariants.{TooLong, Log}

-- the error for a failure of reading a log as an input, or of writing its page
abbrev pub page_error_by : RunError → PageError
page_error_by failures.TooLong = TooLong
page_error_by failures.ReadFault = Log ReadFault
page_error_by failures.WriteFault = Log WriteFault
page_error_by _ = Log Memory

-- Where a page stands that was not written whole.
use Rattle.std.specs.Prelude.{⊤, ℕ, List, Bool, Option, Result, Ok, Err}
use Rattle.json_lines.specs.WriteCalls.{AppendsFront}
use Rattle.app_logs.specs.declared.failure.LogError.TheVariants.{Refused, Memory, ReadFault, WriteFault}
use Rattle.app_pages.specs.declared.failure.PageError.{PageError}
use Rattle.app_pages.specs.declared.failure.PageError.TheVariants.{TooLong, Log}
use Rattle.app_pages.specs.Writing.{IsPageOfLog}

-- this holds where a log was read whole: after its page, where a line is refused, and where the page could not be written
abbrev pub ReadLogWhole : {X : Type 0} → Result X PageError → Type 0 → Type 0
ReadLogWhole (Ok x) Holds = Holds
ReadLogWhole (Err TooLong) Holds = ⊤
ReadLogWhole (Err (Log Memory)) Holds = ⊤
ReadLogWhole (Err (Log ReadFault)) Holds = ⊤
ReadLogWhole (Err (Log WriteFault)) Holds = Holds
ReadLogWhole (Err (Log (Refused refusal))) Holds = Holds

-- a beginning of a page of an input was written: the writer holds it after what it held, where it tells its bytes
abbrev pub WritesPageFront : (List ℕ → List ℕ → Type 0) → List ℕ → Option (List ℕ) → Option (List ℕ) → Type 0
WritesPageFront IsPage input before after = (text : List ℕ) × IsPage input text × AppendsFront before after text

-- the text is the page of a log, whose last line may be torn
abbrev pub IsSomePageOfLog : ℕ → List ℕ → List ℕ → Type 0
IsSomePageOfLog most bytes text = (torn : Bool) × IsPageOfLog most torn bytes text

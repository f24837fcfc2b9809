-- Where a run stands that wrote no whole answer.
use Rattle.std.specs.Prelude.{⊤, ℕ, List, Option, Result, Ok, Err}
use Rattle.app_orders.specs.declared.order.Order.{Order}
use Rattle.app_engine.specs.declared.failure.RunError.{RunError}
use Rattle.app_engine.specs.declared.failure.RunError.TheVariants.{TooLong, Memory, ReadFault}
use Rattle.app_engine.specs.Running.{IsOutput}
use Rattle.json_lines.specs.WriteCalls.{AppendsFront}

-- this holds where the input was read whole: after an answer, where the input is refused, and where the answer could not be written
abbrev pub ReadWhole : {X : Type 0} → Result X RunError → Type 0 → Type 0
ReadWhole (Ok x) Holds = Holds
ReadWhole (Err TooLong) Holds = ⊤
ReadWhole (Err Memory) Holds = ⊤
ReadWhole (Err ReadFault) Holds = ⊤
ReadWhole (Err _) Holds = Holds

-- a beginning of the output for an input was written: the writer holds it after what it held, where it tells its bytes
abbrev pub WritesFront : Order → List ℕ → Option (List ℕ) → Option (List ℕ) → Type 0
WritesFront order input before after = (text : List ℕ) × IsOutput order input text × AppendsFront before after text

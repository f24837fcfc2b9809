-- What can come in the place of a report on an input.
use Rattle.std.specs.Prelude.{⊤, ℕ, List}
use Rattle.app_orders.specs.declared.length.Length.{Length}
use Rattle.app_engine.specs.declared.failure.RunError.{RunError}
use Rattle.app_engine.specs.declared.failure.RunError.TheVariants.{History, Memory}
use Rattle.app_explanations.specs.Lengths.{IsRefusedAs}

-- its history is refused, or memory ran out
abbrev pub IsReportError : Length → List ℕ → RunError → Type 0
IsReportError long input (History refusal) = IsRefusedAs long input refusal
IsReportError long input Memory = ⊤
IsReportError long input _ = ⊥

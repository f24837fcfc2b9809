use Rattle.std.proofs.Common.{IfOk, subst}
use Rattle.std.specs.Prelude.{IfSome, string_bytes}
use Rattle.order_memory.specs.Memory.{MemoryHistory}
use Rattle.json_histories.specs.declared.any_history.AnyHistory.TheVariants as histories
use Rattle.app_orders.specs.declared.length.Length.TheVariants.{Limited}
use Rattle.app_explanations.specs.CoresInWords.{IsTextOfCore}
use Rattle.app_explanations.proofs.finding_lines.lines_of_pattern.Goals as goal

pub returns-in-Memory : goal.returns-in-Memory
returns-in-Memory g c =
    rw c.in-Memory.is
    (subst
    (λ (h : MemoryHistory). IfOk c.lines_with_core.result (λ lines. IfSome lines.core (λ t. IsTextOfCore Limited (histories.Memory h) c.args.criterion (string_bytes t))))
    c.history.ensures c.lines_with_core.ensures)

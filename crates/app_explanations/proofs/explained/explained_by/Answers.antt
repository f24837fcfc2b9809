use Rattle.std.proofs.Common.{IfOk, subst}
use Rattle.std.specs.Prelude.{string_bytes}
use Rattle.std.proofs.lemmas.Result.{IfOk-weaker}
use Rattle.order_memory.specs.Memory.{MemoryHistory}
use Rattle.json_histories.specs.declared.any_history.AnyHistory.TheVariants as histories
use Rattle.app_orders.specs.declared.length.Length.TheVariants.{Any}
use Rattle.app_explanations.specs.ExplanationTexts.{IsExplainedBy}
use Rattle.app_explanations.proofs.Reports.{explained_any}
use Rattle.app_explanations.proofs.explained.explained_by.Goals as goal

pub returns-in-Some : goal.returns-in-Some
returns-in-Some g c =
    let same = rw c.in-Some.is at c.in_ok-small.ensures.same in
    subst (λ (h : MemoryHistory). IfOk c.small_as.result (λ text. IsExplainedBy Any c.args.clients c.args.form (histories.Memory h) (string_bytes text))) same
    (IfOk-weaker c.small_as.result _ _ (λ text said. explained_any c.in-Some.small c.args.clients c.args.form (string_bytes text) said) c.small_as.ensures)

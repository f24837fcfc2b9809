use Rattle.std.proofs.Common.{IfOk, subst}
use Rattle.std.specs.Prelude.{string_bytes}
use Rattle.std.proofs.lemmas.Result.{IfOk-weaker}
use Rattle.order_memory.specs.Memory.{MemoryHistory}
use Rattle.json_histories.specs.declared.any_history.AnyHistory.TheVariants as histories
use Rattle.app_orders.specs.declared.length.Length.TheVariants.{Any}
use Rattle.app_explanations.specs.ListTexts.{IsListBy}
use Rattle.app_explanations.proofs.Reports.{listed_any}
use Rattle.app_explanations.proofs.fault_lists.list_of_long.Goals as goal

pub returns-in-Some : goal.returns-in-Some
returns-in-Some g c =
    let same = rw c.in-Some.is at c.in_ok-small.ensures.same in
    subst (λ (h : MemoryHistory). IfOk c.list_in_small.result (λ text. IsListBy Any c.args.clients c.args.form c.args.most (histories.Memory h) (string_bytes text)))
    same
    (IfOk-weaker c.list_in_small.result _ _ (λ text said. listed_any c.in-Some.small c.args.clients c.args.form c.args.most (string_bytes text) said)
    c.list_in_small.ensures)

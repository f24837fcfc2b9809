use Rattle.std.proofs.Common.{IfOk, subst, sym}
use Rattle.std.specs.Prelude.{string_bytes}
use Rattle.json_histories.specs.declared.any_history.AnyHistory.{AnyHistory}
use Rattle.app_orders.specs.declared.length.Length.TheVariants.{Limited}
use Rattle.app_explanations.specs.ListTexts.{IsListInWords}
use Rattle.app_explanations.proofs.fault_lists.words_in_limited.Goals as goal

pub returns-in-Some : goal.returns-in-Some
returns-in-Some g c =
    let same = rw c.in-Some.is at c.as_memory.ensures.memory in
    subst (λ (x : AnyHistory). IfOk c.words_on_memory.result (λ text. IsListInWords Limited c.args.most x (string_bytes text))) (sym same)
    c.words_on_memory.ensures

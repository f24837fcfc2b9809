use Rattle.std.proofs.Common.{IfOk, subst}
use Rattle.std.specs.Prelude.{string_bytes}
use Rattle.order_memory.specs.Memory.{MemoryHistory}
use Rattle.json_histories.specs.declared.any_history.AnyHistory.TheVariants as histories
use Rattle.app_findings.specs.declared.kept.Kept.TheVariants.{Reasons}
use Rattle.app_orders.specs.declared.length.Length.TheVariants.{Limited}
use Rattle.app_explanations.specs.ListTexts.{IsListInWords}
use Rattle.app_explanations.proofs.ListedTexts.{listed_in_words}
use Rattle.app_explanations.proofs.Reports.{found_limited}
use Rattle.app_explanations.proofs.fault_lists.words_on_memory.Goals as goal

pub returns : goal.returns
returns g c =
    let findings = c.in_ok-findings.findings in
    subst (λ (h : MemoryHistory). IfOk c.words_on_findings-text.result (λ text. IsListInWords Limited c.args.most (histories.Memory h) (string_bytes text)))
    c.in_ok-memory.ensures
    (listed_in_words string_bytes Limited c.args.most (histories.Memory c.in_ok-memory.memory) findings c.words_on_findings-text.result
    (found_limited Reasons (histories.Memory c.in_ok-memory.memory) findings c.in_ok-findings.ensures) c.words_on_findings-text.ensures)

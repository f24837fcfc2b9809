use Rattle.std.proofs.Common.{IfOk, subst}
use Rattle.std.specs.Prelude.{string_bytes}
use Rattle.order_memory.specs.Memory.{MemoryHistory}
use Rattle.json_histories.specs.declared.any_history.AnyHistory.TheVariants as histories
use Rattle.app_findings.specs.declared.kept.Kept.TheVariants.{Reasons}
use Rattle.app_orders.specs.declared.length.Length.TheVariants.{Limited}
use Rattle.app_explanations.specs.ExplanationTexts.{IsWordsOf}
use Rattle.app_explanations.proofs.ListedTexts.{told_in_words}
use Rattle.app_explanations.proofs.Reports.{found_limited}
use Rattle.app_explanations.proofs.explained.words_of_small.Goals as goal

pub returns : goal.returns
returns g c =
    let findings = c.in_ok-findings.findings in
    subst (λ (h : MemoryHistory). IfOk c.text_of_small-text.result (λ text. IsWordsOf Limited (histories.Memory h) (string_bytes text))) c.in_ok-memory.ensures
    (told_in_words string_bytes Limited (histories.Memory c.in_ok-memory.memory) findings c.text_of_small-text.result
    (found_limited Reasons (histories.Memory c.in_ok-memory.memory) findings c.in_ok-findings.ensures) c.text_of_small-text.ensures)

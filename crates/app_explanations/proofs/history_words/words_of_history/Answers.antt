use Rattle.std.proofs.Common.{IfOk, subst, sym}
use Rattle.std.specs.Prelude.{string_bytes}
use Rattle.json_histories.specs.declared.any_history.AnyHistory.{AnyHistory}
use Rattle.app_orders.specs.declared.length.Length.TheVariants.{Limited}
use Rattle.app_explanations.specs.ExplanationTexts.{IsWordsOf}
use Rattle.app_explanations.proofs.history_words.words_of_history.Goals as goal

pub returns-in-Some : goal.returns-in-Some
returns-in-Some g c =
    let same = rw c.in-Some.is at c.as_memory.ensures.memory in
    subst (λ (x : AnyHistory). IfOk c.words_of_memory.result (λ text. IsWordsOf Limited x (string_bytes text))) (sym same)
    c.words_of_memory.ensures

use Rattle.std.specs.Prelude.{string_bytes}
use Rattle.json_histories.specs.declared.any_history.AnyHistory.{AnyHistory}
use Rattle.cert_check.specs.declared.criterion.Criterion.{Criterion}
use Rattle.app_orders.specs.declared.length.Length.{Length}
use Rattle.app_explanations.specs.CoresInWords.{AreWordsOn}
use Rattle.app_explanations.proofs.finding_text.text_of_words.Given as goal

abbrev pub invariant-loop-line : goal.invariant-loop-line
invariant-loop-line l = (long : Length) (history : AnyHistory) (criterion : Criterion) → AreWordsOn long history criterion (string_bytes l.text)

-- What two reports on one history have in common, as the one that `judge` writes and the one that `explain` shows.
use Rattle.std.specs.Prelude.{◌≡◌, ◌≢◌}
use Rattle.cert_check.specs.declared.criterion.Criterion.{Criterion}
use Rattle.json_histories.specs.declared.any_history.AnyHistory.{AnyHistory}
use Rattle.json_histories.specs.declared.any_history.AnyHistory.TheVariants.{Memory}
use Rattle.json_histories.specs.AnyForm.{IsAnyHistory}
use Rattle.live_case_board.specs.declared.answer.Answer.TheVariants.{Yes, No}
use Rattle.order_memory.specs.Memory.{IsDifferentiated}
use Rattle.pattern_check.specs.declared.kind.Kind.{Kind}
use Rattle.app_findings.specs.declared.finding.Findings.{Findings}
use Rattle.app_findings.specs.Findings.{answer_for, finding_for}
use Rattle.app_explanations.specs.Explaining.{word_of}

-- a memory of distinct values
abbrev pub HasDistinctValues : AnyHistory → Type 0
HasDistinctValues (Memory h) = IsDifferentiated h
HasDistinctValues _ = ⊥

-- one never says yes where the other says no; on a memory of distinct values both say yes or both say no, and within the limits the nos
-- name one kind
pub record Agree (history : AnyHistory) (first second : Findings) : Type 0 where
  pub first_yes : (criterion : Criterion) (kind : Kind) → answer_for first criterion ≡ Yes → answer_for second criterion ≢ No kind
  pub second_yes : (criterion : Criterion) (kind : Kind) → answer_for second criterion ≡ Yes → answer_for first criterion ≢ No kind
  pub same_words : HasDistinctValues history → (criterion : Criterion) → word_of (finding_for first criterion) ≡ word_of (finding_for second criterion)
  pub same_answers : HasDistinctValues history → IsAnyHistory history → (criterion : Criterion) → answer_for first criterion ≡ answer_for second criterion

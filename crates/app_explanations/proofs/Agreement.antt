-- Two reports on one history agree.
use Rattle.std.specs.Prelude.{◌≢◌, ⊤, codes}
use Rattle.std.proofs.Common.{◌≡◌, ◌<◌, ◌∙◌, ℕ, zero, suc, List, ap, arith, refl, sym}
use Rattle.cert_check.specs.declared.criterion.Criterion.{Criterion}
use Rattle.json_histories.specs.declared.any_history.AnyHistory.{AnyHistory}
use Rattle.json_histories.specs.declared.any_history.AnyHistory.TheVariants as histories
use Rattle.json_histories.specs.AnyForm.{IsAnyHistory}
use Rattle.live_case_board.specs.declared.answer.Answer.{Answer}
use Rattle.live_case_board.specs.declared.answer.Answer.TheVariants.{Yes, No, Unknown, Open}
use Rattle.order_memory.specs.Memory.{MemoryHistory}
use Rattle.pattern_check.specs.declared.kind.Kind.{Kind}
use Rattle.pattern_check.specs.declared.kind.Kind.TheVariants.{CyclicCO, ThinAirRead, WriteCOInitRead, WriteCORead, WriteHBInitRead, CyclicHB, CyclicCF}
use Rattle.pattern_search.specs.FirstKinds.{place_of}
use Rattle.app_orders.specs.declared.length.Length.{Length}
use Rattle.app_orders.specs.declared.length.Length.TheVariants.{Any, Limited}
use Rattle.app_findings.specs.declared.finding.Finding.{Finding}
use Rattle.app_findings.specs.declared.finding.Finding.TheVariants.{Met, Shown, Present, Unexplained}
use Rattle.app_findings.specs.declared.finding.Findings.{Findings}
use Rattle.app_findings.specs.Answers.{IsFirstNo, IsKnownOnDistinctValues, IsLongTrueOf, IsMet, IsTrueOf, LacksDistinctValues}
use Rattle.app_findings.specs.Findings.{EachIsTrueOf, answer_for, answer_of, finding_for}
use Rattle.app_explanations.specs.Agreeing.{Agree, HasDistinctValues}
use Rattle.app_explanations.specs.Explaining.{word_of}
use Rattle.app_explanations.specs.Report.{IsReportOf}

-- the kind at a place
abbrev kind_at : ℕ → Kind
kind_at zero = CyclicCO
kind_at (suc zero) = ThinAirRead
kind_at (suc (suc zero)) = WriteCOInitRead
kind_at (suc (suc (suc zero))) = WriteCORead
kind_at (suc (suc (suc (suc zero)))) = WriteHBInitRead
kind_at (suc (suc (suc (suc (suc zero))))) = CyclicHB
kind_at (suc (suc (suc (suc (suc (suc n)))))) = CyclicCF

kind_at-place : (kind : Kind) → kind_at (place_of kind) ≡ kind
kind_at-place CyclicCO = refl
kind_at-place ThinAirRead = refl
kind_at-place WriteCOInitRead = refl
kind_at-place WriteCORead = refl
kind_at-place WriteHBInitRead = refl
kind_at-place CyclicHB = refl
kind_at-place CyclicCF = refl

-- one kind comes first
one_first : (h : MemoryHistory) (criterion : Criterion) (k m : Kind) → IsFirstNo h criterion k → IsFirstNo h criterion m → k ≡ m
one_first h criterion k m first second =
    let below = λ (lt : place_of k < place_of m). second.1 k lt first.0.against first.0.present in
    let above = λ (lt : place_of m < place_of k). first.1 m lt second.0.against second.0.present in
    let place : place_of k ≡ place_of m = omega (arith, below, above) in
    sym (kind_at-place k) ∙ ap kind_at place ∙ kind_at-place m

-- whether the criterion is met, by an answer
abbrev word_for : Answer → List ℕ
word_for Yes = codes "yes"
word_for (No kind) = codes "no"
word_for (Unknown place) = codes "unknown"
word_for (Open n) = codes "open"

word_of-answer : (finding : Finding) → word_of finding ≡ word_for (answer_of finding)
word_of-answer (Met certificate) = refl
word_of-answer (Shown pattern) = refl
word_of-answer (Present kind) = refl
word_of-answer (Unexplained place certificate) = refl

lacks : (history : AnyHistory) → HasDistinctValues history → LacksDistinctValues history → ⊥
lacks (histories.Memory h) distinct repeated = repeated distinct
lacks (histories.Register h) distinct repeated = distinct
lacks (histories.Counter h) distinct repeated = distinct
lacks (histories.Set h) distinct repeated = distinct
lacks (histories.Queue h) distinct repeated = distinct
lacks (histories.Counters h) distinct repeated = distinct
lacks (histories.Sets h) distinct repeated = distinct
lacks (histories.Queues h) distinct repeated = distinct

module _ (history : AnyHistory) (criterion : Criterion) where
  -- an answer says whether the history meets the criterion, or nothing
  abbrev Says : Answer → Type 0
  Says Yes = IsMet history criterion
  Says (No kind) = ¬ IsMet history criterion
  Says (Unknown place) = ⊤
  Says (Open n) = ⊥

no_says : (history : AnyHistory) (criterion : Criterion) (kind : Kind) → IsTrueOf history criterion (No kind) → ¬ IsMet history criterion
no_says (histories.Memory h) criterion kind named = named.0.not_met
no_says (histories.Register h) criterion kind named = absurd named
no_says (histories.Counter h) criterion kind named = absurd named
no_says (histories.Set h) criterion kind named = absurd named
no_says (histories.Queue h) criterion kind named = absurd named
no_says (histories.Counters h) criterion kind named = absurd named
no_says (histories.Sets h) criterion kind named = absurd named
no_says (histories.Queues h) criterion kind named = absurd named

long_no_says : (history : AnyHistory) (criterion : Criterion) (kind : Kind) → IsLongTrueOf history criterion (No kind) → ¬ IsMet history criterion
long_no_says (histories.Memory h) criterion kind named = named.excluded.not_met
long_no_says (histories.Register h) criterion kind named = absurd named
long_no_says (histories.Counter h) criterion kind named = absurd named
long_no_says (histories.Set h) criterion kind named = absurd named
long_no_says (histories.Queue h) criterion kind named = absurd named
long_no_says (histories.Counters h) criterion kind named = absurd named
long_no_says (histories.Sets h) criterion kind named = absurd named
long_no_says (histories.Queues h) criterion kind named = absurd named

long_yes_says : (history : AnyHistory) (criterion : Criterion) → IsLongTrueOf history criterion Yes → IsMet history criterion
long_yes_says (histories.Memory h) criterion met = met
long_yes_says (histories.Register h) criterion met = met
long_yes_says (histories.Counter h) criterion met = met
long_yes_says (histories.Set h) criterion met = met
long_yes_says (histories.Queue h) criterion met = met
long_yes_says (histories.Counters h) criterion met = met
long_yes_says (histories.Sets h) criterion met = met
long_yes_says (histories.Queues h) criterion met = met

long_open_never : (history : AnyHistory) (criterion : Criterion) (n : ℕ) → IsLongTrueOf history criterion (Open n) → ⊥
long_open_never (histories.Memory h) criterion n never = never
long_open_never (histories.Register h) criterion n never = never
long_open_never (histories.Counter h) criterion n never = never
long_open_never (histories.Set h) criterion n never = never
long_open_never (histories.Queue h) criterion n never = never
long_open_never (histories.Counters h) criterion n never = never
long_open_never (histories.Sets h) criterion n never = never
long_open_never (histories.Queues h) criterion n never = never

module _ (history : AnyHistory) (criterion : Criterion) where
  says_true : (answer : Answer) → IsTrueOf history criterion answer → Says history criterion answer
  says_true Yes met = met
  says_true (No kind) named = no_says history criterion kind named
  says_true (Unknown place) said = tt
  says_true (Open n) never = absurd never

  says_long : (answer : Answer) → IsLongTrueOf history criterion answer → Says history criterion answer
  says_long Yes met = long_yes_says history criterion met
  says_long (No kind) named = long_no_says history criterion kind named
  says_long (Unknown place) said = tt
  says_long (Open n) never = absurd (long_open_never history criterion n never)

  says_at : (long : Length) (report : Findings) → IsReportOf long history report → Says history criterion (answer_for report criterion)
  says_at Limited report is = says_true (answer_for report criterion) (is.true_of criterion)
  says_at Any report is = says_long (answer_for report criterion) (is.true_of.each criterion)

  yes_or_no : (a b : Answer) (kind : Kind) → Says history criterion a → Says history criterion b → a ≡ Yes → b ≢ No kind
  yes_or_no Yes (No kind) m met unmet e f = unmet met
  yes_or_no Yes Yes m met too e f = absurd cc
  yes_or_no Yes (Unknown place) m met too e f = absurd cc
  yes_or_no Yes (Open n) m met too e f = absurd cc
  yes_or_no (No kind) b m is too e f = absurd cc
  yes_or_no (Unknown place) b m is too e f = absurd cc
  yes_or_no (Open n) b m is too e f = absurd cc

  module _ (distinct : HasDistinctValues history) where
    same_word : (a b : Answer) → Says history criterion a → Says history criterion b → IsKnownOnDistinctValues history a
        → IsKnownOnDistinctValues history b → word_for a ≡ word_for b
    same_word Yes Yes is too known both = refl
    same_word Yes (No kind) met unmet known both = absurd (unmet met)
    same_word (No kind) Yes unmet met known both = absurd (unmet met)
    same_word (No kind) (No m) is too known both = refl
    same_word (Unknown place) b is too known both = absurd (lacks history distinct known)
    same_word (Open n) b is too known both = absurd is
    same_word Yes (Unknown place) is too known both = absurd (lacks history distinct both)
    same_word Yes (Open n) is too known both = absurd too
    same_word (No kind) (Unknown place) is too known both = absurd (lacks history distinct both)
    same_word (No kind) (Open n) is too known both = absurd too

one_no : (history : AnyHistory) (criterion : Criterion) (k m : Kind) → IsTrueOf history criterion (No k) → IsTrueOf history criterion (No m) → k ≡ m
one_no (histories.Memory h) criterion k m first second = one_first h criterion k m first second
one_no (histories.Register h) criterion k m first second = absurd first
one_no (histories.Counter h) criterion k m first second = absurd first
one_no (histories.Set h) criterion k m first second = absurd first
one_no (histories.Queue h) criterion k m first second = absurd first
one_no (histories.Counters h) criterion k m first second = absurd first
one_no (histories.Sets h) criterion k m first second = absurd first
one_no (histories.Queues h) criterion k m first second = absurd first

-- on distinct values a true answer within the limits is the only one
same_answer : (history : AnyHistory) (criterion : Criterion) → HasDistinctValues history → (a b : Answer) → IsTrueOf history criterion a
    → IsTrueOf history criterion b → IsKnownOnDistinctValues history a → IsKnownOnDistinctValues history b → a ≡ b
same_answer history criterion distinct Yes Yes is too known both = refl
same_answer history criterion distinct Yes (No kind) met named known both = absurd (no_says history criterion kind named met)
same_answer history criterion distinct (No kind) Yes named met known both = absurd (no_says history criterion kind named met)
same_answer history criterion distinct (No kind) (No m) is too known both = ap No (one_no history criterion kind m is too)
same_answer history criterion distinct (Unknown place) b is too known both = absurd (lacks history distinct known)
same_answer history criterion distinct (Open n) b is too known both = absurd is
same_answer history criterion distinct Yes (Unknown place) is too known both = absurd (lacks history distinct both)
same_answer history criterion distinct Yes (Open n) is too known both = absurd too
same_answer history criterion distinct (No kind) (Unknown place) is too known both = absurd (lacks history distinct both)
same_answer history criterion distinct (No kind) (Open n) is too known both = absurd too

true_within : (long : Length) (history : AnyHistory) (report : Findings) → IsAnyHistory history → IsReportOf long history report → EachIsTrueOf history report
true_within Limited history report is on = on.true_of
true_within Any history report is on = on.true_of.within is

pub reports_agree : (long : Length) (history : AnyHistory) (first second : Findings) → IsReportOf long history first → IsReportOf long history second
    → Agree history first second
reports_agree long history first second is too = record {
  first_yes = λ criterion kind. yes_or_no history criterion (answer_for first criterion) (answer_for second criterion) kind
      (says_at history criterion long first is) (says_at history criterion long second too);
  second_yes = λ criterion kind. yes_or_no history criterion (answer_for second criterion) (answer_for first criterion) kind
      (says_at history criterion long second too) (says_at history criterion long first is);
  same_words = λ distinct criterion.
      word_of-answer (finding_for first criterion)
      ∙ same_word history criterion distinct (answer_for first criterion) (answer_for second criterion) (says_at history criterion long first is)
      (says_at history criterion long second too) (is.unknown criterion) (too.unknown criterion)
      ∙ sym (word_of-answer (finding_for second criterion));
  same_answers = λ distinct within criterion.
      same_answer history criterion distinct (answer_for first criterion) (answer_for second criterion)
      (true_within long history first within is criterion) (true_within long history second within too criterion) (is.unknown criterion)
      (too.unknown criterion);
}

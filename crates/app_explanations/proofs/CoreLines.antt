-- Lines in which cores are true, one after the other.
use Rattle.std.proofs.Common.{◌≡◌, ◌≢◌, ◌∙◌, ℕ, List, [], ◌∷◌, ◌++◌, Option, Some, None, IfSome, inl, inr, refl, subst, sym, ap}
use Rattle.std.specs.Prelude.{IsTrue}
use Rattle.std.specs.List.{flat_map}
use Rattle.std.specs.Str.Iter.{LacksByte}
use Rattle.std.proofs.lemmas.Grind.{flat_map-append}
use Rattle.std.proofs.lemmas.List.{append_cancel_left, flat_map_more}
use Rattle.std.proofs.lemmas.List.Elements.{All-append, All-cons, All-nil, All-weaker}
use Rattle.json_histories.specs.declared.any_history.AnyHistory.{AnyHistory}
use Rattle.json_histories.specs.declared.any_history.AnyHistory.TheVariants.{Memory}
use Rattle.json_histories.specs.AnyForm.{form_of, IsJson}
use Rattle.order_memory.specs.Memory.{MemoryHistory}
use Rattle.cert_check.specs.declared.criterion.Criterion.{Criterion}
use Rattle.cert_check.specs.declared.criterion.Criterion.TheVariants.{Cc, Cm, Ccv}
use Rattle.pattern_check.specs.declared.kind.Kind.{Kind}
use Rattle.pattern_check.specs.declared.pattern.Pattern.{Pattern}
use Rattle.pattern_check.specs.Kinds.{IsTrueNo, is_against}
use Rattle.pattern_check.specs.Patterns.{IsBadPattern, kind_of}
use Rattle.judge_cores.specs.Cores.{CoreValue, IsCoreOfKind}
use Rattle.judge_cores.specs.Gathered.{ShowsKind}
use Rattle.judge_cores.specs.declared.long_core.Gathered.{Gathered}
use Rattle.judge_cores.specs.declared.long_core.Gathered.TheVariants.{Core, Operations}
use Rattle.judge_subhistories.specs.Cores.{IsCoreText}
use Rattle.judge_subhistories.specs.WithoutVariables.{without_variables}
use Rattle.app_orders.specs.declared.length.Length.{Length}
use Rattle.app_orders.specs.declared.length.Length.TheVariants.{Any, Limited}
use Rattle.live_case_board.specs.declared.answer.Answer.TheVariants.{No}
use Rattle.app_findings.specs.declared.finding.Finding.{Finding}
use Rattle.app_findings.specs.declared.finding.Finding.TheVariants.{Met, Shown, Present, Unexplained}
use Rattle.app_findings.specs.declared.finding.Findings.{Findings}
use Rattle.app_findings.specs.Findings.{IsFinding, answer_of}
use Rattle.app_explanations.specs.CoresInWords.{AreWordsOn, HoldsCore, IsTextOfCore, IsTextOfNo, core_words, indented}
use Rattle.app_explanations.specs.ExplainingInWords.{Tells, TellsEach}
use Rattle.app_explanations.specs.Report.{line_for}
use Rattle.app_explanations.specs.Steps.Gathering.{ExcludesCriteria}

module _ (long : Length) (history : AnyHistory) (criterion : Criterion) where
  pub no_words : AreWordsOn long history criterion []
  no_words = ([], (All-nil (LacksByte 0x0A), refl), All-nil (HoldsCore long history criterion))

  -- one line more
  pub words_more : (text line new : List ℕ) → new ≡ text ++ indented line → LacksByte 0x0A line → HoldsCore long history criterion line
      → AreWordsOn long history criterion text → AreWordsOn long history criterion new
  words_more text line new same one holds are =
      let lines = are.0 in (
        lines ++ (line ∷ []),
        (
          All-append (LacksByte 0x0A) lines (line ∷ []) are.1.0 (All-cons (LacksByte 0x0A) line [] one (All-nil (LacksByte 0x0A))),
          same ∙ ap (λ (front : List ℕ). front ++ indented line) are.1.1 ∙ flat_map_more indented [] lines line,
        ),
        All-append (HoldsCore long history criterion) lines (line ∷ []) are.2
            (All-cons (HoldsCore long history criterion) line [] holds (All-nil (HoldsCore long history criterion))),
      )

  -- words after others
  pub words_both : (a b : List ℕ) → AreWordsOn long history criterion a → AreWordsOn long history criterion b → AreWordsOn long history criterion (a ++ b)
  words_both a b first second = (
    first.0 ++ second.0,
    (
      All-append (LacksByte 0x0A) first.0 second.0 first.1.0 second.1.0,
      ap (λ (x : List ℕ). x ++ b) first.1.1 ∙ ap (λ (y : List ℕ). flat_map indented first.0 ++ y) second.1.1 ∙ sym (flat_map-append indented first.0 second.0),
    ),
    All-append (HoldsCore long history criterion) first.0 second.0 first.2 second.2,
  )

  -- words that do not begin as the line of a core does, and the line of a core
  pub plain_holds : (line : List ℕ) → ((text : List ℕ) → line ≢ core_words ++ text) → HoldsCore long history criterion line
  plain_holds line other text same = absurd (other text same)

  pub core_holds : (core line : List ℕ) → line ≡ core_words ++ core → IsTextOfCore long history criterion core → HoldsCore long history criterion line
  core_holds core line is true_of text same =
      subst (λ (t : List ℕ). IsTextOfCore long history criterion t) (append_cancel_left core_words core text (sym is ∙ same)) true_of

  -- a finding, with words, the line of a core and words after it
  pub tells : (finding : Finding) (line words core after text : List ℕ) → line ≡ line_for criterion (answer_of finding)
      → AreWordsOn long history criterion words → AreWordsOn long history criterion core → AreWordsOn long history criterion after
      → text ≡ line ++ (words ++ (core ++ after)) → Tells long history criterion finding text
  tells finding line words core after text same are of_core later whole = (
    words ++ (core ++ after),
    words_both words (core ++ after) are (words_both core after of_core later),
    whole ∙ ap (λ (l : List ℕ). l ++ (words ++ (core ++ after))) same,
  )

module _ (criterion : Criterion) where
  no_of_core : (h : MemoryHistory) (text : List ℕ) → IsCoreText h criterion text → IsTextOfNo criterion text
  no_of_core h text (core, of, json) = (core, of.1, json)

  core_any : (h : MemoryHistory) (text : List ℕ) → IsTextOfCore Limited (Memory h) criterion text → IsTextOfNo criterion text
  core_any h text (inl core) = no_of_core h text core
  core_any h text (inr (variables, core)) = no_of_core (without_variables variables h) text core

  -- cores of a memory within the limits are cores of it as a history of any length
  words_any : (h : MemoryHistory) (text : List ℕ) → AreWordsOn Limited (Memory h) criterion text → AreWordsOn Any (Memory h) criterion text
  words_any h text are = (
    are.0,
    are.1,
    All-weaker (HoldsCore Limited (Memory h) criterion) (HoldsCore Any (Memory h) criterion)
        (λ line holds core same. core_any h core (holds core same)) are.0 are.2,
  )

  tells_any : (h : MemoryHistory) (finding : Finding) (text : List ℕ) → Tells Limited (Memory h) criterion finding text
      → Tells Any (Memory h) criterion finding text
  tells_any h finding text told = (told.0, words_any h told.0 told.1, told.2)

  -- a core that does not meet the criterion, in its own text
  pub gathered_no : (kind : Kind) (gathered : Gathered) (core : CoreValue) (text : List ℕ) → ExcludesCriteria kind gathered → gathered ≡ Core core
      → IsTrue (is_against kind criterion) → IsJson text (form_of (Memory core.history)) → IsTextOfNo criterion text
  gathered_no kind gathered core text excludes same against json = (core.history, excludes core criterion same against, json)

-- a core that was gathered of a kind, against whichever criterion, does not meet the criteria that the kind is against
pub core_excludes : ((h : MemoryHistory) (k : Criterion) (pattern : Pattern) → IsBadPattern h k pattern → IsTrueNo h k (kind_of pattern))
    → (k : Criterion) (kind : Kind) (gathered : Gathered) → ShowsKind k kind gathered → ExcludesCriteria kind gathered
core_excludes excludes k kind (Core gathered) shows core criterion same against =
    let one : gathered ≡ core = cc in
    let of : IsCoreOfKind k kind core = subst (λ (c : CoreValue). IsCoreOfKind k kind c) one shows in
    (excludes core.history criterion core.pattern (record {
      differentiated = of.shown.differentiated;
      against = subst (λ (x : Kind). IsTrue (is_against x criterion)) (sym of.of_kind) against;
      shown = of.shown.shown;
    })).not_met
core_excludes excludes k kind (Operations ops) shows core criterion same against = absurd cc

-- a core of a history without some variables
pub core_of_rest : {T : Type 0} (bytes : T → List ℕ) (h part : MemoryHistory) (variables : List ℕ) (criterion : Criterion) (core : Option T)
    → part ≡ without_variables variables h → IfSome core (λ t. IsCoreText part criterion (bytes t))
    → IfSome core (λ t. IsTextOfCore Limited (Memory h) criterion (bytes t))
core_of_rest bytes h part variables criterion (Some t) same is =
    inr (variables, subst (λ (x : MemoryHistory). IsCoreText x criterion (bytes t)) same is)
core_of_rest bytes h part variables criterion None same is = tt

-- the kind of a no is against its criterion
pub finding_against : (h : MemoryHistory) (criterion : Criterion) (finding : Finding) (kind : Kind) → IsFinding (Memory h) criterion finding
    → answer_of finding ≡ No kind → IsTrue (is_against kind criterion)
finding_against h criterion (Met certificate) kind is same = absurd cc
finding_against h criterion (Shown pattern) kind is same =
    let named : kind_of pattern ≡ kind = cc in subst (λ (k : Kind). IsTrue (is_against k criterion)) named is.against
finding_against h criterion (Present other) kind is same =
    let named : other ≡ kind = cc in subst (λ (k : Kind). IsTrue (is_against k criterion)) named is.against
finding_against h criterion (Unexplained place certificate) kind is same = absurd cc

pub tells_each_any : (h : MemoryHistory) (findings : Findings) (text : List ℕ) → TellsEach Limited (Memory h) findings text
    → TellsEach Any (Memory h) findings text
tells_each_any h findings text (cc, cm, ccv, of_cc, of_cm, of_ccv, same) =
    (cc, cm, ccv, tells_any Cc h findings.cc cc of_cc, tells_any Cm h findings.cm cm of_cm, tells_any Ccv h findings.ccv ccv of_ccv, same)

-- What is said of a history and a pattern of it.
use Rattle.std.specs.Prelude.{◌≡◌, ℕ, List, [], ◌∷◌, Option, Some, None}
use Rattle.serde_json.specs.Data.{Data, string}
use Rattle.json_histories.specs.declared.read_error.ReadError.{ReadError}
use Rattle.json_histories.specs.declared.read_error.ReadError.TheVariants as errors
use Rattle.json_histories.specs.declared.any_history.AnyHistory.{AnyHistory}
use Rattle.json_histories.specs.Json.{list}
use Rattle.json_histories.specs.AnyForm.{form_of, IsJson}
use Rattle.cert_check.specs.declared.criterion.Criterion.{Criterion}
use Rattle.cert_check.specs.CriterionNames.{name_of}
use Rattle.pattern_check.specs.declared.pattern.Pattern.{Pattern}
use Rattle.pattern_json.specs.PatternForm.{form_of as pattern_form}
use Rattle.pattern_check.specs.Patterns.{kind_of}
use Rattle.live_case_board.specs.declared.answer.Answer.TheVariants.{No}
use Rattle.app_engine.specs.declared.failure.RunError.{RunError}
use Rattle.app_engine.specs.declared.failure.RunError.TheVariants.{NotThatPattern}
use Rattle.app_orders.specs.declared.length.Length.{Length}
use Rattle.app_orders.specs.declared.length.Length.TheVariants.{Limited}
use Rattle.app_engine.specs.InputErrors.{IsTextError}
use Rattle.app_explanations.specs.Lengths.{IsHistoryOf, first_refusal_of}
use Rattle.app_findings.specs.Answers.{IsExcluded, IsPatternOf}
use Rattle.app_explanations.specs.Report.{line_for}

-- the form of a claim that a pattern shows that a history does not meet a criterion: the three in one JSON list
abbrev pub claim_form : AnyHistory → Criterion → Pattern → Data
claim_form history criterion pattern = list (form_of history ∷ string (name_of criterion) ∷ pattern_form pattern ∷ [])

-- the first refusal of a claim: it is no list of three elements, or its history, which may be that long, has this first refusal
abbrev pub first_of_claim_at : Length → List Data → Option ReadError
first_of_claim_at long [] = Some errors.BadShape
first_of_claim_at long (h ∷ []) = Some errors.BadShape
first_of_claim_at long (h ∷ c ∷ []) = Some errors.BadShape
first_of_claim_at long (h ∷ c ∷ p ∷ []) = first_refusal_of long h
first_of_claim_at long (h ∷ c ∷ p ∷ d ∷ ds) = Some errors.BadShape

abbrev pub claim_refusal_at : Length → Option (List Data) → Option ReadError
claim_refusal_at long None = Some errors.BadShape
claim_refusal_at long (Some ds) = first_of_claim_at long ds

-- a list of three begins with the form of a history, which may be that long, and after it come not the name of a criterion and the form
-- of a pattern that shows that the history does not meet it
abbrev pub HasNoSuchPatternAt : Length → Data → Type 0
HasNoSuchPatternAt long claim =
    (h : AnyHistory) × (c : Data) × (p : Data) × IsHistoryOf long h × (claim ≡ list (form_of h ∷ c ∷ p ∷ []))
    × ((criterion : Criterion) (pattern : Pattern) → c ≡ string (name_of criterion) → p ≡ pattern_form pattern → ¬ IsPatternOf h criterion pattern)

-- after the history of a claim comes nothing that shows it
abbrev pub IsWrongClaimAt : Length → RunError → Data → Type 0
IsWrongClaimAt long NotThatPattern claim = HasNoSuchPatternAt long claim
IsWrongClaimAt long _ claim = ⊥

-- why a text is refused as a claim
abbrev pub IsClaimErrorAt : Length → List ℕ → RunError → Type 0
IsClaimErrorAt long text error = IsTextError (claim_refusal_at long) (IsWrongClaimAt long) text error

abbrev pub IsClaimError : List ℕ → RunError → Type 0
IsClaimError = IsClaimErrorAt Limited

-- the text answers the claim in the input: its pattern shows that its history, which may be that long, does not meet its criterion, and
-- the line says so
pub record IsRefutationAt (long : Length) (input text : List ℕ) : Type 0 where
  pub history : AnyHistory
  pub criterion : Criterion
  pub pattern : Pattern
  pub is_history : IsHistoryOf long history
  pub read : IsJson input (claim_form history criterion pattern)
  pub shown : IsPatternOf history criterion pattern
  pub excluded : IsExcluded history criterion (kind_of pattern)
  pub line : text ≡ line_for criterion (No (kind_of pattern))

abbrev pub IsRefutation : List ℕ → List ℕ → Type 0
IsRefutation = IsRefutationAt Limited

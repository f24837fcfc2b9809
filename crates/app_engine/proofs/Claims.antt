-- Why a claim is refused.
use Rattle.std.proofs.Common.{◌≡◌, ◌∙◌, ℕ, ap, sym, subst, refl, List, [], ◌∷◌, Option, Some, None, inl, inr}
use Rattle.std.specs.Prelude.{◌≢◌}
use Rattle.serde_json.specs.Data.{Data, string}
use Rattle.json_histories.specs.declared.read_error.ReadError.{ReadError}
use Rattle.json_histories.specs.declared.read_error.ReadError.TheVariants as errors
use Rattle.json_histories.specs.declared.any_history.AnyHistory.{AnyHistory}
use Rattle.json_histories.specs.AnyForm.{form_of, IsAnyHistory, IsJson}
use Rattle.json_histories.specs.Json.{elements, list}
use Rattle.cert_check.specs.declared.criterion.Criterion.{Criterion}
use Rattle.cert_check.specs.CriterionNames.{name_of}
use Rattle.pattern_check.specs.declared.pattern.Pattern.{Pattern}
use Rattle.pattern_json.specs.PatternForm.{form_of as pattern_form}
use Rattle.pattern_json.specs.ClaimForm.{claim_refusal as refusal_read, IsClaimRefused}
use Rattle.cert_check.proofs.CriterionNames.{one_name}
use Rattle.app_engine.proofs.PatternForms.{one_pattern}
use Rattle.app_engine.specs.Failure.{failure_of}
use Rattle.app_engine.specs.declared.failure.RunError.TheVariants.{NotThatPattern}
use Rattle.app_orders.specs.declared.length.Length.{Length}
use Rattle.app_orders.specs.declared.length.Length.TheVariants.{Limited}
use Rattle.app_explanations.specs.Lengths.{IsHistoryOf, first_refusal_of}
use Rattle.app_engine.specs.Refuting.{claim_form, claim_refusal_at, HasNoSuchPatternAt, IsClaimError}
use Rattle.app_findings.specs.Answers.{IsPatternOf}

-- the first refusal of a list of three is that of its history
pub refusal-claim : (long : Length) (d h c p : Data) → d ≡ list (h ∷ c ∷ p ∷ []) → claim_refusal_at long (elements d) ≡ first_refusal_of long h
refusal-claim long d h c p is = ap (λ (x : Data). claim_refusal_at long (elements x)) is

-- ---- the reader refuses what is refused as a claim

same_refusal : (ds : Option (List Data)) → claim_refusal_at Limited ds ≡ refusal_read ds
same_refusal None = refl
same_refusal (Some []) = refl
same_refusal (Some (h ∷ [])) = refl
same_refusal (Some (h ∷ c ∷ [])) = refl
same_refusal (Some (h ∷ c ∷ p ∷ [])) = refl
same_refusal (Some (h ∷ c ∷ p ∷ d ∷ ds)) = refl

refused_as : (text : List ℕ) (e : ReadError) → (d : Data) × IsJson text d × (refusal_read (elements d) ≡ Some e) → (d : Data) × IsJson text d × (claim_refusal_at Limited (elements d) ≡ Some e)
refused_as text e refused = (refused.0, refused.1, same_refusal (elements refused.0) ∙ refused.2)

pub claim_unread : (text : List ℕ) (e : ReadError) → IsClaimRefused text e → IsClaimError text (failure_of e)
claim_unread text errors.NotJson none = inl (refl, none)
claim_unread text errors.BadShape refused = inr (refused_as text errors.BadShape refused)
claim_unread text errors.UnknownObject refused = inr (refused_as text errors.UnknownObject refused)
claim_unread text (errors.BadOp op) refused = inr (refused_as text (errors.BadOp op) refused)
claim_unread text (errors.ReturnAfterUnknown op) refused = inr (refused_as text (errors.ReturnAfterUnknown op) refused)
claim_unread text errors.TooManySessions refused = inr (refused_as text errors.TooManySessions refused)
claim_unread text errors.TooManyOps refused = inr (refused_as text errors.TooManyOps refused)
claim_unread text errors.Memory refused = tt
claim_unread text errors.BadInitial refused = inr (refused_as text errors.BadInitial refused)

module _ (text : List ℕ) (h : AnyHistory) (good : IsAnyHistory h) (c p : Data) (json : IsJson text (list (form_of h ∷ c ∷ p ∷ []))) where
  -- after the history comes no name of a criterion
  pub claim_without_criterion : ((criterion : Criterion) → c ≢ string (name_of criterion)) → IsClaimError text NotThatPattern
  claim_without_criterion none =
      (list (form_of h ∷ c ∷ p ∷ []), json, (h, c, p, good, refl, λ criterion pattern name form shown. none criterion name))

  -- or after that no form of a pattern
  pub claim_without_pattern : ((pattern : Pattern) → p ≢ pattern_form pattern) → IsClaimError text NotThatPattern
  claim_without_pattern none =
      (list (form_of h ∷ c ∷ p ∷ []), json, (h, c, p, good, refl, λ criterion pattern name form shown. none pattern form))

  pub claim_read : (criterion : Criterion) (pattern : Pattern) → c ≡ string (name_of criterion) → p ≡ pattern_form pattern → IsJson text (claim_form h criterion pattern)
  claim_read criterion pattern name form = subst (IsJson text) (λ i. list (form_of h ∷ name i ∷ form i ∷ [])) json

-- how the text of a claim is read, or why it is refused
pub ruleset refused_claims = (claim_unread, claim_without_criterion, claim_without_pattern, claim_read)

-- or the pattern does not show it: a name is that of one criterion, and a value the form of one pattern
pub claim_not_shown : (long : Length) (h : AnyHistory) (criterion : Criterion) (pattern : Pattern) → IsHistoryOf long h
    → ¬ IsPatternOf h criterion pattern → HasNoSuchPatternAt long (claim_form h criterion pattern)
claim_not_shown long h criterion pattern good refused = (
  h,
  string (name_of criterion),
  pattern_form pattern,
  good,
  refl,
  λ other claimed name form shown.
      refused (subst (λ (k : Criterion). IsPatternOf h k pattern) (sym (one_name criterion other (one_text (name_of criterion) (name_of other) name)))
      (subst (λ (q : Pattern). IsPatternOf h other q) (sym (one_pattern pattern claimed form)) shown)),
)
  where
    one_text : (v w : List ℕ) → string v ≡ string w → v ≡ w
    one_text v w same = cc

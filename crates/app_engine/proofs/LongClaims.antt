-- What is read of the text of a claim whose history is read by itself.
use Rattle.std.proofs.Common.{◌≡◌, ◌≢◌, ◌∙◌, ℕ, List, [], ◌∷◌, Some, refl, sym, ap, subst, inl, inr}
use Rattle.std.proofs.lemmas.Option.{same_Some}
use Rattle.serde_json.specs.Data.{Data, null, boolean, number, string, array, object, no_items, item}
use Rattle.json_histories.specs.declared.any_history.AnyHistory.TheVariants as kinds
use Rattle.json_histories.specs.declared.read_error.ReadError.{ReadError}
use Rattle.json_histories.specs.declared.read_error.ReadError.TheVariants as errors
use Rattle.json_histories.specs.AnyForm.{form_of, IsJson}
use Rattle.json_histories.specs.Json.{elements, list}
use Rattle.json_histories.specs.Laws.Json.{elements-list}
use Rattle.json_histories.specs.Reads.{IsRead}
use Rattle.cert_check.specs.declared.criterion.Criterion.{Criterion}
use Rattle.cert_check.specs.CriterionNames.{name_of}
use Rattle.pattern_check.specs.declared.pattern.Pattern.{Pattern}
use Rattle.pattern_json.specs.PatternForm.{form_of as pattern_form}
use Rattle.pattern_json.specs.Words.{word_form}
use Rattle.pattern_json.specs.declared.violation.Violation.{Violation}
use Rattle.order_memory.specs.Memory.{MemoryHistory}
use Rattle.judge_memory.specs.LongHistories.{IsLongHistory}
use Rattle.judge_reader.specs.FirstOfList.{BeginsWith, IsRefusedFirst, refusal_of_first}
use Rattle.app_orders.specs.declared.length.Length.TheVariants.{Any}
use Rattle.app_engine.specs.declared.failure.RunError.TheVariants as failures
use Rattle.app_engine.specs.Failure.{failure_of}
use Rattle.app_engine.specs.Refuting.{claim_form, claim_refusal_at, IsClaimErrorAt}
use Rattle.app_engine.specs.Steps.LongClaims.{IsShownBy}

-- ---- the text is no list of three

not_three : (d : Data) → ((h c p : Data) → d ≢ list (h ∷ c ∷ p ∷ [])) → claim_refusal_at Any (elements d) ≡ Some errors.BadShape
not_three null never = refl
not_three (boolean b) never = refl
not_three (number n) never = refl
not_three (string s) never = refl
not_three (array no_items) never = refl
not_three (array (item a no_items)) never = refl
not_three (array (item a (item b no_items))) never = refl
not_three (array (item a (item b (item e no_items)))) never = absurd (never _ _ _ refl)
not_three (array (item a (item b (item e (item f ds))))) never = refl
not_three (object ms) never = refl

pub wrong_shape : (text : List ℕ) (d : Data) → IsJson text d → ((h c p : Data) → d ≢ list (h ∷ c ∷ p ∷ [])) → IsClaimErrorAt Any text (failures.History errors.BadShape)
wrong_shape text d json never = inr (d, json, not_three d never)

-- ---- or one, of which this was read

pub shown_by : (text : List ℕ) (d h c p : Data) (violation : Violation) → IsJson text d → d ≡ list (h ∷ c ∷ p ∷ []) → IsRead (word_form name_of) c violation.criterion → IsRead pattern_form p violation.pattern
    → IsShownBy text violation
shown_by text d h c p violation json is name form =
    record { history = h; criterion = c; pattern = p; json = subst (IsJson text) is json; is_criterion = name; is_pattern = form }

one_value : (text : List ℕ) (d e : Data) → IsJson text d → IsJson text e → d ≡ e
one_value text d e first second = same_Some d e (sym first.1 ∙ second.1)

module _ (text : List ℕ) (violation : Violation) (of : IsShownBy text violation) where
  refused_as : (e : ReadError) → (d : Data) × IsJson text d × (refusal_of_first (elements d) ≡ Some e) → claim_refusal_at Any (elements (list (of.history ∷ of.criterion ∷ of.pattern ∷ []))) ≡ Some e
  refused_as e refused =
      sym (ap (λ (x : Data). refusal_of_first (elements x)) (one_value text refused.0 (list (of.history ∷ of.criterion ∷ of.pattern ∷ [])) refused.1 of.json)) ∙ refused.2

  refused_whole : (e : ReadError) → (d : Data) × IsJson text d × (refusal_of_first (elements d) ≡ Some e) → (d : Data) × IsJson text d × (claim_refusal_at Any (elements d) ≡ Some e)
  refused_whole e refused = (list (of.history ∷ of.criterion ∷ of.pattern ∷ []), of.json, refused_as e refused)

  pub first_is_refused : (e : ReadError) → IsRefusedFirst text e → IsClaimErrorAt Any text (failure_of e)
  first_is_refused errors.NotJson none = inl (refl, none)
  first_is_refused errors.BadShape refused = inr (refused_whole errors.BadShape refused)
  first_is_refused errors.UnknownObject refused = inr (refused_whole errors.UnknownObject refused)
  first_is_refused (errors.BadOp op) refused = inr (refused_whole (errors.BadOp op) refused)
  first_is_refused (errors.ReturnAfterUnknown op) refused = inr (refused_whole (errors.ReturnAfterUnknown op) refused)
  first_is_refused errors.TooManySessions refused = inr (refused_whole errors.TooManySessions refused)
  first_is_refused errors.TooManyOps refused = inr (refused_whole errors.TooManyOps refused)
  first_is_refused errors.Memory refused = tt
  first_is_refused errors.BadInitial refused = inr (refused_whole errors.BadInitial refused)

  module _ (g : MemoryHistory) (good : IsLongHistory g) (begins : BeginsWith text g) where
    first_is : of.history ≡ form_of (kinds.Memory g)
    first_is =
        let lists : Some (form_of (kinds.Memory g) ∷ begins.1) ≡ Some (of.history ∷ of.criterion ∷ of.pattern ∷ []) =
        sym begins.3 ∙ ap elements (one_value text begins.0 (list (of.history ∷ of.criterion ∷ of.pattern ∷ [])) begins.2 of.json) ∙ elements-list (of.history ∷ of.criterion ∷ of.pattern ∷ []) in
        let same : form_of (kinds.Memory g) ∷ begins.1 ≡ of.history ∷ of.criterion ∷ of.pattern ∷ [] = same_Some _ _ lists in
        let first : form_of (kinds.Memory g) ≡ of.history = cc in sym first

    whole_is : list (of.history ∷ of.criterion ∷ of.pattern ∷ []) ≡ list (form_of (kinds.Memory g) ∷ of.criterion ∷ of.pattern ∷ [])
    whole_is = ap (λ (x : Data). list (x ∷ of.criterion ∷ of.pattern ∷ [])) first_is

    pub no_criterion : ((criterion : Criterion) → of.criterion ≢ string (name_of criterion)) → IsClaimErrorAt Any text failures.NotThatPattern
    no_criterion none =
        (list (of.history ∷ of.criterion ∷ of.pattern ∷ []), of.json, (kinds.Memory g, of.criterion, of.pattern, good, whole_is, λ criterion pattern name form seen. none criterion name))

    pub no_pattern : ((pattern : Pattern) → of.pattern ≢ pattern_form pattern) → IsClaimErrorAt Any text failures.NotThatPattern
    no_pattern none =
        (list (of.history ∷ of.criterion ∷ of.pattern ∷ []), of.json, (kinds.Memory g, of.criterion, of.pattern, good, whole_is, λ criterion pattern name form seen. none pattern form))

    pub claim_is_read : (criterion : Criterion) (pattern : Pattern) → of.criterion ≡ string (name_of criterion) → of.pattern ≡ pattern_form pattern
        → IsJson text (claim_form (kinds.Memory g) criterion pattern)
    claim_is_read criterion pattern name form = subst (IsJson text) (whole_is ∙ (λ i. list (form_of (kinds.Memory g) ∷ name i ∷ form i ∷ []))) of.json

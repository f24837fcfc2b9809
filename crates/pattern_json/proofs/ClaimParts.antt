-- What is made of the three elements of a claim is made of the list of them.
use Rattle.std.proofs.Common.{◌≡◌, ◌∙◌, List, [], ◌∷◌, Bool, true, Option, Some, None, refl, sym, ap, subst}
use Rattle.std.specs.Prelude.{◌≢◌, MatchOption}
use Rattle.std.proofs.lemmas.Option.{same_Some}
use Rattle.serde_json.specs.Data.{Data}
use Rattle.json_histories.specs.Json.{elements, list}
use Rattle.json_histories.specs.Laws.Json.{elements-list, list_from_elements}
use Rattle.pattern_json.specs.declared.claim_parts.ClaimParts.{ClaimParts}
use Rattle.pattern_json.specs.declared.claim_parts.ClaimParts.TheVariants.{Whole}
use Rattle.pattern_json.specs.declared.violation.Violation.{Violation}
use Rattle.pattern_json.specs.Steps.ClaimTaken.{IsClaimTaken, IsNotThree, IsThree}
use Rattle.json_tokens.specs.Gathers.{IsTakenList}

module _ {H : Type 0} (made_of : H → Data → Type 0) where
  module _ (d : Data) where
    abbrev IsNoThree : Type 0
    IsNoThree = (h c p : Data) → d ≢ list (h ∷ c ∷ p ∷ [])

    other_elements : (o : Option (List Data)) → elements d ≡ o → ((ds : List Data) → o ≡ Some ds → IsNotThree ds) → IsNoThree
    other_elements None e not h c p same = let bad : None ≡ Some (h ∷ c ∷ p ∷ []) = sym e ∙ ap elements same ∙ elements-list (h ∷ c ∷ p ∷ []) in absurd cc
    other_elements (Some ds) e not h c p same =
        let lists : Some ds ≡ Some (h ∷ c ∷ p ∷ []) = sym e ∙ ap elements same ∙ elements-list (h ∷ c ∷ p ∷ []) in
        let same_elements : ds ≡ h ∷ c ∷ p ∷ [] = cc in not ds refl h c p same_elements

    -- what is made of the elements is made of the value
    abbrev IsMadeOf : Option (H × Violation) → List Data → Type 0
    IsMadeOf o ds = MatchOption o (IsNotThree ds) (λ t. IsClaimTaken made_of (Whole t.0 t.1.criterion t.1.pattern) ds)

    made_of_list : (ds : List Data) → elements d ≡ Some ds → (o : Option (H × Violation)) → IsMadeOf o ds → MatchOption o IsNoThree (λ t. IsThree made_of d t.0 t.1)
    made_of_list ds e None not = other_elements (elements d) refl (λ es is. let same : ds ≡ es = same_Some ds es (sym e ∙ is) in subst IsNotThree same not)
    made_of_list ds e (Some t) is = (is.0, is.1, is.2, list_from_elements d ds e ∙ ap list is.3, is.4, is.5, is.6)

    three_in : (s : ClaimParts H) (es : Option (List Data)) → elements d ≡ es → IsTakenList (IsClaimTaken made_of) IsNotThree s true es
        → (o : Option (H × Violation)) → ((ds : List Data) → IsClaimTaken made_of s ds → IsMadeOf o ds) → MatchOption o IsNoThree (λ t. IsThree made_of d t.0 t.1)
    three_in s None e are o made = absurd cc
    three_in s (Some ds) e are o made = made_of_list ds e o (made ds are)

    -- and so of all that was taken
    pub three_made : (s : ClaimParts H) (taken : Bool) → taken ≡ true → IsTakenList (IsClaimTaken made_of) IsNotThree s taken (elements d)
        → (o : Option (H × Violation)) → ((ds : List Data) → IsClaimTaken made_of s ds → IsMadeOf o ds) → MatchOption o IsNoThree (λ t. IsThree made_of d t.0 t.1)
    three_made s taken is are = three_in s (elements d) refl (subst (λ (b : Bool). IsTakenList (IsClaimTaken made_of) IsNotThree s b (elements d)) is are)

-- What the elements of a list make together.
use Rattle.std.proofs.Common.{◌≡◌, ◌∙◌, List, [], ◌∷◌, ◌++◌, map, Bool, true, false, Option, Some, None, refl, sym, ap, subst}
use Rattle.std.specs.Prelude.{◌≢◌}
use Rattle.std.proofs.lemmas.Option.{same_Some}
use Rattle.serde_json.specs.Data.{Data}
use Rattle.json_histories.specs.Json.{elements, list}
use Rattle.json_histories.specs.Laws.Json.{elements-list, list_from_elements}
use Rattle.json_histories.specs.Reads.{IsRead}
use Rattle.json_tokens.specs.Gathers.{IsTakenList}

-- what has no such form is in no list of these forms
pub no_items : {A : Type 0} (form : A → Data) (before : List A) (d : Data) (more : List Data) → ((a : A) → d ≢ form a) → (items : List A) → map form before ++ d ∷ more ≢ map form items
no_items form [] d more none [] same = absurd cc
no_items form [] d more none (b ∷ items) same = let first : d ≡ form b = cc in none b first
no_items form (a ∷ before) d more none [] same = absurd cc
no_items form (a ∷ before) d more none (b ∷ items) same = let rest : map form before ++ d ∷ more ≡ map form items = cc in no_items form before d more none items rest

module _ {W : Type 0} (parts : W → List Data) (d : Data) where
  -- what is read of the elements of a list is read of the list
  pub list_read : (ds : List Data) → elements d ≡ Some ds → (r : Option W) → IsRead parts ds r → IsRead (λ (w : W). list (parts w)) d r
  list_read ds e None none = λ w same. none w (same_Some ds (parts w) (sym e ∙ ap elements same ∙ elements-list (parts w)))
  list_read ds e (Some w) is = list_from_elements d ds e ∙ ap list is

  pub no_list : elements d ≡ None → (w : W) → d ≢ list (parts w)
  no_list e w same = let bad : None ≡ Some (parts w) = sym e ∙ ap elements same ∙ elements-list (parts w) in absurd cc

  module _ {S : Type 0} (is_of : S → List Data → Type 0) (refuses : List Data → Type 0) (s : S) where
    abbrev AreElements : Bool → Option (List Data) → Type 0
    AreElements = IsTakenList is_of refuses s

    taken_read : (o : Option (List Data)) → elements d ≡ o → AreElements true o → (r : Option W) → ((ds : List Data) → is_of s ds → IsRead parts ds r) → IsRead (λ (w : W). list (parts w)) d r
    taken_read None e taken r read = absurd cc
    taken_read (Some ds) e taken r read = list_read ds e r (read ds taken)

    refused_read : (o : Option (List Data)) → elements d ≡ o → AreElements false o → ((ds : List Data) (w : W) → refuses ds → ds ≢ parts w) → (w : W) → d ≢ list (parts w)
    refused_read None e refused never = no_list e
    refused_read (Some ds) e refused never = list_read ds e None (λ w. never ds w refused)

    pub whole_read : (taken : Bool) → taken ≡ true → AreElements taken (elements d) → (r : Option W) → ((ds : List Data) → is_of s ds → IsRead parts ds r) → IsRead (λ (w : W). list (parts w)) d r
    whole_read taken is are = taken_read (elements d) refl (subst (λ (b : Bool). AreElements b (elements d)) is are)

    pub no_whole : (taken : Bool) → taken ≡ false → AreElements taken (elements d) → ((ds : List Data) (w : W) → refuses ds → ds ≢ parts w) → (w : W) → d ≢ list (parts w)
    no_whole taken is are = refused_read (elements d) refl (subst (λ (b : Bool). AreElements b (elements d)) is are)

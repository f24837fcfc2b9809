-- The places of a part, which stand in the form of the whole as places of their own.
use Rattle.std.proofs.Common.{◌≡◌, ℕ, zero, suc, Option, Some, None, refl, sym, ap, ap₂, subst, ◌∙◌}
use Rattle.serde_json.specs.Data.{Data, null, boolean, number, string, array, object, Items, no_items, item}
use Rattle.json_bounded.specs.Cut.{cut, cut_items, IsKept, AreKept}

module _ {P Q : Type 0} (limit : P → Option ℕ) (inside : P → ℕ → P) (whole_limit : Q → Option ℕ) (whole_inside : Q → ℕ → Q) (place_in : P → Q)
    (limits : (place : P) → whole_limit (place_in place) ≡ limit place) (insides : (place : P) (index : ℕ) → whole_inside (place_in place) index ≡ place_in (inside place index)) where
  mutual
    -- a value is cut there as at its own place
    pub cut_in : (place : P) (d : Data) → cut whole_limit whole_inside (place_in place) d ≡ cut limit inside place d
    cut_in place null = refl
    cut_in place (boolean b) = refl
    cut_in place (number n) = refl
    cut_in place (string s) = refl
    cut_in place (array ds) = ap array (ap (λ room. cut_items whole_limit whole_inside (place_in place) 0 room ds) (limits place) ∙ cut_items_in place 0 (limit place) ds)
    cut_in place (object ms) = refl

    cut_items_in : (place : P) (index : ℕ) (room : Option ℕ) (ds : Items) → cut_items whole_limit whole_inside (place_in place) index room ds ≡ cut_items limit inside place index room ds
    cut_items_in place index room no_items = refl
    cut_items_in place index None (item d ds) =
        ap₂ item (ap (λ (q : Q). cut whole_limit whole_inside q d) (insides place index) ∙ cut_in (inside place index) d) (cut_items_in place (suc index) None ds)
    cut_items_in place index (Some zero) (item d ds) = refl
    cut_items_in place index (Some (suc room)) (item d ds) =
        ap₂ item (ap (λ (q : Q). cut whole_limit whole_inside q d) (insides place index) ∙ cut_in (inside place index) d) (cut_items_in place (suc index) (Some room) ds)

  mutual
    -- and what is kept whole is kept whole there
    pub kept_in : (place : P) (d : Data) → IsKept limit inside place d → IsKept whole_limit whole_inside (place_in place) d
    kept_in place null k = tt
    kept_in place (boolean b) k = tt
    kept_in place (number n) k = tt
    kept_in place (string s) k = tt
    kept_in place (array ds) k = subst (λ (room : Option ℕ). AreKept whole_limit whole_inside (place_in place) 0 room ds) (sym (limits place)) (all_kept_in place 0 (limit place) ds k)
    kept_in place (object ms) k = absurd k

    all_kept_in : (place : P) (index : ℕ) (room : Option ℕ) (ds : Items) → AreKept limit inside place index room ds → AreKept whole_limit whole_inside (place_in place) index room ds
    all_kept_in place index None no_items k = tt
    all_kept_in place index None (item d ds) k =
        (subst (λ (q : Q). IsKept whole_limit whole_inside q d) (sym (insides place index)) (kept_in (inside place index) d k.0), all_kept_in place (suc index) None ds k.1)
    all_kept_in place index (Some zero) ds k = absurd k
    all_kept_in place index (Some (suc room)) no_items k = tt
    all_kept_in place index (Some (suc room)) (item d ds) k =
        (subst (λ (q : Q). IsKept whole_limit whole_inside q d) (sym (insides place index)) (kept_in (inside place index) d k.0), all_kept_in place (suc index) (Some room) ds k.1)

-- What is kept whole is read as itself, nothing else is cut to it, and what reads nothing else does not see the cut.
use Rattle.std.proofs.Common.{◌≡◌, ℕ, zero, suc, Option, Some, None, refl, sym, ap, ap₂, subst, ◌∙◌}
use Rattle.serde_json.specs.Data.{Data, null, boolean, number, string, array, object, Items, no_items, item}
use Rattle.json_bounded.specs.Cut.{cut, cut_items, IsKept, AreKept}

-- ---- the parts of a value

abbrev elements_of : Data → Items
elements_of null = no_items
elements_of (boolean b) = no_items
elements_of (number n) = no_items
elements_of (string s) = no_items
elements_of (array ds) = ds
elements_of (object ms) = no_items

abbrev first_of_items : Items → Data
first_of_items no_items = null
first_of_items (item d ds) = d

abbrev others : Items → Items
others no_items = no_items
others (item d ds) = ds

module _ {P : Type 0} (limit : P → Option ℕ) (inside : P → ℕ → P) where
  mutual
    -- of what is kept whole nothing is cut off
    pub kept : (place : P) (d : Data) → IsKept limit inside place d → cut limit inside place d ≡ d
    kept place null k = refl
    kept place (boolean b) k = refl
    kept place (number n) k = refl
    kept place (string s) k = refl
    kept place (array ds) k = ap array (all_kept place 0 (limit place) ds k)
    kept place (object ms) k = absurd k

    all_kept : (place : P) (index : ℕ) (room : Option ℕ) (ds : Items) → AreKept limit inside place index room ds → cut_items limit inside place index room ds ≡ ds
    all_kept place index None no_items k = refl
    all_kept place index None (item d ds) k = ap₂ item (kept (inside place index) d k.0) (all_kept place (suc index) None ds k.1)
    all_kept place index (Some zero) ds k = absurd k
    all_kept place index (Some (suc room)) no_items k = refl
    all_kept place index (Some (suc room)) (item d ds) k = ap₂ item (kept (inside place index) d k.0) (all_kept place (suc index) (Some room) ds k.1)

  mutual
    -- and only it is cut to it
    pub alone : (place : P) (d e : Data) → IsKept limit inside place e → cut limit inside place d ≡ e → d ≡ e
    alone place null e k same = same
    alone place (boolean b) e k same = same
    alone place (number n) e k same = same
    alone place (string s) e k same = same
    alone place (array ds) null k same = absurd cc
    alone place (array ds) (boolean b) k same = absurd cc
    alone place (array ds) (number n) k same = absurd cc
    alone place (array ds) (string s) k same = absurd cc
    alone place (array ds) (array es) k same = ap array (all_alone place 0 (limit place) ds es k (ap elements_of same))
    alone place (array ds) (object ms) k same = absurd k
    alone place (object ms) e k same = absurd (subst (IsKept limit inside place) (sym same) k)

    all_alone : (place : P) (index : ℕ) (room : Option ℕ) (ds es : Items) → AreKept limit inside place index room es → cut_items limit inside place index room ds ≡ es → ds ≡ es
    all_alone place index None no_items es k same = same
    all_alone place index None (item d ds) no_items k same = absurd cc
    all_alone place index None (item d ds) (item e es) k same =
        ap₂ item (alone (inside place index) d e k.0 (ap first_of_items same)) (all_alone place (suc index) None ds es k.1 (ap others same))
    all_alone place index (Some zero) ds es k same = absurd k
    all_alone place index (Some (suc room)) no_items es k same = same
    all_alone place index (Some (suc room)) (item d ds) no_items k same = absurd cc
    all_alone place index (Some (suc room)) (item d ds) (item e es) k same =
        ap₂ item (alone (inside place index) d e k.0 (ap first_of_items same)) (all_alone place (suc index) (Some room) ds es k.1 (ap others same))

  module _ {A : Type 0} (place : P) (read : Data → Option A) (reads : (d : Data) (a : A) → read d ≡ Some a → IsKept limit inside place d) where
    unread : (d : Data) (o : Option A) → read d ≡ None → read (cut limit inside place d) ≡ o → read (cut limit inside place d) ≡ None
    unread d None none same = same
    unread d (Some a) none same =
        let whole : d ≡ cut limit inside place d = alone place d (cut limit inside place d) (reads _ a same) refl in
        ap read (sym whole) ∙ none

    as_read : (d : Data) (o : Option A) → read d ≡ o → read (cut limit inside place d) ≡ o
    as_read d None same = unread d (read (cut limit inside place d)) same refl
    as_read d (Some a) same = ap read (kept place d (reads d a same)) ∙ same

    -- a reader of nothing but what is kept whole reads the same of what is cut
    pub unseen : (d : Data) → read (cut limit inside place d) ≡ read d
    unseen d = as_read d (read d) refl

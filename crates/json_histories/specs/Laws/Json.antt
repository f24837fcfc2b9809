-- What a JSON value is, from what was read of it.
use Rattle.std.specs.Prelude.{◌≡◌, ℕ, List, [], ◌∷◌, Bool, true, false, Option, Some, None, codes, option_map, option_and_then, if◌then◌else◌, refl}
use Rattle.std.proofs.Common.{ap, sym, ◌∙◌}
use Rattle.std.proofs.lemmas.Option.{same_Some}
use Rattle.std.specs.Cmp.Lexicographic.{same_text}
use Rattle.serde_json.specs.Data.{Data, null, boolean, number, string, array, object, unsigned, negative, float, Items, no_items, item}
use Rattle.serde_json.specs.Find.{as_str}
use Rattle.serde_json.specs.View.{items_of}
use Rattle.json_histories.specs.Json.{list, listed, elements, whole_number, unknown, is_unknown}

module _ {A B : Type 0} where
  -- what a step by step reader read, each step
  pub and_then_from : (f : A → Option B) (o : Option A) (b : B) → option_and_then f o ≡ Some b → (a : A) × (o ≡ Some a) × (f a ≡ Some b)
  and_then_from f None b e = absurd cc
  and_then_from f (Some a) b e = (a, refl, e)

  pub map_from : (f : A → B) (o : Option A) (b : B) → option_map f o ≡ Some b → (a : A) × (o ≡ Some a) × (f a ≡ b)
  map_from f None b e = absurd cc
  map_from f (Some a) b e = (a, refl, same_Some (f a) b e)

-- a choice between something and nothing, from what was chosen
pub chosen : {A : Type 0} (t : Bool) (o : Option A) (a : A) → (if t then o else None) ≡ Some a → (t ≡ true) × (o ≡ Some a)
chosen true o a e = (refl, e)
chosen false o a e = absurd cc

pub whole_number-read : (d : Data) (n : ℕ) → whole_number d ≡ Some n → d ≡ number (unsigned n)
whole_number-read null n e = absurd cc
whole_number-read (boolean b) n e = absurd cc
whole_number-read (number (unsigned m)) n e = let h : m ≡ n = cc in ap (λ x. number (unsigned x)) h
whole_number-read (number (negative z)) n e = absurd cc
whole_number-read (number (float x)) n e = absurd cc
whole_number-read (string s) n e = absurd cc
whole_number-read (array ds) n e = absurd cc
whole_number-read (object ms) n e = absurd cc

pub as_str-read : (d : Data) (s : List ℕ) → as_str d ≡ Some s → d ≡ string s
as_str-read null s e = absurd cc
as_str-read (boolean b) s e = absurd cc
as_str-read (number n) s e = absurd cc
as_str-read (string t) s e = let h : t ≡ s = cc in ap string h
as_str-read (array ds) s e = absurd cc
as_str-read (object ms) s e = absurd cc

pub is_unknown-read : (d : Data) → is_unknown d ≡ true → d ≡ unknown
is_unknown-read null e = absurd cc
is_unknown-read (boolean b) e = absurd cc
is_unknown-read (number n) e = absurd cc
is_unknown-read (string s) e = ap string (same_text s (codes "?") (sym e))
is_unknown-read (array ds) e = absurd cc
is_unknown-read (object ms) e = absurd cc

-- ---- lists and their elements

pub listed-items_of : (ds : List Data) → listed (items_of ds) ≡ ds
listed-items_of [] = refl
listed-items_of (d ∷ ds) = ap (λ (es : List Data). d ∷ es) (listed-items_of ds)

pub items_of-listed : (ds : Items) → items_of (listed ds) ≡ ds
items_of-listed no_items = refl
items_of-listed (item d ds) = ap (λ (es : Items). item d es) (items_of-listed ds)

pub elements-list : (ds : List Data) → elements (list ds) ≡ Some ds
elements-list ds = ap (λ (es : List Data). Some es) (listed-items_of ds)

-- the list with these elements is this one
pub list_from_elements : (d : Data) (ds : List Data) → elements d ≡ Some ds → d ≡ list ds
list_from_elements null ds e = absurd cc
list_from_elements (boolean b) ds e = absurd cc
list_from_elements (number n) ds e = absurd cc
list_from_elements (string s) ds e = absurd cc
list_from_elements (array es) ds e = let h : listed es ≡ ds = cc in ap array (sym (items_of-listed es) ∙ ap items_of h)
list_from_elements (object ms) ds e = absurd cc

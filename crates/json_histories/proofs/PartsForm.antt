-- The parts of the form of a history.
use Rattle.std.proofs.Common.{◌≡◌, ℕ, Bool, true, false, List, [], ◌∷◌, Option, Some, None, cond, refl, ap, ◌∙◌}
use Rattle.std.specs.Prelude.{option_map, is_some}
use Rattle.std.proofs.lemmas.Option.{option_and_then_some}
use Rattle.serde_json.specs.Data.{Data, null, boolean, number, string, array, object}
use Rattle.serde_json.specs.Find.{as_str}
use Rattle.json_histories.specs.Json.{list, elements}
use Rattle.json_histories.specs.Reading.{named_parts, parts_among, parts_of}
use Rattle.json_histories.proofs.JsonLists.{listed-items_of, list_from_elements}

abbrev pub Parts : Type 0
Parts = List ℕ × List Data × List Data

string_from_as_str : (d : Data) (s : List ℕ) → as_str d ≡ Some s → d ≡ string s
string_from_as_str null s e = absurd cc
string_from_as_str (boolean b) s e = absurd cc
string_from_as_str (number n) s e = absurd cc
string_from_as_str (string t) s e = let h : t ≡ s = cc in ap string h
string_from_as_str (array ds) s e = absurd cc
string_from_as_str (object ms) s e = absurd cc

map_is_some : {A B : Type 0} (f : A → B) (o : Option A) (y : B) → option_map f o ≡ Some y → (x : A) × (o ≡ Some x) × (f x ≡ y)
map_is_some f None y e = absurd cc
map_is_some f (Some x) y e = (x, refl, cc)

-- the form with these parts
abbrev pub formed : Parts → Data
formed p = list (string p.0 ∷ list p.1 ∷ p.2)

named_parts_formed : (n ss : Data) (rest : List Data) (p : Parts) → named_parts n ss rest ≡ Some p → list (n ∷ ss ∷ rest) ≡ formed p
named_parts_formed n ss rest p e =
    option_and_then_some (λ (name : List ℕ). option_map (λ (sessions : List Data). (name, sessions, rest)) (elements ss)) (as_str n) p e (λ name is_name inside.
    let q = map_is_some (λ (sessions : List Data). (name, sessions, rest)) (elements ss) p inside in
    rw (string_from_as_str n name is_name, list_from_elements ss q.0 q.1) (ap formed q.2))

parts_among_formed : (ds : List Data) (p : Parts) → parts_among ds ≡ Some p → list ds ≡ formed p
parts_among_formed [] p e = absurd cc
parts_among_formed (n ∷ []) p e = absurd cc
parts_among_formed (n ∷ ss ∷ []) p e = named_parts_formed n ss [] p e
parts_among_formed (n ∷ ss ∷ t ∷ []) p e = named_parts_formed n ss (t ∷ []) p (kept (is_some (elements t)) (named_parts n ss (t ∷ [])) p e)
  where
    kept : (b : Bool) (o : Option Parts) (p : Parts) → cond b o None ≡ Some p → o ≡ Some p
    kept true o p e = e
    kept false o p e = absurd cc
parts_among_formed (n ∷ ss ∷ t ∷ d ∷ ds) p e = absurd cc

pub parts_formed : (d : Data) (p : Parts) → parts_of d ≡ Some p → d ≡ formed p
parts_formed d p e =
    option_and_then_some parts_among (elements d) p e (λ ds is_list inside. list_from_elements d ds is_list ∙ parts_among_formed ds p inside)

-- the parts of a form without a start, and with one that is a list
pub parts_again : (name : List ℕ) (sessions : List Data) → parts_of (formed (name, sessions, [])) ≡ Some (name, sessions, [])
parts_again name sessions =
    rw (listed-items_of sessions) refl

pub parts_again_with_start : (name : List ℕ) (sessions start : List Data) → parts_of (formed (name, sessions, list start ∷ [])) ≡ Some (name, sessions, list start ∷ [])
parts_again_with_start name sessions start =
    rw (listed-items_of sessions) refl

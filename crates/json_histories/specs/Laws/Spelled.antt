-- Reading undoes the spelling of a call and its return behind the word, and nothing else is read: for each object by its own
-- laws.
use Rattle.std.specs.Prelude.{◌≡◌, ◌≢◌, ℕ, List, [], ◌∷◌, ◌++◌, Bool, true, false, ◌||◌, Option, Some, None, option_map, refl}
use Rattle.std.proofs.Common.{ap, ◌∙◌, ⊎_elim}
use Rattle.std.proofs.lemmas.Bool.{cases_Bool}
use Rattle.std.proofs.lemmas.Option.{same_Some}
use Rattle.serde_json.specs.Data.{Data}
use Rattle.serde_json.specs.View.{items_of}
use Rattle.serde_json.specs.Written.{has_float, items_have_float}
use Rattle.json_histories.specs.Form.{Fits, HaveNoFloats}
use Rattle.json_histories.specs.Json.{unknown}
use Rattle.json_histories.specs.Laws.Json.{and_then_from, map_from, is_unknown-read}
use Rattle.json_histories.specs.Spelled.{IsSpelling}
use Rattle.json_histories.specs.Spelling.{is_unknown_alone, rest_form, return_at, spelled_at}

-- ---- `"?"` or a return

pub is_unknown_alone-read : (ds : List Data) → is_unknown_alone ds ≡ true → ds ≡ unknown ∷ []
is_unknown_alone-read [] e = absurd cc
is_unknown_alone-read (d ∷ []) e = ap (λ (x : Data). x ∷ []) (is_unknown-read d e)
is_unknown_alone-read (d ∷ f ∷ ds) e = absurd cc

known_is_not_unknown : (ds : List Data) → ds ≢ unknown ∷ [] → is_unknown_alone ds ≡ false
known_is_not_unknown ds known =
    ⊎_elim (λ (t : is_unknown_alone ds ≡ true). absurd (known (is_unknown_alone-read ds t))) (λ (f : is_unknown_alone ds ≡ false). f) (cases_Bool (is_unknown_alone ds))

-- ---- no floats

neither : (a b : Bool) → (a || b) ≡ false → (a ≡ false) × (b ≡ false)
neither true b e = absurd cc
neither false b e = (refl, e)

both_have_no_float : (ds es : List Data) → HaveNoFloats ds → HaveNoFloats es → HaveNoFloats (ds ++ es)
both_have_no_float [] es first second = second
both_have_no_float (d ∷ ds) es first second =
    let p = neither (has_float d) (items_have_float (items_of ds)) first in
    rw (p.0, both_have_no_float ds es p.1 second) refl

module _ {C R : Type 0} {word_of : C → List ℕ} {arguments : C → List Data} {ret_form : R → List Data}
    {call_at : List ℕ → List Data → Option (C × List Data)} {ret_at : C → List Data → Option R} {fits : C → R → Bool}
    (spelling : IsSpelling word_of arguments ret_form call_at ret_at fits) where
  -- a return that was read behind its call
  known_read : (c : C) (ds : List Data) (d : C) (r s : Option R) (v : R) → ret_at c ds ≡ Some v → c ≡ d → Some v ≡ r
      → (arguments c ++ ds ≡ rest_form arguments ret_form d r) × Fits fits d r
  known_read c ds d r s v read call ret =
      let p = spelling.ret_read c ds v read in
      rw (← call, ← ret) (ap (λ (x : List Data). arguments c ++ x) p.0, p.1)

  unknown_read : (c : C) (ds : List Data) (d : C) (r : Option R) → ds ≡ unknown ∷ [] → c ≡ d → None ≡ r
      → (arguments c ++ ds ≡ rest_form arguments ret_form d r) × Fits fits d r
  unknown_read c ds d r none call ret = rw (← call, ← ret, none) (refl, tt)

  return_read : (c : C) (ds : List Data) (d : C) (r : Option R) → return_at ret_at c ds ≡ Some (d, r)
      → (c ≡ d) × (arguments c ++ ds ≡ rest_form arguments ret_form d r) × Fits fits d r
  return_read c ds d r e =
      ⊎_elim
      (λ (t : is_unknown_alone ds ≡ true).
      let h : Some (c, None) ≡ Some (d, r) = rw t at e in
      let same : (c, None) ≡ (d, r) = same_Some (c, None) (d, r) h in
      let q = unknown_read c ds d r (is_unknown_alone-read ds t) (ap (λ x. x.0) same) (ap (λ x. x.1) same) in
      (ap (λ x. x.0) same, q.0, q.1))
      (λ (f : is_unknown_alone ds ≡ false).
      let h : option_map (λ (v : R). (c, Some v)) (ret_at c ds) ≡ Some (d, r) = rw f at e in
      let p = map_from (λ (v : R). (c, Some v)) (ret_at c ds) (d, r) h in
      let q = known_read c ds d r r p.0 p.1 (ap (λ x. x.0) p.2) (ap (λ x. x.1) p.2) in
      (ap (λ x. x.0) p.2, q.0, q.1))
      (cases_Bool (is_unknown_alone ds))

  pub spelled_read : (w : List ℕ) (ds : List Data) (c : C) (r : Option R) → spelled_at call_at ret_at w ds ≡ Some (c, r)
      → (w ≡ word_of c) × (ds ≡ rest_form arguments ret_form c r) × Fits fits c r
  spelled_read w ds c r e =
      let p = and_then_from (λ (q : C × List Data). return_at ret_at q.0 q.1) (call_at w ds) (c, r) e in
      let call = spelling.call_read w ds p.0.1 p.0.0 p.1 in
      let ret = return_read p.0.0 p.0.1 c r p.2 in
      (call.0 ∙ ap word_of ret.0, call.1 ∙ ret.1, ret.2)

  pub spelled_again : (c : C) (r : Option R) → Fits fits c r → spelled_at call_at ret_at (word_of c) (rest_form arguments ret_form c r) ≡ Some (c, r)
  spelled_again c None fine = rw (spelling.call_again c (unknown ∷ [])) refl
  spelled_again c (Some r) fine =
      rw (spelling.call_again c (ret_form r)) (rw (known_is_not_unknown (ret_form r) (spelling.ret_is_known r)) (rw (spelling.ret_again c r fine) refl))

  pub rest_has_no_float : (c : C) (r : Option R) → HaveNoFloats (rest_form arguments ret_form c r)
  rest_has_no_float c None = both_have_no_float (arguments c) (unknown ∷ []) (spelling.arguments_have_no_float c) refl
  rest_has_no_float c (Some r) = both_have_no_float (arguments c) (ret_form r) (spelling.arguments_have_no_float c) (spelling.ret_has_no_float r)

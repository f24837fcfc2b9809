-- What a spelling has to be: reading undoes it, nothing else is read, and no number in it is a float.
use Rattle.std.specs.Prelude.{◌≡◌, ◌≢◌, ℕ, List, [], ◌∷◌, ◌++◌, Bool, true, false, Option, Some}
use Rattle.serde_json.specs.Data.{Data}
use Rattle.serde_json.specs.Written.{has_float}
use Rattle.json_histories.specs.Form.{HaveNoFloats}
use Rattle.json_histories.specs.Json.{unknown}

-- reading undoes the spelling of calls and returns, nothing else is read, and no number in it is a float
pub record IsSpelling {C R : Type 0} (word_of : C → List ℕ) (arguments : C → List Data) (ret_form : R → List Data)
    (call_at : List ℕ → List Data → Option (C × List Data)) (ret_at : C → List Data → Option R) (fits : C → R → Bool) : Type 0 where
  pub call_read : (w : List ℕ) (ds rest : List Data) (c : C) → call_at w ds ≡ Some (c, rest) → (w ≡ word_of c) × (ds ≡ arguments c ++ rest)
  pub call_again : (c : C) (rest : List Data) → call_at (word_of c) (arguments c ++ rest) ≡ Some (c, rest)
  pub ret_read : (c : C) (ds : List Data) (r : R) → ret_at c ds ≡ Some r → (ds ≡ ret_form r) × (fits c r ≡ true)
  pub ret_again : (c : C) (r : R) → fits c r ≡ true → ret_at c (ret_form r) ≡ Some r
  pub ret_is_known : (r : R) → ret_form r ≢ unknown ∷ []
  pub arguments_have_no_float : (c : C) → HaveNoFloats (arguments c)
  pub ret_has_no_float : (r : R) → HaveNoFloats (ret_form r)

-- reading undoes the form of a start that isn't the plain one, nothing else is read, and no number in it is a float
pub record IsStartSpelling {S : Type 0} (plain : S) (is_start : S → Type 0) (start_form : S → Data)
    (start_at : Data → Option S) : Type 0 where
  pub start_read : (d : Data) (s : S) → start_at d ≡ Some s → (d ≡ start_form s) × is_start s × (s ≢ plain)
  pub start_again : (s : S) → is_start s → s ≢ plain → start_at (start_form s) ≡ Some s
  pub start_has_no_float : (s : S) → has_float (start_form s) ≡ false

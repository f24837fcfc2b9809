-- Whether the value that comes next is a list.
use Rattle.std.proofs.Common.{◌≡◌, ◌≢◌, ℕ, zero, suc, ◌-◌, ◌<◌, List, ◌∷◌, Option, Some, None, option_map, refl, sym, ap, ◌∙◌, arith}
use Rattle.std.specs.Prelude.{Result, IfOk, IfErr}
use Rattle.std.proofs.lemmas.Result.{IfOk-weaker, IfErr-weaker}
use Rattle.json.specs.Json.{parse_map}
use Rattle.json.specs.Reads.{token_of}
use Rattle.json.specs.Token.{Token}
use Rattle.json.specs.declared.token.Token as tokens
use Rattle.json.specs.declared.token.Token.TheVariants.{BeginObject, EndObject, BeginArray, EndArray, Key, String, Number, Bool as Truth, Null, Bad}
use Rattle.json.proofs.Grammar.{value_is}
use Rattle.serde_json.specs.Data.{Data, Num, Members, null, boolean, number, string, array, object}
use Rattle.serde_json.specs.Read.{number_of, of_json, converted}
use Rattle.json_bounded.specs.Steps.Reading.{AreRefused, IsRefused}
use Rattle.json_bounded.specs.declared.text_error.TextError.{TextError}
use Rattle.json_bounded.proofs.Stopping.{list_refused}
use Rattle.json_bounded.proofs.Tokens.{Read, next, at_null, at_boolean, at_string, at_number, at_begin_array, at_begin_object, no_object}
use Rattle.json_histories.specs.Json.{elements}
use Rattle.json_tokens.specs.Tokens.{IsList, IsRest}

-- a value, and what stands after it
abbrev pub there : Data → List Token → Read
there d r = Some (d, r)

abbrev value_in : Read → Data
value_in None = null
value_in (Some p) = p.0

same_value : (a d : Data) (ts r : List Token) → elements a ≡ None → there a ts ≡ there d r → elements d ≡ None
same_value a d ts r none e = let same : a ≡ d = ap value_in e in rw (← same) none

module _ (d : Data) (r : List Token) where
  of_nothing : (o : Read) → o ≡ None → o ≡ there d r → elements d ≡ None
  of_nothing o none e = let bad : None ≡ there d r = sym none ∙ e in absurd cc

  of_number : (ts : List Token) (n : Option Num) → option_map {U = Data × List Token} (λ m. (number m, ts)) n ≡ there d r → elements d ≡ None
  of_number ts None e = absurd cc
  of_number ts (Some n) e = same_value (number n) d ts r refl e

  of_object : (o : Option (Members × List Token)) → parse_map object o ≡ there d r → elements d ≡ None
  of_object None e = absurd cc
  of_object (Some p) e = same_value (object p.0) d p.1 r refl e

  object_there : (depth : ℕ) (ts : List Token) → next depth (Token.begin_object ∷ ts) ≡ there d r → elements d ≡ None
  object_there zero ts e = of_nothing _ (no_object ts) e
  object_there (suc depth) ts e = of_object _ (sym (at_begin_object (suc depth) ts (omega arith)) ∙ e)

  -- what begins with another token than the bracket of a list is none
  pub no_list_there : (depth : ℕ) (t : tokens.Token) (ts : List Token) → t ≢ BeginArray → next depth (token_of t ∷ ts) ≡ there d r → elements d ≡ None
  no_list_there depth BeginObject ts other e = object_there depth ts e
  no_list_there depth EndObject ts other e = of_nothing _ (ap (converted of_json) (value_is depth (Token.end_object ∷ ts))) e
  no_list_there depth BeginArray ts other e = absurd (other refl)
  no_list_there depth EndArray ts other e = of_nothing _ (ap (converted of_json) (value_is depth (Token.end_array ∷ ts))) e
  no_list_there depth (Key s) ts other e = of_nothing _ (ap (converted of_json) (value_is depth (Token.key s.now ∷ ts))) e
  no_list_there depth (String s) ts other e = same_value (string s.now) d ts r refl (sym (at_string depth ts s.now) ∙ e)
  no_list_there depth (Number s) ts other e = of_number ts (number_of s.now) (sym (at_number depth ts s.now) ∙ e)
  no_list_there depth (Truth b) ts other e = same_value (boolean b) d ts r refl (sym (at_boolean depth ts b) ∙ e)
  no_list_there depth Null ts other e = same_value null d ts r refl (sym (at_null depth ts) ∙ e)
  no_list_there depth Bad ts other e = of_nothing _ (ap (converted of_json) (value_is depth (Token.bad ∷ ts))) e

-- the bracket and the rest of a list are that list
pub list_there : (P : Option (List Data) → Type 0) (depth : ℕ) (ts r : List Token) → 0 < depth → IsRest (λ ds. P (Some ds)) (depth - 1) ts r → IsList P depth (Token.begin_array ∷ ts) r
list_there P depth ts r some rest =
    (array rest.0, at_begin_array depth ts some ∙ ap (parse_map array) rest.1, rest.2)

module _ {T : Type 0} (result : Result T TextError) (depth : ℕ) (ts rest r : List Token) (first : ts ≡ Token.begin_array ∷ rest) (some : 0 < depth) where
  pub list_if_read : (P : T → Option (List Data) → Type 0) → IfOk result (λ x. IsRest (λ ds. P x (Some ds)) (depth - 1) rest r) → IfOk result (λ x. IsList (P x) depth ts r)
  list_if_read P read = IfOk-weaker result _ _ (λ x is. rw first (list_there (P x) depth rest r some is)) read

  pub list_if_refused : IfErr result (AreRefused (depth - 1) rest) → IfErr result (IsRefused depth ts)
  list_if_refused refused = IfErr-weaker result _ _ (λ e is. rw first (list_refused depth rest some e is)) refused

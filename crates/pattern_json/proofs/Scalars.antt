-- What is read of a word.
use Rattle.std.proofs.Common.{◌≡◌, ◌∙◌, ℕ, zero, suc, List, ◌∷◌, Option, Some, None, option_map, refl, sym, ap, subst, arith}
use Rattle.std.specs.Prelude.{◌≢◌}
use Rattle.json.specs.Json.{parse_map}
use Rattle.json.specs.Reads.{token_of}
use Rattle.json.specs.Token.{Token}
use Rattle.json.specs.declared.token.Token as tokens
use Rattle.json.specs.declared.token.Token.TheVariants.{BeginObject, EndObject, BeginArray, EndArray, Key, String, Number, Bool as Truth, Null, Bad}
use Rattle.json.proofs.Grammar.{value_is}
use Rattle.serde_json.specs.Data.{Data, Items, Members, Num, null, boolean, number, string, array, object}
use Rattle.serde_json.specs.Read.{number_of, of_json, converted}
use Rattle.json_bounded.proofs.Tokens.{Read, next, at_null, at_boolean, at_number, at_begin_array, at_begin_object, no_list, no_object}
use Rattle.json_histories.specs.Reads.{IsRead}
use Rattle.pattern_json.specs.Words.{word_form}
use Rattle.json_tokens.proofs.Values.{there}

abbrev IsNoText : Data → Type 0
IsNoText d = (s : List ℕ) → d ≢ string s

abbrev value_in : Read → Data
value_in None = null
value_in (Some p) = p.0

module _ (d : Data) (r : List Token) where
  of_nothing : (o : Read) → o ≡ None → o ≡ there d r → IsNoText d
  of_nothing o none e = let bad : None ≡ there d r = sym none ∙ e in absurd cc

  of_value : (a : Data) (ts : List Token) → IsNoText a → there a ts ≡ there d r → IsNoText d
  of_value a ts none e = subst IsNoText (ap value_in e) none

  of_number : (ts : List Token) (n : Option Num) → option_map {U = Data × List Token} (λ m. (number m, ts)) n ≡ there d r → IsNoText d
  of_number ts None e = absurd cc
  of_number ts (Some n) e = of_value (number n) ts (λ s same. absurd cc) e

  of_object : (o : Option (Members × List Token)) → parse_map object o ≡ there d r → IsNoText d
  of_object None e = absurd cc
  of_object (Some p) e = of_value (object p.0) p.1 (λ s same. absurd cc) e

  of_list : (o : Option (Items × List Token)) → parse_map array o ≡ there d r → IsNoText d
  of_list None e = absurd cc
  of_list (Some p) e = of_value (array p.0) p.1 (λ s same. absurd cc) e

  object_there : (depth : ℕ) (ts : List Token) → next depth (Token.begin_object ∷ ts) ≡ there d r → IsNoText d
  object_there zero ts e = of_nothing _ (no_object ts) e
  object_there (suc depth) ts e = of_object _ (sym (at_begin_object (suc depth) ts (omega arith)) ∙ e)

  list_there : (depth : ℕ) (ts : List Token) → next depth (Token.begin_array ∷ ts) ≡ there d r → IsNoText d
  list_there zero ts e = of_nothing _ (no_list ts) e
  list_there (suc depth) ts e = of_list _ (sym (at_begin_array (suc depth) ts (omega arith)) ∙ e)

  -- what begins with another token than a text is none
  pub no_text_there : (depth : ℕ) (t : tokens.Token) (ts : List Token) → ((s : _) → t ≢ String s) → next depth (token_of t ∷ ts) ≡ there d r → IsNoText d
  no_text_there depth BeginObject ts other e = object_there depth ts e
  no_text_there depth EndObject ts other e = of_nothing _ (ap (converted of_json) (value_is depth (Token.end_object ∷ ts))) e
  no_text_there depth BeginArray ts other e = list_there depth ts e
  no_text_there depth EndArray ts other e = of_nothing _ (ap (converted of_json) (value_is depth (Token.end_array ∷ ts))) e
  no_text_there depth (Key s) ts other e = of_nothing _ (ap (converted of_json) (value_is depth (Token.key s.now ∷ ts))) e
  no_text_there depth (String s) ts other e = absurd (other s refl)
  no_text_there depth (Number s) ts other e = of_number ts (number_of s.now) (sym (at_number depth ts s.now) ∙ e)
  no_text_there depth (Truth b) ts other e = of_value (boolean b) ts (λ s same. absurd cc) (sym (at_boolean depth ts b) ∙ e)
  no_text_there depth Null ts other e = of_value null ts (λ s same. absurd cc) (sym (at_null depth ts) ∙ e)
  no_text_there depth Bad ts other e = of_nothing _ (ap (converted of_json) (value_is depth (Token.bad ∷ ts))) e

-- what is named by a text is named by its value
pub text_read : {A : Type 0} (name : A → List ℕ) (s : List ℕ) (r : Option A) → IsRead name s r → IsRead (word_form name) (string s) r
text_read name s None none = λ a same. let text : s ≡ name a = cc in none a text
text_read name s (Some a) is = ap string is

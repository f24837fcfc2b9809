-- Lists that begin with a word, and what comes after it.
use Rattle.std.proofs.Common.{◌≡◌, ◌∙◌, ℕ, ◌-◌, ◌<◌, List, [], ◌∷◌, length, Option, Some, None, refl, sym, ap, subst}
use Rattle.std.specs.Prelude.{◌≢◌, IfOk, IfErr, Result}
use Rattle.std.proofs.lemmas.Result.{IfErr-weaker, IfOk-weaker}
use Rattle.json.specs.Json.{after_end_array, parse_map, value}
use Rattle.json.specs.Token.{Token}
use Rattle.serde_json.specs.Data.{Data, string, array}
use Rattle.json_bounded.specs.Steps.Behind.{behind_items}
use Rattle.serde_json.specs.Read.{of_json, converted}
use Rattle.json_bounded.specs.Steps.Reading.{AreRefused}
use Rattle.json_bounded.specs.declared.text_error.TextError.{TextError}
use Rattle.json_bounded.proofs.Tokens.{at_begin_array}
use Rattle.json_histories.specs.Json.{list, listed}
use Rattle.json_histories.specs.Reads.{IsRead}
use Rattle.json_tokens.specs.Tokens.{IsRest, IsValue}
use Rattle.json_tokens.proofs.Elements.{HasRead, read_all, read_none, read_one_more, rest_passed, rest_refused, then_rest}
use Rattle.pattern_json.specs.Steps.Taken.{opened_parts}
use Rattle.pattern_json.specs.Words.{word_form}
use Rattle.pattern_json.proofs.Wholes.{list_read}

-- ---- the whole list

-- what is read of the rest of a list, after its bracket, is read of the list
module _ {X : Type 0} (parts : X → List Data) (depth : ℕ) (ts rest r : List Token) (first : ts ≡ Token.begin_array ∷ rest) (some : 0 < depth) where
  list_there : (whole : Option X) → IsRest (λ ds. IsRead parts ds whole) (depth - 1) rest r → IsValue (λ d. IsRead (λ x. list (parts x)) d whole) depth ts r
  list_there whole is =
      rw first (array is.0, at_begin_array depth rest some ∙ ap (parse_map array) is.1, list_read parts (array is.0) (listed is.0) refl whole is.2)

  pub list_if_there : (result : Result (Option X) TextError) → IfOk result (λ whole. IsRest (λ ds. IsRead parts ds whole) (depth - 1) rest r)
      → IfOk result (λ whole. IsValue (λ d. IsRead (λ x. list (parts x)) d whole) depth ts r)
  list_if_there result = IfOk-weaker result _ _ list_there

-- ---- the word, and the rest

-- the first element was read of the list
module _ (depth : ℕ) (ts r : List Token) (d : Data) (going : after_end_array ts ≡ None) (one : converted of_json (value depth ts) ≡ Some (d, r)) (less : length r < length ts) where
  pub read_word : HasRead depth ts r (d ∷ [])
  read_word = read_one_more depth ts ts [] (read_none depth ts) r d going one less

  pub if_refused : {X : Type 0} (result : Result X TextError) → IfErr result (AreRefused depth r) → IfErr result (AreRefused depth ts)
  if_refused result = IfErr-weaker result _ _ (rest_refused depth ts r (d ∷ []) read_word)

module _ {W X : Type 0} (name : W → List ℕ) (word_of : X → W) (shown : X → List Data) where
  abbrev parts : X → List Data
  parts = opened_parts name word_of shown

  -- a list without elements has no word
  pub nothing_opened : (depth : ℕ) (ts r : List Token) → after_end_array ts ≡ Some r → IsRest (λ ds. IsRead parts ds None) depth ts r
  nothing_opened depth ts r end = read_all depth ts ts [] (read_none depth ts) (λ ds. IsRead parts ds None) r end (λ x same. absurd cc)

  module _ (depth : ℕ) (ts r : List Token) (d : Data) (read : HasRead depth ts r (d ∷ [])) where
    -- the rest comes after the word
    pub if_opened : (w : W) → d ≡ word_form name w → (result : Result (Option X) TextError) (q : List Token)
        → IfOk result (λ whole. IsRest (λ ds. IsRead parts (string (name w) ∷ ds) whole) depth r q) → IfOk result (λ whole. IsRest (λ ds. IsRead parts ds whole) depth ts q)
    if_opened w word result q =
        IfOk-weaker result _ _
        (λ whole is.
        then_rest depth ts r (d ∷ []) read (λ ds. IsRead parts ds whole) (λ ds. IsRead parts (string (name w) ∷ ds) whole) q is
        (λ more there. subst (λ (x : Data). IsRead parts (x ∷ more) whole) (sym word) there))

    -- no list begins with what is no word
    unnamed : ((w : W) → d ≢ word_form name w) → (more : List Data) (x : X) → d ∷ more ≢ parts x
    unnamed none more x same = let first : d ≡ word_form name (word_of x) = cc in none (word_of x) first

    pub none_opened : ((w : W) → d ≢ word_form name w) → (q : List Token) → behind_items depth r ≡ Some q → IsRest (λ ds. IsRead parts ds None) depth ts q
    none_opened none q passed = rest_passed depth ts r (d ∷ []) read (λ ds. IsRead parts ds None) q passed (unnamed none)

-- ---- what comes after the word

module _ {A X : Type 0} (inner : A → List Data) (outer : X → List Data) (word : Data) where
  -- what the rest makes is made of the list
  pub made_after : (made : A → X) → ((a : A) → outer (made a) ≡ word ∷ inner a) → (a : A) (depth : ℕ) (ts r : List Token)
      → IsRest (λ ds. IsRead inner ds (Some a)) depth ts r → IsRest (λ ds. IsRead outer (word ∷ ds) (Some (made a))) depth ts r
  made_after made same a depth ts r is = (is.0, is.1, ap (λ (es : List Data). word ∷ es) is.2 ∙ sym (same a))

  -- where the rest is that of nothing, the list is none either
  pub none_after : ((es : List Data) → ((a : A) → es ≢ inner a) → (x : X) → word ∷ es ≢ outer x) → (depth : ℕ) (ts r : List Token)
      → IsRest (λ ds. IsRead inner ds None) depth ts r → IsRest (λ ds. IsRead outer (word ∷ ds) None) depth ts r
  none_after never depth ts r is = (is.0, is.1, never (listed is.0) is.2)

-- What the first token says of the value that comes next.
use Rattle.std.proofs.Common.{◌≡◌, ◌≢◌, ℕ, ◌-◌, ◌<◌, List, [], ◌∷◌, length, Bool, Option, Some, None, option_map, refl, ap, ◌∙◌}
use Rattle.json.specs.Json.{after_end_array, items, members, parse_map, value}
use Rattle.json.specs.Reads.{token_of}
use Rattle.json.specs.Token.{Token}
use Rattle.json.specs.declared.token.Token as tokens
use Rattle.json.specs.declared.token.Token.TheVariants as kinds
use Rattle.json.proofs.Grammar.{left, left-parse_map, value_is, value-begin_array, value-begin_object}
use Rattle.serde_json.specs.Data.{Data, Items, Members, Num, null, boolean, number, string, array, object, no_members}
use Rattle.serde_json.specs.Read.{number_of, of_json, of_items, of_members, converted}
use Rattle.json_bounded.specs.Steps.Behind.{behind_value, behind_items, behind_members}
use Rattle.json_bounded.proofs.Turns.{converted-array, converted-object}

-- a list goes on where no bracket closes it
pub goes_on : (t : tokens.Token) (ts : List Token) → t ≢ kinds.EndArray → after_end_array (token_of t ∷ ts) ≡ None
goes_on kinds.BeginObject ts other = refl
goes_on kinds.EndObject ts other = refl
goes_on kinds.BeginArray ts other = refl
goes_on kinds.EndArray ts other = absurd (other refl)
goes_on (kinds.Key s) ts other = refl
goes_on (kinds.String s) ts other = refl
goes_on (kinds.Number s) ts other = refl
goes_on (kinds.Bool b) ts other = refl
goes_on kinds.Null ts other = refl
goes_on kinds.Bad ts other = refl

-- a value, and what comes after it
abbrev pub Read : Type 0
Read = Option (Data × List Token)

abbrev pub next : ℕ → List Token → Read
next depth ts = converted of_json (value depth ts)

module _ (depth : ℕ) where
  pub at_end : next depth [] ≡ None
  at_end = ap (converted of_json) (value_is depth [])

  module _ (ts : List Token) where
    pub at_null : next depth (Token.null ∷ ts) ≡ Some (null, ts)
    at_null = ap (converted of_json) (value_is depth (Token.null ∷ ts))

    pub at_boolean : (b : Bool) → next depth (Token.boolean b ∷ ts) ≡ Some (boolean b, ts)
    at_boolean b = ap (converted of_json) (value_is depth (Token.boolean b ∷ ts))

    pub at_string : (s : List ℕ) → next depth (Token.string s ∷ ts) ≡ Some (string s, ts)
    at_string s = ap (converted of_json) (value_is depth (Token.string s ∷ ts))

    written : (o : Option Num) → option_map {U = Data × List Token} (λ d. (d, ts)) (option_map number o) ≡ option_map (λ n. (number n, ts)) o
    written None = refl
    written (Some n) = refl

    pub at_number : (s : List ℕ) → next depth (Token.number s ∷ ts) ≡ option_map (λ n. (number n, ts)) (number_of s)
    at_number s = ap (converted of_json) (value_is depth (Token.number s ∷ ts)) ∙ written (number_of s)

    pub at_number_read : (s : List ℕ) (n : Num) → number_of s ≡ Some n → next depth (Token.number s ∷ ts) ≡ Some (number n, ts)
    at_number_read s n is = at_number s ∙ ap (option_map (λ m. (number m, ts))) is

    pub at_number_refused : (s : List ℕ) → number_of s ≡ None → next depth (Token.number s ∷ ts) ≡ None
    at_number_refused s none = at_number s ∙ ap (option_map (λ m. (number m, ts))) none

    pub at_begin_array : 0 < depth → next depth (Token.begin_array ∷ ts) ≡ parse_map array (converted of_items (items (value (depth - 1)) (length ts) ts))
    at_begin_array some = ap (converted of_json) (value-begin_array depth ts some) ∙ converted-array (items (value (depth - 1)) (length ts) ts)

    pub at_begin_object : 0 < depth → next depth (Token.begin_object ∷ ts) ≡ parse_map object (converted (λ ms. of_members ms no_members) (members (value (depth - 1)) (length ts) ts))
    at_begin_object some = ap (converted of_json) (value-begin_object depth ts some) ∙ converted-object (members (value (depth - 1)) (length ts) ts)

    pub at_list_read : 0 < depth → (ds : Items) (rest : List Token) → converted of_items (items (value (depth - 1)) (length ts) ts) ≡ Some (ds, rest)
        → next depth (Token.begin_array ∷ ts) ≡ Some (array ds, rest)
    at_list_read some ds rest is = at_begin_array some ∙ ap (parse_map array) is

    pub at_object_read : 0 < depth → (ms : Members) (rest : List Token) → converted (λ ms. of_members ms no_members) (members (value (depth - 1)) (length ts) ts) ≡ Some (ms, rest)
        → next depth (Token.begin_object ∷ ts) ≡ Some (object ms, rest)
    at_object_read some ms rest is = at_begin_object some ∙ ap (parse_map object) is

    pub behind_list : 0 < depth → behind_value depth (Token.begin_array ∷ ts) ≡ behind_items (depth - 1) ts
    behind_list some = ap left (at_begin_array some) ∙ left-parse_map array (converted of_items (items (value (depth - 1)) (length ts) ts))

    pub behind_object : 0 < depth → behind_value depth (Token.begin_object ∷ ts) ≡ behind_members (depth - 1) ts
    behind_object some = ap left (at_begin_object some) ∙ left-parse_map object (converted (λ ms. of_members ms no_members) (members (value (depth - 1)) (length ts) ts))

-- nothing nests in what may not nest
pub no_list : (ts : List Token) → next 0 (Token.begin_array ∷ ts) ≡ None
unfolding value
no_list ts = refl

pub no_object : (ts : List Token) → next 0 (Token.begin_object ∷ ts) ≡ None
unfolding value
no_object ts = refl

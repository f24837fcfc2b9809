-- Why reading stops, passed on from a part to the whole.
use Rattle.std.proofs.Common.{◌≡◌, ℕ, ◌-◌, ◌<◌, List, [], ◌∷◌, None, option_and_then, ap, ◌∙◌}
use Rattle.json.specs.Json.{if_last, parse_map, value}
use Rattle.json.specs.Lex.{tokens}
use Rattle.json.specs.Token.{Token}
use Rattle.json.proofs.Grammar.{left_none, value_is}
use Rattle.serde_json.specs.Data.{array, object}
use Rattle.serde_json.specs.Read.{max_depth, of_json, read}
use Rattle.json_bounded.specs.Steps.Behind.{behind_members}
use Rattle.json_bounded.specs.Steps.Reading.{AreRefused, IsRefused}
use Rattle.json_bounded.specs.Text.{StopsFor}
use Rattle.json_bounded.specs.declared.text_error.TextError.{TextError}
use Rattle.json_bounded.specs.declared.text_error.TextError.TheVariants.{NotJson, Memory}
use Rattle.json_bounded.proofs.Tokens.{next, at_begin_array, at_begin_object}

pub stops_for : (p : Type 0) → p → (e : TextError) → StopsFor p e
stops_for p h NotJson = h
stops_for p h Memory = tt

pub stops_too : (p q : Type 0) → (p → q) → (e : TextError) → StopsFor p e → StopsFor q e
stops_too p q then NotJson h = then h
stops_too p q then Memory h = h

module _ (depth : ℕ) (ts : List Token) (some : 0 < depth) where
  pub list_refused : (e : TextError) → AreRefused (depth - 1) ts e → IsRefused depth (Token.begin_array ∷ ts) e
  list_refused = stops_too _ _ (λ none. at_begin_array depth ts some ∙ ap (parse_map array) none)

  pub object_refused : behind_members (depth - 1) ts ≡ None → next depth (Token.begin_object ∷ ts) ≡ None
  object_refused none = at_begin_object depth ts some ∙ ap (parse_map object) (left_none _ none)

-- a text without tokens is no value
pub nothing_whole : (text : List ℕ) → tokens text ≡ [] → read text ≡ None
nothing_whole text none = ap (λ ts. option_and_then of_json (option_and_then (λ p. if_last p.0 p.1) (value max_depth ts))) none ∙ ap (λ o. option_and_then of_json (option_and_then (λ p. if_last p.0 p.1) o)) (value_is max_depth [])

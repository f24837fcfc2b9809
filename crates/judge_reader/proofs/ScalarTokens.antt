-- What a token says, alone or as the first of a value.
use Rattle.std.proofs.Common.{◌≡◌, ℕ, List, ◌∷◌, Some, option_map, refl, ap, ◌∙◌}
use Rattle.json.specs.Token.{Token}
use Rattle.serde_json.specs.Data.{number, string, unsigned}
use Rattle.serde_json.specs.Read.{number_of}
use Rattle.json_bounded.proofs.Tokens.{at_number, at_string}
use Rattle.json_histories.specs.declared.history_place.HistoryPlace.TheVariants as places
use Rattle.judge_reader.specs.Steps.Scalars.{IsAlone, scalar_of, text_scalar}
use Rattle.json_tokens.specs.Tokens.{IsValue}
use Rattle.judge_reader.specs.declared.scalar.Scalar.{Scalar}
use Rattle.judge_reader.specs.declared.scalar.Scalar.TheVariants as scalars

pub text_alone : (s : List ℕ) → IsAlone (Token.string s) (text_scalar s)
text_alone s = (string s, (λ depth ts. at_string depth ts s), refl)

pub number_alone : (s : List ℕ) (n : ℕ) → number_of s ≡ Some (unsigned n) → IsAlone (Token.number s) (scalars.Number n)
number_alone s n is = (number (unsigned n), (λ depth ts. at_number depth ts s ∙ ap (option_map (λ m. (number m, ts))) is), refl)

pub alone_read : (t : Token) (s : Scalar) (depth : ℕ) (ts : List Token) → IsAlone t s → IsValue (λ d. scalar_of d ≡ s) depth (t ∷ ts) ts
alone_read t s depth ts alone = (alone.0, alone.1 depth ts, alone.2)

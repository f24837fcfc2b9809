-- What is read of a whole number.
use Rattle.std.proofs.Common.{◌≡◌, ◌∙◌, ℕ, List, Option, Some, None, option_map, refl, sym, ap, subst}
use Rattle.std.specs.Prelude.{IfSome}
use Rattle.json.specs.Token.{Token}
use Rattle.serde_json.specs.Data.{Data, null, boolean, number, string, array, object, unsigned, negative, float}
use Rattle.serde_json.specs.Read.{number_of}
use Rattle.json_bounded.specs.Cut.{cut}
use Rattle.json_bounded.proofs.Tokens.{at_number}
use Rattle.json_histories.specs.Json.{whole_number}
use Rattle.json_histories.specs.Places.{inside_of, limit_of}
use Rattle.json_histories.specs.Reads.{number_form, IsRead}
use Rattle.json_histories.specs.declared.history_place.HistoryPlace.TheVariants.{Scalar}
use Rattle.json_tokens.specs.Alone.{IsAlone}

number_alone : (s : List ℕ) (n : ℕ) → number_of s ≡ Some (unsigned n) → IsAlone (Token.number s) n
number_alone s n is = λ depth ts. at_number depth ts s ∙ ap (option_map (λ m. (number m, ts))) is

pub alone_if_number : (t : Token) (s : List ℕ) (o : Option ℕ) → t ≡ Token.number s → IfSome o (λ n. number_of s ≡ Some (unsigned n)) → IfSome o (IsAlone t)
alone_if_number t s None is read = tt
alone_if_number t s (Some n) is read = subst (λ (u : Token). IsAlone u n) (sym is) (number_alone s n read)

number_read : (d : Data) → IsRead number_form d (whole_number d)
number_read null = λ n same. absurd cc
number_read (boolean b) = λ n same. absurd cc
number_read (number (unsigned m)) = refl
number_read (number (negative z)) = λ n same. absurd cc
number_read (number (float x)) = λ n same. absurd cc
number_read (string s) = λ n same. absurd cc
number_read (array ds) = λ n same. absurd cc
number_read (object ms) = λ n same. absurd cc

same_number : (d : Data) → whole_number (cut limit_of inside_of Scalar d) ≡ whole_number d
same_number null = refl
same_number (boolean b) = refl
same_number (number n) = refl
same_number (string s) = refl
same_number (array ds) = refl
same_number (object ms) = refl

-- the whole number of what is kept of a value is that of the value
pub number_of_cut : (d kept : Data) (o : Option ℕ) → kept ≡ cut limit_of inside_of Scalar d → o ≡ whole_number kept → IsRead number_form d o
number_of_cut d kept o is read = subst (IsRead number_form d) (sym (read ∙ ap whole_number is ∙ same_number d)) (number_read d)

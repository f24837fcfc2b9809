-- The number that digits alone write.
use Rattle.std.proofs.Common.{◌≡◌, ◌≢◌, ℕ, ◌^◌, ◌<◌, List, [], ◌∷◌, ◌++◌, length, get_or, false, ◌==◌, Some, refl, sym, ap, subst, ◌∙◌, arith}
use Rattle.std.specs.Float.Numeral.{IsWellFormed, Parts, text_of}
use Rattle.std.specs.Result.{OkIff}
use Rattle.std.specs.Prelude.{Result, Ok}
use Rattle.std.specs.Str.Parse.{AllDigits, IsNumeral, ParsesUnsigned, digits_value, without_leading_plus}
use Rattle.std.proofs.lemmas.Bool.{lt-ltb}
use Rattle.std.proofs.lemmas.Float.Parse.{scan_numeral-text_of}
use Rattle.std.proofs.lemmas.List.{append-nil}
use Rattle.std.proofs.lemmas.Str.Parse.{digit_from_value, without_leading_plus_none}
use Rattle.fast_float.specs.Text.{scan}
use Rattle.serde_json.specs.Data.{unsigned}
use Rattle.serde_json.specs.Read.{number_from, number_of}

-- the parts of a numeral of digits alone
abbrev digits_alone : List ℕ → Parts
digits_alone s = record { whole = s; point = false; fraction = []; exponent_negative = false; exponent = []; len = length s }

scan_digits : (s : List ℕ) → AllDigits 10 s → scan s ≡ digits_alone s
scan_digits s digits =
    let text : text_of (digits_alone s) ≡ s = append-nil s in
    let well : IsWellFormed (digits_alone s) =
    record { whole_digits = digits; fraction_digits = tt; exponent_digits = tt; no_point = λ _. refl; no_exponent = λ _. refl; len_is = ap length (sym text) } in
    ap scan (sym text) ∙ scan_numeral-text_of (digits_alone s) well

no_minus : (s : List ℕ) → AllDigits 10 s → (get_or s 0 0 == 45) ≡ false
no_minus [] digits = refl
no_minus (c ∷ cs) digits = let range = digit_from_value c digits.0 in grind arith

from_digits : (s : List ℕ) → 0 < length s → digits_value 10 (s ++ []) < 2 ^ 64 → number_from false (digits_alone s) ≡ Some (unsigned (digits_value 10 (s ++ [])))
from_digits s some fits = rw (lt-ltb 0 (length s) some, lt-ltb (digits_value 10 (s ++ [])) (2 ^ 64) fits)

pub number_of_numeral : (s : List ℕ) → IsNumeral 10 s → digits_value 10 s < 2 ^ 64 → number_of s ≡ Some (unsigned (digits_value 10 s))
unfolding number_of
number_of_numeral s is small =
    let fits : digits_value 10 (s ++ []) < 2 ^ 64 = rw (append-nil s) small in
    let read : number_from false (scan s) ≡ Some (unsigned (digits_value 10 s)) =
    ap (number_from false) (scan_digits s is.1) ∙ from_digits s is.0 fits ∙ ap (λ t. Some (unsigned (digits_value 10 t))) (append-nil s) in
    rw (no_minus s is.1) read

-- what is parsed of a text without a plus is the number that it writes
pub number_parsed : {E : Type 0} (s : List ℕ) (r : Result ℕ E) (n : ℕ) → get_or s 0 0 ≢ 43 → ParsesUnsigned 64 10 s r → r ≡ Ok n → number_of s ≡ Some (unsigned n)
number_parsed {E} s r n no_plus parses is =
    let ds = without_leading_plus s in
    let whole : ds ≡ s = without_leading_plus_none s no_plus in
    let read : OkIff {T = ℕ} {E = E} (Ok n) (IsNumeral 10 ds × (digits_value 10 ds < 2 ^ 64)) (digits_value 10 ds) =
    subst (λ (x : Result ℕ E). OkIff x (IsNumeral 10 ds × (digits_value 10 ds < 2 ^ 64)) (digits_value 10 ds)) is parses in
    let done = subst (λ (t : List ℕ). (IsNumeral 10 t × (digits_value 10 t < 2 ^ 64)) × (n ≡ digits_value 10 t)) whole read in
    number_of_numeral s done.0.0 done.0.1 ∙ ap (λ m. Some (unsigned m)) (sym done.1)

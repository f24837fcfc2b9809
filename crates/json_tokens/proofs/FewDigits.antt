-- The number that a few digits write.
use Rattle.std.proofs.Common.{◌≡◌, ℕ, zero, suc, ◌+◌, ◌*◌, ◌^◌, ◌<◌, ◌≤◌, List, [], ◌∷◌, length, take, get_or, Some, sym, ap, ◌∙◌, arith}
use Rattle.std.specs.Char.{digit_value}
use Rattle.std.specs.Str.Parse.{AllDigits, digits_value}
use Rattle.std.proofs.Math.Nat.{pow-le-pow_right}
use Rattle.std.proofs.Math.Seq.{take-length}
use Rattle.std.proofs.lemmas.Int.Digits.{digits_value-lt, digits_value_more}
use Rattle.std.proofs.lemmas.List.{length-take-le}
use Rattle.serde_json.specs.Data.{unsigned}
use Rattle.serde_json.specs.Read.{number_of}
use Rattle.json_tokens.proofs.WholeNumbers.{number_of_numeral}

more_digits : (s : List ℕ) (i : ℕ) → i < length s → AllDigits 10 (take i s) → digit_value (get_or s i 0) < 10 → AllDigits 10 (take (suc i) s)
more_digits [] i inside digits digit = absurd (omega arith)
more_digits (c ∷ cs) zero inside digits digit = (digit, tt)
more_digits (c ∷ cs) (suc i) inside digits digit = (digits.0, more_digits cs i (omega arith) digits.1 digit)

-- the first bytes are digits, and write the number
abbrev pub AreDigitsOf : List ℕ → ℕ → ℕ → Type 0
AreDigitsOf s i n = AllDigits 10 (take i s) × (n ≡ digits_value 10 (take i s))

pub one_more_digit : (s : List ℕ) (i n : ℕ) → i < length s → AreDigitsOf s i n → digit_value (get_or s i 0) < 10 → AreDigitsOf s (i + 1) (n * 10 + digit_value (get_or s i 0))
one_more_digit s i n inside so_far digit =
    let next : suc i ≡ i + 1 = omega arith in
    (rw (← next) (more_digits s i inside so_far.0 digit), ap (λ m. m * 10 + digit_value (get_or s i 0)) so_far.1 ∙ sym (digits_value_more 10 s i inside))

-- so many digits write no more than this
below_power : (s : List ℕ) (i n most : ℕ) → i ≤ length s → i ≤ most → AreDigitsOf s i n → n < 10 ^ most
below_power s i n most inside few so_far =
    let less = digits_value-lt 10 (take i s) so_far.0 in
    let many : length (take i s) ≤ most = omega (arith, length-take-le i s inside) in
    let up : 10 ^ length (take i s) ≤ 10 ^ most = pow-le-pow_right {n = 10} (omega arith) many in
    omega (arith, less, up, so_far.1)

-- where a digit follows, the number so far has room for it
pub room_for_digit : (s : List ℕ) (i n : ℕ) → i < length s → length s ≤ 19 → AreDigitsOf s i n → n < 1000000000000000000
room_for_digit s i n inside few so_far = below_power s i n 18 (omega arith) (omega arith) so_far

pub number_of_digits : (s : List ℕ) (n : ℕ) → 0 < length s → length s ≤ 19 → AreDigitsOf s (length s) n → number_of s ≡ Some (unsigned n)
number_of_digits s n some few all =
    let whole : take (length s) s ≡ s = take-length s in
    let digits : AllDigits 10 s = rw whole at all.0 in
    let value : n ≡ digits_value 10 s = all.1 ∙ ap (digits_value 10) whole in
    let below : n < 10 ^ 19 = below_power s (length s) n 19 (omega arith) few all in
    let fits : digits_value 10 s < 2 ^ 64 = omega (arith, value, below) in
    number_of_numeral s (some, digits) fits ∙ ap (λ m. Some (unsigned m)) (sym value)

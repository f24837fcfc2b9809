-- Values of attributes: a number is digits.
use Rattle.std.proofs.Common.{◌≡◌, ◌<◌, ◌%◌, ◌/◌, ◌==◌, ◌&&◌, ◌||◌, ◌++◌, ℕ, zero, suc, Bool, true, false, List, [], ◌∷◌, arith, refl, if◌then◌else◌, decimal, IsTrue, ap, append_assoc, ◌∙◌}
use Rattle.std.specs.Fmt.{digits, digits_onto, digit_glyph}
use Rattle.std.specs.List.{list_all}
use Rattle.std.specs.Char.{is_ascii_digit}
use Rattle.std.proofs.Math.Nat.{mod-lt}
use Rattle.std.proofs.lemmas.Bool.Decides.{nat_tests}
use Rattle.std.proofs.lemmas.List.Folds.{list_all-append}
use Rattle.show_pictures.specs.Steps.Drawing.{AppendsMeasures}
use Rattle.show_pictures.specs.Markup.{attribute_words, is_measure_byte, is_one_of, is_value}

abbrev are_measures : List ℕ → Bool
are_measures = list_all is_measure_byte

either_first : (a b : Bool) → a ≡ true → (a || b) ≡ true
either_first a b is = rw is refl

digit_in_range : (d : ℕ) → d < 10 → is_ascii_digit (digit_glyph false d) ≡ true
digit_in_range d small = grind (arith, nat_tests)

digit_is_measure : (d : ℕ) → d < 10 → is_measure_byte (digit_glyph false d) ≡ true
digit_is_measure d small = either_first (is_ascii_digit (digit_glyph false d)) _ (digit_in_range d small)

both_are : (b : Bool) (xs ys : List ℕ) → are_measures xs ≡ true → are_measures ys ≡ true → are_measures (if b then xs else ys) ≡ true
both_are true xs ys first second = first
both_are false xs ys first second = second

both_true : (a b : Bool) → a ≡ true → b ≡ true → (a && b) ≡ true
both_true a b first second = rw (first, second) refl

digits_are : (k n : ℕ) (after : List ℕ) → are_measures after ≡ true → are_measures (digits_onto k 10 false n after) ≡ true
digits_are zero n after are = are
digits_are (suc k) n after are =
    let more : are_measures (digit_glyph false (n % 10) ∷ after) ≡ true =
    both_true _ _ (digit_is_measure (n % 10) (mod-lt n (omega arith))) are in
    both_are (n / 10 == 0) (digit_glyph false (n % 10) ∷ after) (digits_onto k 10 false (n / 10) (digit_glyph false (n % 10) ∷ after)) more
    (digits_are k (n / 10) (digit_glyph false (n % 10) ∷ after) more)

pub number_is_measure : (n : ℕ) → IsTrue (list_all is_measure_byte (decimal n))
unfolding digits
number_is_measure n = digits_are 64 n [] refl

pub measure_is_value : (value : List ℕ) → IsTrue (list_all is_measure_byte value) → IsTrue (is_value value)
measure_is_value value is = either_first (list_all is_measure_byte value) (is_one_of attribute_words value) is

pub number_is_value : (n : ℕ) → IsTrue (is_value (decimal n))
number_is_value n = measure_is_value (decimal n) (number_is_measure n)

pub measure-append : (a b : List ℕ) → IsTrue (list_all is_measure_byte a) → IsTrue (list_all is_measure_byte b)
    → IsTrue (list_all is_measure_byte (a ++ b))
measure-append a b first second = list_all-append is_measure_byte a b ∙ both_true _ _ first second

-- a number before measures
pub number_then : (n : ℕ) (rest : List ℕ) → IsTrue (list_all is_measure_byte rest) → IsTrue (list_all is_measure_byte (decimal n ++ rest))
number_then n rest more = measure-append (decimal n) rest (number_is_measure n) more

pub measures_then : (a b c : List ℕ) → AppendsMeasures a b → AppendsMeasures b c → AppendsMeasures a c
measures_then a b c first second = record {
  added = first.added ++ second.added;
  is = second.is ∙ ap (λ (l : List ℕ). l ++ second.added) first.is ∙ append_assoc a first.added second.added;
  measures = measure-append first.added second.added first.measures second.measures;
}

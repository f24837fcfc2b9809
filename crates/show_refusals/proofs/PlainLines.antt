-- Lines of printable ASCII.
use Rattle.std.proofs.Common.{◌≡◌, ℕ, ◌<◌, ◌≤◌, ◌^◌, List, [], ◌∷◌, ◌++◌, true, refl, sym, subst, arith}
use Rattle.std.specs.Prelude.{◌&&◌, codes, decimal, encode_utf8, is_ok, if◌then◌else◌, nat_le, OnOk, Result, Ok, Err}
use Rattle.std.specs.List.{list_all}
use Rattle.std.specs.Str.Parse.{AllDigits}
use Rattle.std.proofs.lemmas.Bool.{and_from, le-leb}
use Rattle.std.proofs.lemmas.Fmt.{decimal_is_IsNumeral}
use Rattle.std.proofs.lemmas.List.Folds.{list_all-append}
use Rattle.std.proofs.lemmas.Str.{encode_ascii}
use Rattle.std.proofs.lemmas.Str.Parse.{digit_from_value}
use Rattle.show_refusals.specs.Lines.{BeginsWith, IsPlain, is_plain}

pub printed : (c : ℕ) → 32 ≤ c → c ≤ 126 → is_plain c ≡ true
printed c least most = and_from (nat_le 32 c) (nat_le c 126) (le-leb 32 c least) (le-leb c 126 most)

plain-append : (front rest : List ℕ) → IsPlain front → IsPlain rest → IsPlain (front ++ rest)
plain-append front rest first second =
    rw (list_all-append is_plain front rest) (and_from (list_all is_plain front) (list_all is_plain rest) first second)

-- one character more
plain-push : (text : List ℕ) (c : ℕ) → IsPlain text → is_plain c ≡ true → c < 128 → IsPlain (text ++ encode_utf8 c)
plain-push text c before printed ascii =
    let one : IsPlain (c ∷ []) = and_from (is_plain c) true printed refl in
    plain-append text (encode_utf8 c) before (subst (λ (bytes : List ℕ). IsPlain bytes) (sym (encode_ascii c ascii)) one)

pub pushed_plain : {T E : Type 0} (r : Result T E) (old new : List ℕ) (c : ℕ) → new ≡ (if is_ok r then old ++ encode_utf8 c else old)
    → is_plain c ≡ true → c < 128 → OnOk r (IsPlain old → IsPlain new)
pushed_plain (Ok x) old new c is printed ascii = λ before. subst (λ (bytes : List ℕ). IsPlain bytes) (sym is) (plain-push old c before printed ascii)
pushed_plain (Err e) old new c is printed ascii = tt

plain-digits : (ds : List ℕ) → AllDigits 10 ds → IsPlain ds
plain-digits [] digits = refl
plain-digits (d ∷ ds) digits =
    let r = digit_from_value d digits.0 in
    and_from (is_plain d) (list_all is_plain ds) (printed d (omega arith) (omega arith)) (plain-digits ds digits.1)

plain-decimal : (n : ℕ) → n < 2 ^ 64 → IsPlain (decimal n)
plain-decimal n small = plain-digits (decimal n) (decimal_is_IsNumeral n small).0.1

pub joined_begins : (front rest line : List ℕ) → line ≡ front ++ rest → BeginsWith front line
joined_begins front rest line joined = (rest, joined)

pub joined_plain : (front rest line : List ℕ) → IsPlain front → IsPlain rest → line ≡ front ++ rest → IsPlain line
joined_plain front rest line first second joined = subst (λ (bytes : List ℕ). IsPlain bytes) (sym joined) (plain-append front rest first second)

pub step_is_plain : (place : ℕ) (line : List ℕ) → place < 2 ^ 64 → line ≡ codes "step " ++ decimal place → IsPlain line
step_is_plain place line small = joined_plain (codes "step ") (decimal place) line refl (plain-decimal place small)

pub place_is_plain : (session index : ℕ) (line : List ℕ) → session < 2 ^ 64 → index < 2 ^ 64
    → line ≡ codes "session " ++ (decimal session ++ (codes ", operation " ++ decimal index)) → IsPlain line
place_is_plain session index line small few =
    let last : IsPlain (codes ", operation " ++ decimal index) = plain-append (codes ", operation ") (decimal index) refl (plain-decimal index few) in
    let rest : IsPlain (decimal session ++ (codes ", operation " ++ decimal index)) =
    plain-append (decimal session) (codes ", operation " ++ decimal index) (plain-decimal session small) last in
    joined_plain (codes "session ") (decimal session ++ (codes ", operation " ++ decimal index)) line refl rest

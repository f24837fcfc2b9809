-- A name tells its JSON value.
use Rattle.std.proofs.Common.{◌≡◌, ◌<◌, ◌≤◌, ◌+◌, ◌/◌, ◌%◌, ◌^◌, ◌==◌, ℕ, zero, suc, Bool, true, false, List, [], ◌∷◌, Some, refl, sym, ap, ◌∙◌, arith, if◌then◌else◌}
use Rattle.std.specs.Prelude.{codes, nat_lt, pos, negsuc}
use Rattle.std.specs.Fmt.{decimal, digit_glyph, digits, digits_onto}
use Rattle.std.proofs.lemmas.Fmt.{decimal_injective}
use Rattle.serde_json.specs.Data.{Data, unsigned, negative, float, null, boolean, number, string, array, object}
use Rattle.log_reader.specs.NameLaw.{FitsWord}
use Rattle.log_reader.specs.Names.{Name, value_name}

-- ---- the digits of a number begin with a digit

record StartsLow (bytes : List ℕ) : Type 0 where
  first : ℕ
  rest : List ℕ
  whole : bytes ≡ first ∷ rest
  low : 48 ≤ first
  high : first ≤ 57

glyph_by : (d : ℕ) (low : Bool) → nat_lt d 10 ≡ low → d < 10 → (if low then 48 + d else 87 + d) ≡ 48 + d
glyph_by d true is less = refl
glyph_by d false is less = absurd (grind arith)

glyph_low : (d : ℕ) → d < 10 → digit_glyph false d ≡ 48 + d
glyph_low d less = glyph_by d (nat_lt d 10) refl less

low_before : (n : ℕ) (acc : List ℕ) → StartsLow (digit_glyph false (n % 10) ∷ acc)
low_before n acc =
    let small : n % 10 < 10 = omega arith in
    let is = glyph_low (n % 10) small in
    record { first = digit_glyph false (n % 10); rest = acc; whole = refl; low = omega (arith, is); high = omega (arith, is, small) }

onto_by : (k n : ℕ) (acc : List ℕ) (last : Bool) → StartsLow (digits_onto k 10 false (n / 10) (digit_glyph false (n % 10) ∷ acc))
    → StartsLow (if last then digit_glyph false (n % 10) ∷ acc else digits_onto k 10 false (n / 10) (digit_glyph false (n % 10) ∷ acc))
onto_by k n acc true more = low_before n acc
onto_by k n acc false more = more

onto_low : (k n : ℕ) (acc : List ℕ) → StartsLow acc → StartsLow (digits_onto k 10 false n acc)
onto_low zero n acc before = before
onto_low (suc k) n acc before = onto_by k n acc (n / 10 == 0) (onto_low k (n / 10) (digit_glyph false (n % 10) ∷ acc) (low_before n acc))

decimal_by : (k n : ℕ) → StartsLow (digits_onto (suc k) 10 false n [])
decimal_by k n = onto_by k n [] (n / 10 == 0) (onto_low k (n / 10) (digit_glyph false (n % 10) ∷ []) (low_before n []))

decimal_low : (n : ℕ) → StartsLow (decimal n)
unfolding digits
decimal_low n = decimal_by 63 n

-- ---- the kinds of names

data Kind (d : Data) (name : Name) : Type 0 where
  text : (s : List ℕ) → d ≡ string s → name ≡ 34 ∷ s → Kind d name
  whole : (n : ℕ) → n < 2 ^ 64 → d ≡ number (unsigned n) → name ≡ decimal n → Kind d name
  minus : (m : ℕ) → suc m < 2 ^ 64 → d ≡ number (negative (negsuc m)) → name ≡ 45 ∷ decimal (suc m) → Kind d name
  word : (b : Bool) → d ≡ boolean b → name ≡ (if b then codes "true" else codes "false") → Kind d name

some_name : (a b : Name) → Some a ≡ Some b → b ≡ a
some_name a b is = cc

kind : (d : Data) (name : Name) → FitsWord d → value_name d ≡ Some name → Kind d name
kind (boolean true) name fits is = word true refl (some_name _ name is)
kind (boolean false) name fits is = word false refl (some_name _ name is)
kind (number (unsigned n)) name fits is = whole n fits refl (some_name _ name is)
kind (number (negative (pos n))) name fits is = absurd fits
kind (number (negative (negsuc m))) name fits is = minus m fits refl (some_name _ name is)
kind (number (float x)) name fits is = absurd cc
kind (string s) name fits is = text s refl (some_name _ name is)
kind null name fits is = absurd cc
kind (array ds) name fits is = absurd cc
kind (object ms) name fits is = absurd cc

heads : (b c : ℕ) (x y : List ℕ) (name : Name) → name ≡ b ∷ x → name ≡ c ∷ y → b ≡ c
heads b c x y name first second = let same : b ∷ x ≡ c ∷ y = sym first ∙ second in cc

tails : (b c : ℕ) (x y : List ℕ) (name : Name) → name ≡ b ∷ x → name ≡ c ∷ y → x ≡ y
tails b c x y name first second = let same : b ∷ x ≡ c ∷ y = sym first ∙ second in cc

-- a name of digits is no other
digits_alone : (n c : ℕ) (y : List ℕ) (name : Name) → name ≡ decimal n → name ≡ c ∷ y → (48 ≤ c) × (c ≤ 57)
digits_alone n c y name first second =
    let low = decimal_low n in
    let same : low.first ≡ c = heads low.first c low.rest y name (first ∙ low.whole) second in
    let l = low.low in
    let h = low.high in (omega (arith, same, l), omega (arith, same, h))

word_text : (b : Bool) → (c : ℕ) × (y : List ℕ) × ((if b then codes "true" else codes "false") ≡ c ∷ y) × (57 < c)
word_text true = (116, 114 ∷ 117 ∷ 101 ∷ [], refl, omega arith)
word_text false = (102, 97 ∷ 108 ∷ 115 ∷ 101 ∷ [], refl, omega arith)

words : (b c : Bool) (name : Name) → name ≡ (if b then codes "true" else codes "false") → name ≡ (if c then codes "true" else codes "false") → b ≡ c
words true true name first second = refl
words false false name first second = refl
words true false name first second = let same = heads 116 102 _ _ name first second in absurd (omega arith)
words false true name first second = let same = heads 102 116 _ _ name first second in absurd (omega arith)

same_kind : (d e : Data) (name : Name) → Kind d name → Kind e name → d ≡ e
same_kind d e name (text s is first) (text t as_is second) = is ∙ ap string (tails 34 34 s t name first second) ∙ sym as_is
same_kind d e name (text s is first) (whole n fits as_is second) = absurd (let r = digits_alone n 34 s name second first in omega (arith, r.0))
same_kind d e name (text s is first) (minus m fits as_is second) = absurd (let r = heads 34 45 _ _ name first second in omega arith)
same_kind d e name (text s is first) (word b as_is second) = absurd (let w = word_text b in let r = heads 34 w.0 _ _ name first (second ∙ w.2) in omega (arith, w.3, r))
same_kind d e name (whole n fits is first) (text s as_is second) = absurd (let r = digits_alone n 34 s name first second in omega (arith, r.0))
same_kind d e name (whole n fits is first) (whole m also as_is second) = is ∙ ap (λ k. number (unsigned k)) (decimal_injective n m fits also (sym first ∙ second)) ∙ sym as_is
same_kind d e name (whole n fits is first) (minus m also as_is second) = absurd (let r = digits_alone n 45 _ name first second in omega (arith, r.0))
same_kind d e name (whole n fits is first) (word b as_is second) = absurd (let w = word_text b in let r = digits_alone n w.0 w.1 name first (second ∙ w.2) in omega (arith, w.3, r.1))
same_kind d e name (minus m fits is first) (text s as_is second) = absurd (let r = heads 34 45 _ _ name second first in omega arith)
same_kind d e name (minus m fits is first) (whole n also as_is second) = absurd (let r = digits_alone n 45 _ name second first in omega (arith, r.0))
same_kind d e name (minus m fits is first) (minus k also as_is second) =
    let same : suc m ≡ suc k = decimal_injective (suc m) (suc k) fits also (tails 45 45 _ _ name first second) in
    let one : m ≡ k = omega (arith, same) in
    is ∙ ap (λ j. number (negative (negsuc j))) one ∙ sym as_is
same_kind d e name (minus m fits is first) (word b as_is second) = absurd (let w = word_text b in let r = heads 45 w.0 _ _ name first (second ∙ w.2) in omega (arith, w.3, r))
same_kind d e name (word b is first) (text s as_is second) = absurd (let w = word_text b in let r = heads 34 w.0 _ _ name second (first ∙ w.2) in omega (arith, w.3, r))
same_kind d e name (word b is first) (whole n fits as_is second) = absurd (let w = word_text b in let r = digits_alone n w.0 w.1 name second (first ∙ w.2) in omega (arith, w.3, r.1))
same_kind d e name (word b is first) (minus m fits as_is second) = absurd (let w = word_text b in let r = heads 45 w.0 _ _ name second (first ∙ w.2) in omega (arith, w.3, r))
same_kind d e name (word b is first) (word c as_is second) = is ∙ ap boolean (words b c name first second) ∙ sym as_is

pub names_tell : (d e : Data) (name : Name) → FitsWord d → FitsWord e → value_name d ≡ Some name → value_name e ≡ Some name → d ≡ e
names_tell d e name fits also first second = same_kind d e name (kind d name fits first) (kind e name also second)

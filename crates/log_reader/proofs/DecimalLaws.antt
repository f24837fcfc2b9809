-- The digits of a number are no text.
use Rattle.std.proofs.Common.{◌≡◌, ◌≢◌, ◌⊎◌, inl, inr, ◌+◌, ◌/◌, ◌%◌, ◌==◌, ℕ, zero, suc, Bool, true, false, List, [], ◌∷◌, refl, arith, ne_eqb, if◌then◌else◌}
use Rattle.std.specs.Prelude.{nat_lt, codes, None, Some, ℤ, pos, negsuc}
use Rattle.std.specs.Fmt.{decimal, signed_decimal, digit_glyph, digits, digits_onto}
use Rattle.log_events.specs.declared.event.Ending.TheVariants.{Answered}
use Rattle.log_reader.specs.Names.{same_name, text_name}
use Rattle.log_reader.specs.Steps.{name_in}
use Rattle.log_reader.specs.declared.name_value.NameValue.{NameValue}
use Rattle.log_reader.specs.declared.name_value.NameValue.TheVariants.{Whole, Negative, Truth}

-- the bytes are no text's name
abbrev IsNoText : List ℕ → Type 0
IsNoText bytes = (text : List ℕ) → same_name bytes (text_name text) ≡ false

no_text : (b : ℕ) (bytes : List ℕ) → b ≢ 34 → IsNoText (b ∷ bytes)
no_text b bytes other text = rw (ne_eqb b 34 other) refl

glyph_by : (d : ℕ) (low : Bool) → (if low then 48 + d else 87 + d) ≢ 34
glyph_by d true is = omega arith
glyph_by d false is = omega arith

glyph_other : (d : ℕ) → digit_glyph false d ≢ 34
glyph_other d = glyph_by d (nat_lt d 10)

onto_by : (k n : ℕ) (acc : List ℕ) (last : Bool) → IsNoText (digit_glyph false (n % 10) ∷ acc) → IsNoText (digits_onto k 10 false (n / 10) (digit_glyph false (n % 10) ∷ acc))
    → IsNoText (if last then digit_glyph false (n % 10) ∷ acc else digits_onto k 10 false (n / 10) (digit_glyph false (n % 10) ∷ acc))
onto_by k n acc true here more = here
onto_by k n acc false here more = more

onto_no_text : (k n : ℕ) (acc : List ℕ) → IsNoText acc → IsNoText (digits_onto k 10 false n acc)
onto_no_text zero n acc before = before
onto_no_text (suc k) n acc before =
    let here = no_text (digit_glyph false (n % 10)) acc (glyph_other (n % 10)) in
    onto_by k n acc (n / 10 == 0) here (onto_no_text k (n / 10) (digit_glyph false (n % 10) ∷ acc) here)

decimal_by : (k n : ℕ) → IsNoText (digits_onto (suc k) 10 false n [])
decimal_by k n =
    let here = no_text (digit_glyph false (n % 10)) [] (glyph_other (n % 10)) in
    onto_by k n [] (n / 10 == 0) here (onto_no_text k (n / 10) (digit_glyph false (n % 10) ∷ []) here)

pub decimal_no_text : (n : ℕ) (text : List ℕ) → same_name (decimal n) (text_name text) ≡ false
unfolding digits
decimal_no_text n = decimal_by 63 n

signed_no_text : (z : ℤ) (text : List ℕ) → same_name (signed_decimal z) (text_name text) ≡ false
signed_no_text (pos n) text = decimal_no_text n text
signed_no_text (negsuc n) text = refl

-- so they are not the answer to a write
pub unanswered : (answer : NameValue)
    → ((n : ℕ) × (answer ≡ Whole n)) ⊎ (((z : ℤ) × (answer ≡ Negative z)) ⊎ ((b : Bool) × (answer ≡ Truth b)))
    → None ≡ (if same_name (name_in answer) (text_name (codes "ok")) then Some Answered else None)
unanswered answer (inl (n, is)) = rw (is, decimal_no_text n (codes "ok")) refl
unanswered answer (inr (inl (z, is))) = rw (is, signed_no_text z (codes "ok")) refl
unanswered answer (inr (inr (true, is))) = rw is refl
unanswered answer (inr (inr (false, is))) = rw is refl

-- What stands in escaped texts.
use Rattle.std.proofs.Common.{◌≡◌, ◌==◌, ◌+◌, ◌<◌, ◌∙◌, ℕ, Bool, true, false, List, [], ◌∷◌, ◌++◌, ap, append-nil, codes, get_or, length, refl, take, if◌then◌else◌}
use Rattle.std.specs.Prelude.{◌≢◌}
use Rattle.std.proofs.lemmas.Bool.{eqb-false}
use Rattle.std.proofs.lemmas.Grind.{flat_map-append}
use Rattle.std.proofs.lemmas.List.{take_more}
use Rattle.std.proofs.lemmas.List.Elements.{All-append, All-cons, All-nil}
use Rattle.show_page.specs.Pages.{BeginsNoMarkup, escaped, shown_byte}
use Rattle.show_page.specs.declared.escaping.Within.{Within}
use Rattle.show_page.specs.declared.escaping.Within.TheVariants.{Json, Markup}

abbrev IsPlain : ℕ → Type 0
IsPlain b = b ≢ 0x3C

-- a text whose bytes are tested one by one
abbrev pub each_is_plain : List ℕ → Bool
each_is_plain [] = true
each_is_plain (b ∷ text) = if b == 0x3C then false else each_is_plain text

plain_in_front : (b : Bool) (rest : Bool) → (if b then false else rest) ≡ true → (b ≡ false) × (rest ≡ true)
plain_in_front true rest e = search
plain_in_front false rest e = (refl, e)

pub plain_text : (text : List ℕ) → each_is_plain text ≡ true → BeginsNoMarkup text
plain_text [] e = All-nil IsPlain
plain_text (b ∷ text) e =
    let parts = plain_in_front (b == 0x3C) (each_is_plain text) e in
    All-cons IsPlain b text (eqb-false b 0x3C parts.0) (plain_text text parts.1)

one_is_plain : (b : ℕ) → (b == 0x3C) ≡ false → BeginsNoMarkup (b ∷ [])
one_is_plain b is = All-cons IsPlain b [] (eqb-false b 0x3C is) (All-nil IsPlain)

by_json_test : (b : ℕ) (test : Bool) → (b == 0x3C) ≡ test → BeginsNoMarkup (if test then codes "\\u003c" else b ∷ [])
by_json_test b true is = plain_text (codes "\\u003c") refl
by_json_test b false is = one_is_plain b is

by_and_test : (b : ℕ) (test : Bool) → (b == 0x3C) ≡ false → BeginsNoMarkup (if test then codes "&amp;" else b ∷ [])
by_and_test b true is = plain_text (codes "&amp;") refl
by_and_test b false is = one_is_plain b is

by_markup_test : (b : ℕ) (test : Bool) → (b == 0x3C) ≡ test
    → BeginsNoMarkup (if test then codes "&lt;" else if b == 0x26 then codes "&amp;" else b ∷ [])
by_markup_test b true is = plain_text (codes "&lt;") refl
by_markup_test b false is = by_and_test b (b == 0x26) is

byte_is_plain : (within : Within) (b : ℕ) → BeginsNoMarkup (shown_byte within b)
byte_is_plain Json b = by_json_test b (b == 0x3C) refl
byte_is_plain Markup b = by_markup_test b (b == 0x3C) refl

pub escaped_begins_no_markup : (within : Within) (text : List ℕ) → BeginsNoMarkup (escaped within text)
escaped_begins_no_markup within [] = All-nil IsPlain
escaped_begins_no_markup within (b ∷ text) =
    All-append IsPlain (shown_byte within b) (escaped within text) (byte_is_plain within b) (escaped_begins_no_markup within text)

-- the front of a text with one byte more
pub escaped_more : (within : Within) (text : List ℕ) (i : ℕ) → i < length text
    → escaped within (take (i + 1) text) ≡ escaped within (take i text) ++ shown_byte within (get_or text i 0)
escaped_more within text i more =
    ap (escaped within) (take_more text i 0 more) ∙ flat_map-append (shown_byte within) (take i text) (get_or text i 0 ∷ [])
    ∙ ap (λ (end : List ℕ). escaped within (take i text) ++ end) (append-nil (shown_byte within (get_or text i 0)))

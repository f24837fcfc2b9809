-- What stands in escaped texts.
use Rattle.std.proofs.Common.{◌≡◌, ◌==◌, ℕ, Bool, true, false, List, [], ◌∷◌, codes, if◌then◌else◌, refl}
use Rattle.std.proofs.lemmas.List.Elements.{All-append, All-cons, All-nil}
use Rattle.show_pictures.specs.Markup.{IsWithoutMarkup, entity_of, escaped_text, is_bracket_or_quote}

abbrev IsPlain : ℕ → Type 0
IsPlain c = is_bracket_or_quote c ≡ false

-- a text whose characters are tested one by one
abbrev each_is_plain : List ℕ → Bool
each_is_plain [] = true
each_is_plain (c ∷ cs) = if is_bracket_or_quote c then false else each_is_plain cs

plain_in_front : (b : Bool) (rest : Bool) → (if b then false else rest) ≡ true → (b ≡ false) × (rest ≡ true)
plain_in_front true rest e = search
plain_in_front false rest e = (refl, e)

plain_text : (cs : List ℕ) → each_is_plain cs ≡ true → IsWithoutMarkup cs
plain_text [] e = All-nil IsPlain
plain_text (c ∷ cs) e =
    let parts = plain_in_front (is_bracket_or_quote c) (each_is_plain cs) e in
    All-cons IsPlain c cs parts.0 (plain_text cs parts.1)

-- one text or another, by a test
by_test : (test : Bool) (xs ys : List ℕ) → IsWithoutMarkup xs → (test ≡ false → IsWithoutMarkup ys) → IsWithoutMarkup (if test then xs else ys)
by_test true xs ys plain other = plain
by_test false xs ys plain other = other refl

entity_has_no_markup : (c : ℕ) → IsWithoutMarkup (entity_of c)
entity_has_no_markup c =
    by_test (c == 0x3C) _ _ (plain_text (codes "&lt;") refl) (λ less.
    by_test (c == 0x3E) _ _ (plain_text (codes "&gt;") refl) (λ greater.
    by_test (c == 0x26) _ _ (plain_text (codes "&amp;") refl) (λ ampersand.
    by_test (c == 0x22) _ _ (plain_text (codes "&quot;") refl) (λ double.
    by_test (c == 0x27) _ _ (plain_text (codes "&#39;") refl) (λ single.
    All-cons IsPlain c [] (rw (less, greater, double, single) refl) (All-nil IsPlain))))))

pub escaped_has_no_markup : (text : List ℕ) → IsWithoutMarkup (escaped_text text)
escaped_has_no_markup [] = All-nil IsPlain
escaped_has_no_markup (c ∷ text) =
    All-append IsPlain (entity_of c) (escaped_text text) (entity_has_no_markup c) (escaped_has_no_markup text)

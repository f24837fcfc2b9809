-- Escaped texts, read back.
use Rattle.std.proofs.Common.{◌≡◌, ◌==◌, ◌&&◌, ◌||◌, ◌∙◌, ◌++◌, ℕ, zero, suc, Bool, true, false, List, [], ◌∷◌, ap, sym, subst, refl, codes, if◌then◌else◌}
use Rattle.std.proofs.lemmas.Bool.{eqb-true}
use Rattle.show_page.specs.Pages.{begins_with, escaped, escapes_less, read_json, read_markup, shown_byte}
use Rattle.show_page.specs.declared.escaping.Within.TheVariants.{Json, Markup}

-- one list or another, by a test
by_test : (P : List ℕ → Type 0) (test : Bool) (xs ys : List ℕ) → (test ≡ true → P xs) → (test ≡ false → P ys) → P (if test then xs else ys)
by_test P true xs ys first second = first refl
by_test P false xs ys first second = second refl

markup_front : (b : ℕ) (rest : List ℕ) → read_markup 0 (shown_byte Markup b ++ rest) ≡ b ∷ read_markup 0 rest
markup_front b rest =
    let P : List ℕ → Type 0 = λ shown. read_markup 0 (shown ++ rest) ≡ b ∷ read_markup 0 rest in
    by_test P (b == 0x3C) (codes "&lt;") _ (λ is. ap (λ (v : ℕ). v ∷ read_markup 0 rest) (sym (eqb-true b 0x3C is))) (λ less.
    by_test P (b == 0x26) (codes "&amp;") (b ∷ []) (λ is. ap (λ (v : ℕ). v ∷ read_markup 0 rest) (sym (eqb-true b 0x26 is))) (λ and.
    rw and refl))

pub markup_reads_back : (text : List ℕ) → read_markup 0 (escaped Markup text) ≡ text
markup_reads_back [] = refl
markup_reads_back (b ∷ text) = markup_front b (escaped Markup text) ∙ ap (λ (l : List ℕ). b ∷ l) (markup_reads_back text)

pub markup_apart : (a b : List ℕ) → escaped Markup a ≡ escaped Markup b → a ≡ b
markup_apart a b same = sym (markup_reads_back a) ∙ ap (read_markup 0) same ∙ markup_reads_back b

-- no byte of the word is a < or a backslash
abbrev IsBare : List ℕ → Type 0
IsBare [] = Unit {0}
IsBare (w ∷ word) = ((w == 0x3C) ≡ false) × ((0x3C == w) ≡ false) × ((0x5C == w) ≡ false) × IsBare word

-- none of the first n bytes is a <
abbrev HasNone : ℕ → List ℕ → Type 0
HasNone n [] = Unit {0}
HasNone zero (b ∷ text) = Unit {0}
HasNone (suc n) (b ∷ text) = ((b == 0x3C) ≡ false) × HasNone n text

none_at_zero : (text : List ℕ) → HasNone 0 text
none_at_zero [] = tt
none_at_zero (b ∷ text) = tt

abbrev count : List ℕ → ℕ
count [] = zero
count (w ∷ word) = suc (count word)

both_true : (a b : Bool) → (a && b) ≡ true → (a ≡ true) × (b ≡ true)
both_true true b is = (refl, is)
both_true false b is = search

both_false : (a b : Bool) → (a || b) ≡ false → (a ≡ false) × (b ≡ false)
both_false true b is = search
both_false false b is = (refl, is)

kept_byte : (b : ℕ) (text : List ℕ) → (b == 0x3C) ≡ false → escaped Json (b ∷ text) ≡ b ∷ escaped Json text
kept_byte b text is = rw is refl

begins_as_less : (w : ℕ) (word text : List ℕ) → IsBare (w ∷ word) → begins_with (w ∷ word) (escaped Json (0x3C ∷ text)) ≡ begins_with (w ∷ word) (0x3C ∷ text)
begins_as_less w word text bare = rw (bare.1, bare.2) refl

begins_by_test : (w b : ℕ) (word text : List ℕ) (test : Bool) → (b == 0x3C) ≡ test → IsBare (w ∷ word)
    → begins_with word (escaped Json text) ≡ begins_with word text
    → begins_with (w ∷ word) (escaped Json (b ∷ text)) ≡ begins_with (w ∷ word) (b ∷ text)
begins_by_test w b word text true is bare more =
    subst (λ (v : ℕ). begins_with (w ∷ word) (escaped Json (v ∷ text)) ≡ begins_with (w ∷ word) (v ∷ text)) (sym (eqb-true b 0x3C is))
    (begins_as_less w word text bare)
begins_by_test w b word text false is bare more =
    ap (begins_with (w ∷ word)) (kept_byte b text is) ∙ ap (λ (t : Bool). (b == w) && t) more

begins_same : (word text : List ℕ) → IsBare word → begins_with word (escaped Json text) ≡ begins_with word text
begins_same [] text bare = refl
begins_same (w ∷ word) [] bare = refl
begins_same (w ∷ word) (b ∷ text) bare = begins_by_test w b word text (b == 0x3C) refl bare (begins_same word text bare.3)

none_in_word : (word text : List ℕ) → IsBare word → begins_with word text ≡ true → HasNone (count word) text
none_in_word [] text bare is = none_at_zero text
none_in_word (w ∷ word) [] bare is = tt
none_in_word (w ∷ word) (b ∷ text) bare is =
    let parts = both_true (b == w) (begins_with word text) is in
    (subst (λ (v : ℕ). (v == 0x3C) ≡ false) (sym (eqb-true b w parts.0)) bare.0, none_in_word word text bare.3 parts.1)

-- a JSON text and its escape read the same
abbrev Same : ℕ → Bool → List ℕ → Type 0
Same n is_behind text =
    HasNone n text → escapes_less n is_behind text ≡ false → read_json n is_behind (escaped Json text) ≡ read_json n is_behind text

hex_is_bare : IsBare (codes "u003c")
hex_is_bare =
    (refl, refl, refl, (refl, refl, refl, (refl, refl, refl, (refl, refl, refl, (refl, refl, refl, tt)))))

step : (b : ℕ) (text : List ℕ) → ((n : ℕ) (is_behind : Bool) → Same n is_behind text) → (test : Bool)
    → begins_with (codes "\\u003c") (b ∷ text) ≡ test
    → (if test then escapes_less 5 false text else escapes_less 0 (b == 0x5C) text) ≡ false
    → (if test then 0x3C ∷ read_json 5 false (escaped Json text) else b ∷ read_json 0 (b == 0x5C) (escaped Json text))
    ≡ (if test then 0x3C ∷ read_json 5 false text else b ∷ read_json 0 (b == 0x5C) text)
step b text more true is free =
    let parts = both_true (b == 0x5C) (begins_with (codes "u003c") text) is in
    ap (λ (l : List ℕ). 0x3C ∷ l) (more 5 false (none_in_word (codes "u003c") text hex_is_bare parts.1) free)
step b text more false is free = ap (λ (l : List ℕ). b ∷ l) (more 0 (b == 0x5C) (none_at_zero text) free)

at_less : (text : List ℕ) → ((n : ℕ) (is_behind : Bool) → Same n is_behind text) → escapes_less 0 false (0x3C ∷ text) ≡ false
    → read_json 0 false (escaped Json (0x3C ∷ text)) ≡ read_json 0 false (0x3C ∷ text)
at_less text more free = ap (λ (l : List ℕ). 0x3C ∷ l) (more 0 false (none_at_zero text) free)

front : (b : ℕ) (text : List ℕ) (test : Bool) → (b == 0x3C) ≡ test → ((n : ℕ) (is_behind : Bool) → Same n is_behind text)
    → escapes_less 0 false (b ∷ text) ≡ false → read_json 0 false (escaped Json (b ∷ text)) ≡ read_json 0 false (b ∷ text)
front b text true is more free =
    subst (λ (v : ℕ). escapes_less 0 false (v ∷ text) ≡ false → read_json 0 false (escaped Json (v ∷ text)) ≡ read_json 0 false (v ∷ text))
    (sym (eqb-true b 0x3C is)) (at_less text more) free
front b text false is more free =
    ap (read_json 0 false) (kept_byte b text is)
    ∙ ap (λ (t : Bool). if (b == 0x5C) && t then 0x3C ∷ read_json 5 false (escaped Json text) else b ∷ read_json 0 (b == 0x5C) (escaped Json text))
    (begins_same (codes "u003c") text hex_is_bare)
    ∙ step b text more (begins_with (codes "\\u003c") (b ∷ text)) refl free

json_same : (text : List ℕ) (n : ℕ) (is_behind : Bool) → Same n is_behind text
json_same [] n is_behind none free = refl
json_same (b ∷ text) (suc n) is_behind none free =
    ap (read_json (suc n) is_behind) (kept_byte b text none.0) ∙ json_same text n false none.1 free
json_same (b ∷ text) zero true none free =
    let parts = both_false (b == 0x3C) (escapes_less 0 false text) free in
    ap (read_json 0 true) (kept_byte b text parts.0) ∙ ap (λ (l : List ℕ). b ∷ l) (json_same text 0 false (none_at_zero text) parts.1)
json_same (b ∷ text) zero false none free =
    front b text (b == 0x3C) refl (λ n is_behind. json_same text n is_behind) free

pub json_reads_the_same : (text : List ℕ) → escapes_less 0 false text ≡ false → read_json 0 false (escaped Json text) ≡ read_json 0 false text
json_reads_the_same text free = json_same text 0 false (none_at_zero text) free

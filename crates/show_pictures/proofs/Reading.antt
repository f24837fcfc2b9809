-- Escaped texts, read back.
use Rattle.std.proofs.Common.{◌≡◌, ◌==◌, ◌∙◌, ◌++◌, ℕ, Bool, true, false, List, [], ◌∷◌, ap, sym, refl, codes, if◌then◌else◌}
use Rattle.std.proofs.lemmas.Bool.{eqb-true}
use Rattle.show_pictures.specs.Markup.{entity_of, escaped_text, read_behind, read_text}

-- one list or another, by a test
by_test : (P : List ℕ → Type 0) (test : Bool) (xs ys : List ℕ) → (test ≡ true → P xs) → (test ≡ false → P ys) → P (if test then xs else ys)
by_test P true xs ys first second = first refl
by_test P false xs ys first second = second refl

front : (c : ℕ) (rest : List ℕ) → read_behind 0 (entity_of c ++ rest) ≡ c ∷ read_behind 0 rest
front c rest =
    let P : List ℕ → Type 0 = λ shown. read_behind 0 (shown ++ rest) ≡ c ∷ read_behind 0 rest in
    let first : (d : ℕ) → (c == d) ≡ true → d ∷ read_behind 0 rest ≡ c ∷ read_behind 0 rest =
    λ d is. ap (λ (v : ℕ). v ∷ read_behind 0 rest) (sym (eqb-true c d is)) in
    by_test P (c == 0x3C) (codes "&lt;") _ (first 0x3C) (λ less.
    by_test P (c == 0x3E) (codes "&gt;") _ (first 0x3E) (λ greater.
    by_test P (c == 0x26) (codes "&amp;") _ (first 0x26) (λ ampersand.
    by_test P (c == 0x22) (codes "&quot;") _ (first 0x22) (λ double.
    by_test P (c == 0x27) (codes "&#39;") (c ∷ []) (first 0x27) (λ single.
    rw ampersand refl)))))

pub reads_back : (text : List ℕ) → read_text (escaped_text text) ≡ text
reads_back [] = refl
reads_back (c ∷ text) = front c (escaped_text text) ∙ ap (λ (l : List ℕ). c ∷ l) (reads_back text)

pub apart : (a b : List ℕ) → escaped_text a ≡ escaped_text b → a ≡ b
apart a b same = sym (reads_back a) ∙ ap read_text same ∙ reads_back b

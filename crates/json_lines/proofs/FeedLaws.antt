-- Where line feeds are found, and what lines this makes.
use Rattle.std.proofs.Common.{◌≡◌, ◌≢◌, ◌<◌, ◌≤◌, ◌+◌, ℕ, List, [], ◌∷◌, ◌++◌, Some, None, length, take, drop, sym, ap, subst, ◌∙◌, arith, take-append-drop, eqb-true, eq-eqb, slice_index}
use Rattle.std.proofs.lemmas.List.{length-take-le, drop_more, get_or-take}
use Rattle.std.proofs.lemmas.List.Elements.{All-from_get_or}
use Rattle.memchr.specs.Find.{IsFirstByte, Nowhere, Passes, is_byte}
use Rattle.json_lines.specs.Lines.{lines_of}
use Rattle.json_lines.specs.Steps.{IsFree}
use Rattle.json_lines.proofs.LineLaws.{first_line, last_line, lines_of-nil}

abbrev pub NoFeed : List ℕ → ℕ → ℕ → Type 0
NoFeed xs i j = Nowhere (Passes (is_byte 10) xs) i j

-- ---- what is free

pub other_at : (xs : List ℕ) (i j k : ℕ) → NoFeed xs i j → i ≤ k → k < j → slice_index xs k ≢ 10
other_at xs i j k none low high is = none k low high (eq-eqb (slice_index xs k) 10 is)

pub free-before : (xs : List ℕ) (n : ℕ) → NoFeed xs 0 n → n ≤ length xs → IsFree (take n xs)
free-before xs n none within =
    All-from_get_or (λ b. b ≢ 10) (take n xs) 0 (λ i l.
    let at : i < n = grind (arith, length-take-le n xs) in
    subst (λ (b : ℕ). b ≢ 10) (sym (get_or-take n xs i 0 at)) (other_at xs 0 n i none (omega arith) at))

pub free-all : (xs : List ℕ) → NoFeed xs 0 (length xs) → IsFree xs
free-all xs none = All-from_get_or (λ b. b ≢ 10) xs 0 (λ i l. other_at xs 0 (length xs) i none (omega arith) l)

-- ---- what is cut

pub split_at : (xs : List ℕ) (k : ℕ) → k < length xs → slice_index xs k ≡ 10 → xs ≡ take k xs ++ 10 ∷ drop (k + 1) xs
split_at xs k l is = sym (take-append-drop k xs) ∙ ap (λ r. take k xs ++ r) (drop_more xs k 0 l ∙ ap (λ b. b ∷ drop (k + 1) xs) is)

pub first_at : (xs : List ℕ) (k : ℕ) → k < length xs → slice_index xs k ≡ 10 → NoFeed xs 0 k → lines_of xs ≡ take k xs ∷ lines_of (drop (k + 1) xs)
first_at xs k l is none = ap lines_of (split_at xs k l is) ∙ first_line (take k xs) (drop (k + 1) xs) (free-before xs k none (omega arith))

-- ---- what a search finds

pub first_found : (xs : List ℕ) (k : ℕ) → IsFirstByte (is_byte 10) xs (Some k) → lines_of xs ≡ take k xs ∷ lines_of (drop (k + 1) xs)
first_found xs k found = first_at xs k found.0.high (eqb-true (slice_index xs k) 10 found.1) found.0.before

pub none_found : (xs : List ℕ) → 0 < length xs → IsFirstByte (is_byte 10) xs None → lines_of xs ≡ xs ∷ lines_of []
none_found [] some none = absurd (omega arith)
none_found (b ∷ xs) some none = last_line b xs (free-all (b ∷ xs) none) ∙ ap (λ ls. (b ∷ xs) ∷ ls) (sym lines_of-nil)

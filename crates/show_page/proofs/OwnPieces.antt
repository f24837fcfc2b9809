-- A page is texts of the program, texts with no <, and a picture.
use Rattle.std.proofs.Common.{◌≡◌, ◌<◌, ◌+◌, ◌%◌, ◌/◌, ◌==◌, ◌∙◌, ◌++◌, ℕ, zero, suc, Bool, true, false, List, [], ◌∷◌, refl, sym, arith, codes, decimal, if◌then◌else◌}
use Rattle.std.specs.Fmt.{digits, digits_onto, digit_glyph}
use Rattle.std.specs.Prelude.{◌≢◌}
use Rattle.std.proofs.Math.Nat.{mod-lt}
use Rattle.std.proofs.lemmas.Bool.Decides.{nat_tests}
use Rattle.std.proofs.lemmas.List.Elements.{All-append, All-cons, All-nil}
use Rattle.show_page.specs.Pages.{BeginsNoMarkup, IsOfPieces, escaped, head, in_turn, more_words, own_piece, own_pieces, page, plain_piece, said, tail}
use Rattle.show_page.specs.declared.escaping.Within.{Within}
use Rattle.show_page.specs.declared.escaping.Within.TheVariants.{Json, Markup}
use Rattle.show_page.proofs.Escapes.{escaped_begins_no_markup, plain_text}

abbrev IsPlain : ℕ → Type 0
IsPlain b = b ≢ 0x3C

digit_is_plain : (d : ℕ) → d < 10 → IsPlain (digit_glyph false d)
digit_is_plain d small is =
    let same : digit_glyph false d ≡ 48 + d = grind (arith, nat_tests) in
    let apart : 48 + d ≡ 60 = sym same ∙ is in absurd (omega arith)

either_is : (b : Bool) (xs ys : List ℕ) → BeginsNoMarkup xs → BeginsNoMarkup ys → BeginsNoMarkup (if b then xs else ys)
either_is true xs ys first second = first
either_is false xs ys first second = second

digits_are_plain : (k n : ℕ) (after : List ℕ) → BeginsNoMarkup after → BeginsNoMarkup (digits_onto k 10 false n after)
digits_are_plain zero n after are = are
digits_are_plain (suc k) n after are =
    let more : BeginsNoMarkup (digit_glyph false (n % 10) ∷ after) =
    All-cons IsPlain (digit_glyph false (n % 10)) after (digit_is_plain (n % 10) (mod-lt n (omega arith))) are in
    either_is (n / 10 == 0) (digit_glyph false (n % 10) ∷ after) (digits_onto k 10 false (n / 10) (digit_glyph false (n % 10) ∷ after)) more
    (digits_are_plain k (n / 10) (digit_glyph false (n % 10) ∷ after) more)

number_is_plain : (n : ℕ) → BeginsNoMarkup (decimal n)
unfolding digits
number_is_plain n = digits_are_plain 64 n [] (All-nil IsPlain)

more_words_are_plain : (more : ℕ) → BeginsNoMarkup (more_words more)
more_words_are_plain more =
    either_is (more == 0) [] _ (All-nil IsPlain)
    (either_is (more == 1) (codes ": 1 more is not") _ (plain_text (codes ": 1 more is not") refl)
    (All-append IsPlain (codes ": ") (decimal more ++ codes " more are not") (plain_text (codes ": ") refl)
    (All-append IsPlain (decimal more) (codes " more are not") (number_is_plain more) (plain_text (codes " more are not") refl))))

module _ (picture : List ℕ) where
  abbrev Pieces : List ℕ → Type 0
  Pieces = IsOfPieces (picture ∷ own_pieces)

  shown : (within : Within) (text : List ℕ) → Pieces (escaped within text)
  shown within text = plain_piece (escaped within text) (escaped_begins_no_markup within text)

  head_is : Pieces head
  unfolding head
  head_is = in_turn _ _ (own_piece 1 _ refl) (in_turn _ _ (own_piece 2 _ refl) (own_piece 3 _ refl))

  tail_is : Pieces tail
  unfolding tail
  tail_is =
      in_turn _ _ (own_piece 12 _ refl) (in_turn _ _ (own_piece 13 _ refl) (in_turn _ _ (own_piece 14 _ refl)
      (in_turn _ _ (own_piece 15 _ refl) (own_piece 16 _ refl))))

  said_is : (words : List ℕ) (more : ℕ) (list : List ℕ) → Pieces (said words more list picture)
  unfolding said
  said_is words more list =
      in_turn _ _ (own_piece 8 _ refl) (in_turn _ _ (shown Markup words) (in_turn _ _ (own_piece 9 _ refl)
      (in_turn _ _ (plain_piece (more_words more) (more_words_are_plain more)) (in_turn _ _ (own_piece 10 _ refl)
      (in_turn _ _ (shown Markup list) (in_turn _ _ (own_piece 11 _ refl) (own_piece 0 picture refl)))))))

  page_is_so : (history report names lines notes part : List ℕ) → Pieces part → Pieces (page history report names lines notes part)
  unfolding page
  page_is_so history report names lines notes part part_is =
      in_turn _ _ head_is (in_turn _ _ (shown Json history) (in_turn _ _ (own_piece 4 _ refl) (in_turn _ _ (shown Json report)
      (in_turn _ _ (own_piece 5 _ refl) (in_turn _ _ (shown Json names) (in_turn _ _ (own_piece 6 _ refl) (in_turn _ _ (shown Json lines)
      (in_turn _ _ (own_piece 7 _ refl) (in_turn _ _ (shown Json notes) (in_turn _ _ part_is tail_is))))))))))

pub page_is_of_pieces : (history report names lines notes words list picture : List ℕ) (more : ℕ)
    → IsOfPieces (picture ∷ own_pieces) (page history report names lines notes (said words more list picture))
page_is_of_pieces history report names lines notes words list picture more =
    page_is_so picture history report names lines notes (said words more list picture) (said_is picture words more list)

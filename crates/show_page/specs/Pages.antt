-- The bytes of a page.
use Rattle.std.specs.Prelude.{◌≡◌, ◌≢◌, ◌++◌, ◌==◌, ◌&&◌, ◌||◌, ℕ, zero, suc, Bool, true, false, List, [], ◌∷◌, Some, codes, decimal, slice_get, if◌then◌else◌}
use Rattle.std.specs.List.{All, flat_map}
use Rattle.show_page.specs.declared.drawing.TheConstants.{DRAWING}
use Rattle.show_page.specs.declared.escaping.Within.{Within}
use Rattle.show_page.specs.declared.escaping.Within.TheVariants.{Json, Markup}
use Rattle.show_page.specs.declared.frame.TheConstants.{BEFORE_LINES, BEFORE_LIST, BEFORE_MORE, BEFORE_NAMES, BEFORE_NOTES, BEFORE_PICTURE, BEFORE_REPORT, BEFORE_SCRIPT, BEFORE_WORDS, BODY, ENDING, OPENING}
use Rattle.show_page.specs.declared.script.TheConstants.{SCRIPT}
use Rattle.show_page.specs.declared.style.TheConstants.{STYLE}
use Rattle.show_page.specs.declared.zooming.TheConstants.{ZOOMING}

-- a byte of a text in a page: of a JSON text < as its escape in a JSON string, of a text in markup < and & as their entities, and any other
-- as it is
abbrev pub shown_byte : Within → ℕ → List ℕ
shown_byte Json b = if b == 0x3C then codes "\\u003c" else b ∷ []
shown_byte Markup b = if b == 0x3C then codes "&lt;" else if b == 0x26 then codes "&amp;" else b ∷ []

-- a text in a page
abbrev pub escaped : Within → List ℕ → List ℕ
escaped within = flat_map (shown_byte within)

-- what comes before the history, and after the picture
unfoldable pub head : List ℕ
head = OPENING.now ++ (STYLE.now ++ BODY.now)

unfoldable pub tail : List ℕ
tail = BEFORE_SCRIPT.now ++ (SCRIPT.now ++ (ZOOMING.now ++ (DRAWING.now ++ ENDING.now)))

-- how many more reads there are than a list has
abbrev pub more_words : ℕ → List ℕ
more_words more =
    if more == 0 then [] else if more == 1 then codes ": 1 more is not" else codes ": " ++ (decimal more ++ codes " more are not")

-- the part that is seen where no script runs: words and a list as text, and a picture as it is
unfoldable pub said : List ℕ → ℕ → List ℕ → List ℕ → List ℕ
said words more list picture =
    BEFORE_WORDS.now ++ (escaped Markup words ++ (BEFORE_MORE.now ++ (more_words more
    ++ (BEFORE_LIST.now ++ (escaped Markup list ++ (BEFORE_PICTURE.now ++ picture))))))

-- the page of a history, a report, names, lines and notes, with a part that is seen where no script runs
unfoldable pub page : List ℕ → List ℕ → List ℕ → List ℕ → List ℕ → List ℕ → List ℕ
page history report names lines notes part =
    head ++ (escaped Json history ++ (BEFORE_REPORT.now ++ (escaped Json report ++ (BEFORE_NAMES.now ++ (escaped Json names
    ++ (BEFORE_LINES.now ++ (escaped Json lines ++ (BEFORE_NOTES.now ++ (escaped Json notes ++ (part ++ tail))))))))))

-- no byte is a <: the text ends no element of a page and begins none
abbrev pub BeginsNoMarkup : List ℕ → Type 0
BeginsNoMarkup = All (λ b. b ≢ 0x3C)

-- the text begins with the word
abbrev pub begins_with : List ℕ → List ℕ → Bool
begins_with [] text = true
begins_with (w ∷ word) [] = false
begins_with (w ∷ word) (b ∷ text) = (b == w) && begins_with word text

-- what a reader of markup makes of a text behind its first n bytes: each of the two entities is its byte, and any other byte is itself
abbrev pub read_markup : ℕ → List ℕ → List ℕ
read_markup n [] = []
read_markup (suc n) (b ∷ text) = read_markup n text
read_markup zero (b ∷ text) =
    if begins_with (codes "&lt;") (b ∷ text) then 0x3C ∷ read_markup 3 text else
    if begins_with (codes "&amp;") (b ∷ text) then 0x26 ∷ read_markup 4 text else
    b ∷ read_markup 0 text

-- a JSON text behind its first n bytes, with each escape \u003c as the < that it is. The byte behind any other backslash is itself, and so is
-- the first byte where there is one before it.
abbrev pub read_json : ℕ → Bool → List ℕ → List ℕ
read_json n is_behind [] = []
read_json (suc n) is_behind (b ∷ text) = read_json n false text
read_json zero true (b ∷ text) = b ∷ read_json 0 false text
read_json zero false (b ∷ text) =
    if begins_with (codes "\\u003c") (b ∷ text) then 0x3C ∷ read_json 5 false text else b ∷ read_json 0 (b == 0x5C) text

-- whether a < is right behind a backslash that begins an escape, read so. It is so in no JSON text.
abbrev pub escapes_less : ℕ → Bool → List ℕ → Bool
escapes_less n is_behind [] = false
escapes_less (suc n) is_behind (b ∷ text) = escapes_less n false text
escapes_less zero true (b ∷ text) = (b == 0x3C) || escapes_less 0 false text
escapes_less zero false (b ∷ text) =
    if begins_with (codes "\\u003c") (b ∷ text) then escapes_less 5 false text else escapes_less 0 (b == 0x5C) text

-- the texts of the program that a page has
abbrev pub own_pieces : List (List ℕ)
own_pieces =
    OPENING.now ∷ STYLE.now ∷ BODY.now ∷ BEFORE_REPORT.now ∷ BEFORE_NAMES.now ∷ BEFORE_LINES.now ∷ BEFORE_NOTES.now ∷ BEFORE_WORDS.now
    ∷ BEFORE_MORE.now ∷ BEFORE_LIST.now ∷ BEFORE_PICTURE.now ∷ BEFORE_SCRIPT.now ∷ SCRIPT.now ∷ ZOOMING.now ∷ DRAWING.now ∷ ENDING.now ∷ []

-- the bytes are pieces one after the other: each is listed, or has no <
pub data IsOfPieces (own : List (List ℕ)) : List ℕ → Type 0 where
  own_piece : (k : ℕ) (piece : List ℕ) → slice_get own k ≡ Some piece → IsOfPieces own piece
  plain_piece : (piece : List ℕ) → BeginsNoMarkup piece → IsOfPieces own piece
  in_turn : (first second : List ℕ) → IsOfPieces own first → IsOfPieces own second → IsOfPieces own (first ++ second)

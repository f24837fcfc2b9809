-- Texts in markup, and what a picture is: by the grammar of XML, with the names and the words of attributes that a picture has.
use Rattle.std.specs.Prelude.{◌≡◌, ◌++◌, ◌==◌, ◌||◌, ◌&&◌, ℕ, zero, suc, Bool, true, false, List, [], ◌∷◌, bytes_eq, codes, encode_utf8_all, if◌then◌else◌, IsTrue}
use Rattle.std.specs.Char.{is_ascii_digit}
use Rattle.std.specs.List.{All, flat_map, list_all, list_any}

-- a character in markup: the entity of one of < > & " ', and any other as it is. A text is a list of characters here.
abbrev pub entity_of : ℕ → List ℕ
entity_of c =
    if c == 0x3C then codes "&lt;" else
    if c == 0x3E then codes "&gt;" else
    if c == 0x26 then codes "&amp;" else
    if c == 0x22 then codes "&quot;" else
    if c == 0x27 then codes "&#39;" else
    c ∷ []

-- a text in markup
abbrev pub escaped_text : List ℕ → List ℕ
escaped_text = flat_map entity_of

-- one of < > " '
abbrev pub is_bracket_or_quote : ℕ → Bool
is_bracket_or_quote c = (c == 0x3C) || ((c == 0x3E) || ((c == 0x22) || (c == 0x27)))

-- the text begins no element, and ends no attribute
abbrev pub IsWithoutMarkup : List ℕ → Type 0
IsWithoutMarkup = All (λ c. is_bracket_or_quote c ≡ false)

-- the text begins with the word
abbrev pub begins_with : List ℕ → List ℕ → Bool
begins_with [] text = true
begins_with (w ∷ word) [] = false
begins_with (w ∷ word) (c ∷ text) = (c == w) && begins_with word text

-- what a reader of markup makes of a text behind its first n characters: each of the five entities is its character, and any other
-- character is itself
abbrev pub read_behind : ℕ → List ℕ → List ℕ
read_behind n [] = []
read_behind (suc n) (c ∷ text) = read_behind n text
read_behind zero (c ∷ text) =
    if begins_with (codes "&lt;") (c ∷ text) then 0x3C ∷ read_behind 3 text else
    if begins_with (codes "&gt;") (c ∷ text) then 0x3E ∷ read_behind 3 text else
    if begins_with (codes "&amp;") (c ∷ text) then 0x26 ∷ read_behind 4 text else
    if begins_with (codes "&quot;") (c ∷ text) then 0x22 ∷ read_behind 5 text else
    if begins_with (codes "&#39;") (c ∷ text) then 0x27 ∷ read_behind 4 text else
    c ∷ read_behind 0 text

abbrev pub read_text : List ℕ → List ℕ
read_text = read_behind 0

-- the names of the elements within a picture, and of all attributes
abbrev pub element_names : List (List ℕ)
element_names =
    codes "title" ∷ codes "defs" ∷ codes "marker" ∷ codes "g" ∷ codes "rect" ∷ codes "line" ∷ codes "path" ∷ codes "text" ∷ []

abbrev pub attribute_names : List (List ℕ)
attribute_names =
    codes "xmlns" ∷ codes "width" ∷ codes "height" ∷ codes "viewBox" ∷ codes "font-family" ∷ codes "font-size" ∷ codes "font-style"
    ∷ codes "font-weight" ∷ codes "text-anchor" ∷ codes "class" ∷ codes "id" ∷ codes "x" ∷ codes "y" ∷ codes "x1" ∷ codes "y1" ∷ codes "x2"
    ∷ codes "y2" ∷ codes "rx" ∷ codes "d" ∷ codes "fill" ∷ codes "stroke" ∷ codes "stroke-width" ∷ codes "stroke-dasharray" ∷ codes "refX"
    ∷ codes "refY" ∷ codes "markerUnits" ∷ codes "markerWidth" ∷ codes "markerHeight" ∷ codes "orient" ∷ codes "marker-end" ∷ []

-- the words that are values of attributes
abbrev pub attribute_words : List (List ℕ)
attribute_words =
    codes "http://www.w3.org/2000/svg" ∷ codes "system-ui, -apple-system, 'Segoe UI', Roboto, Arial, sans-serif"
    ∷ codes "ui-monospace, Menlo, Consolas, monospace" ∷ codes "italic" ∷ codes "middle" ∷ codes "edges" ∷ codes "legend" ∷ codes "wrong"
    ∷ codes "marked" ∷ codes "plain" ∷ codes "userSpaceOnUse" ∷ codes "auto" ∷ codes "none" ∷ codes "program-order" ∷ codes "reads-from"
    ∷ codes "conflict" ∷ codes "happened-before" ∷ codes "url(#program-order)" ∷ codes "url(#reads-from)" ∷ codes "url(#conflict)"
    ∷ codes "url(#happened-before)" ∷ codes "#ffffff" ∷ codes "#f9fafb" ∷ codes "#fff4d6" ∷ codes "#fee2e2" ∷ codes "#d1d5db"
    ∷ codes "#c98a00" ∷ codes "#b91c1c" ∷ codes "#7f1d1d" ∷ codes "#6b7280" ∷ codes "#4b5563" ∷ codes "#374151" ∷ codes "#111827"
    ∷ codes "#0072b2" ∷ codes "#b45309" ∷ codes "#8e3fa8" ∷ []

abbrev pub is_one_of : List (List ℕ) → List ℕ → Bool
is_one_of words word = list_any (bytes_eq word) words

-- a digit, a space, or a letter of a path
abbrev pub is_measure_byte : ℕ → Bool
is_measure_byte b = is_ascii_digit b || list_any (λ letter. b == letter) (codes " MLHVCZ")

-- a value of an attribute is one of the words, or numbers and a path's letters
abbrev pub is_value : List ℕ → Bool
is_value value = list_all is_measure_byte value || is_one_of attribute_words value

-- the bytes are attributes: each with a space before it, its name, and its value in quotes
pub data AreAttributes : List ℕ → Type 0 where
  no_attribute : AreAttributes []
  attribute : (name value rest : List ℕ) → IsTrue (is_one_of attribute_names name) → IsTrue (is_value value) → AreAttributes rest
      → AreAttributes (codes " " ++ (name ++ (codes "=\"" ++ (value ++ (codes "\"" ++ rest)))))

-- the bytes are the content of an element: escaped texts, and elements, each with its content, whose start and end have one name
pub data IsContent : List ℕ → Type 0 where
  no_content : IsContent []
  characters : (words rest : List ℕ) → IsContent rest → IsContent (encode_utf8_all (escaped_text words) ++ rest)
  element : (name attributes content rest : List ℕ) → IsTrue (is_one_of element_names name) → AreAttributes attributes → IsContent content
      → IsContent rest
      → IsContent (codes "<" ++ (name ++ (attributes ++ (codes ">" ++ (content ++ (codes "</" ++ (name ++ (codes ">" ++ rest))))))))
  empty_element : (name attributes rest : List ℕ) → IsTrue (is_one_of element_names name) → AreAttributes attributes → IsContent rest
      → IsContent (codes "<" ++ (name ++ (attributes ++ (codes "/>" ++ rest))))

-- the bytes are one SVG element, and the end of its line
pub record IsSvgElement (bytes : List ℕ) : Type 0 where
  pub attributes : List ℕ
  pub content : List ℕ
  pub are_attributes : AreAttributes attributes
  pub is_content : IsContent content
  pub is : bytes ≡ codes "<svg" ++ (attributes ++ (codes ">" ++ (content ++ codes "</svg>\n")))

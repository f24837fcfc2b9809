-- What is written of the notes of a log. The log of a text has none, so no clause says which notes these are.
use Rattle.std.specs.Prelude.{◌≡◌, ℕ, List, [], ◌∷◌, ◌++◌, codes, decimal}
use Rattle.std.specs.List.{All, flat_map}
use Rattle.log_reader.specs.Shown.{IsShown}

-- a note: the number of its line, and its JSON text
pub record Noted : Type 0 where
  pub line : ℕ
  pub text : List ℕ

-- [line,note]
abbrev pub noted_text : Noted → List ℕ
noted_text noted = codes "[" ++ (decimal noted.line ++ (codes "," ++ (noted.text ++ codes "]")))

-- one after the other, with a comma before each but the first
abbrev pub noted_texts : List Noted → List ℕ
noted_texts [] = []
noted_texts (first ∷ others) = noted_text first ++ flat_map (λ noted. codes "," ++ noted_text noted) others

-- the text of the note disturbs no terminal
abbrev pub IsShownNote : Noted → Type 0
IsShownNote noted = IsShown noted.text

-- the text is a list of notes, on one line
pub record AreNotes (text : List ℕ) : Type 0 where
  pub notes : List Noted
  pub shown : All IsShownNote notes
  pub is_text : text ≡ codes "[" ++ (noted_texts notes ++ codes "]\n")

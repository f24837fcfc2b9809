-- The text of notes while it is written.
use Rattle.std.specs.Prelude.{◌≡◌, List, ℕ, ◌++◌, codes}
use Rattle.std.specs.List.{All}
use Rattle.app_logs.specs.Notes.{IsShownNote, Noted, noted_text, noted_texts}

-- the text begins a list of notes
pub record BeginsNotes (text : List ℕ) : Type 0 where
  pub notes : List Noted
  pub shown : All IsShownNote notes
  pub is_text : text ≡ codes "[" ++ noted_texts notes

abbrev pub StaysNotes : List ℕ → List ℕ → Type 0
StaysNotes old new = BeginsNotes old → BeginsNotes new

-- the text is that of a note
abbrev pub IsNote : List ℕ → Type 0
IsNote text = (noted : Noted) × IsShownNote noted × (text ≡ noted_text noted)

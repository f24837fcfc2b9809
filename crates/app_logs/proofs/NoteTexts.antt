-- Lists of notes, as they are written.
use Rattle.std.proofs.Common.{◌≡◌, ◌<◌, ◌≤◌, ℕ, List, [], ◌∷◌, ◌++◌, length, codes, decimal, sym, ap, ◌∙◌, append_assoc, append-nil, arith}
use Rattle.std.specs.List.{All, flat_map}
use Rattle.std.proofs.lemmas.Grind.{flat_map-append}
use Rattle.std.proofs.lemmas.List.Elements.{All-append, All-cons, All-nil}
use Rattle.log_reader.specs.Shown.{IsShown}
use Rattle.app_logs.specs.Notes.{AreNotes, IsShownNote, Noted, noted_text, noted_texts}
use Rattle.app_logs.specs.Steps.NotesSoFar.{BeginsNotes, IsNote, StaysNotes}

-- no note yet
pub no_notes : (text : List ℕ) → text ≡ codes "[" → BeginsNotes text
no_notes text is = record { notes = []; shown = All-nil IsShownNote; is_text = is }

-- the list ends
pub notes_end : (old new : List ℕ) → BeginsNotes old → new ≡ old ++ codes "]\n" → AreNotes new
notes_end old new begins is = record {
  notes = begins.notes;
  shown = begins.shown;
  is_text = is ∙ ap (λ (l : List ℕ). l ++ codes "]\n") begins.is_text;
}

abbrev with-comma : Noted → List ℕ
with-comma noted = codes "," ++ noted_text noted

one-more : (first : Noted) (others : List Noted) (last : Noted)
    → noted_texts ((first ∷ others) ++ last ∷ []) ≡ noted_texts (first ∷ others) ++ with-comma last
one-more first others last =
    ap (λ (l : List ℕ). noted_text first ++ l)
    (flat_map-append with-comma others (last ∷ []) ∙ ap (λ (l : List ℕ). flat_map with-comma others ++ l) (append-nil (with-comma last)))
    ∙ sym (append_assoc (noted_text first) (flat_map with-comma others) (with-comma last))

all-shown : (notes : List Noted) (last : Noted) → All IsShownNote notes → IsShownNote last → All IsShownNote (notes ++ last ∷ [])
all-shown notes last shown is = All-append IsShownNote notes (last ∷ []) shown (All-cons IsShownNote last [] is (All-nil IsShownNote))

-- the first note of a list, which begins by one byte
first-text : (old new : List ℕ) (notes : List Noted) (last : Noted) → old ≡ codes "[" ++ noted_texts notes → length old ≤ 1
    → new ≡ old ++ noted_text last → new ≡ codes "[" ++ noted_texts (notes ++ last ∷ [])
first-text old new [] last begins short is =
    is ∙ ap (λ (l : List ℕ). l ++ noted_text last) begins ∙ ap (λ (l : List ℕ). codes "[" ++ l) (sym (append-nil (noted_text last)))
first-text old new (first ∷ others) last begins short is =
    let long : length old ≡ length (codes "[" ++ noted_texts (first ∷ others)) = ap length begins in absurd (omega arith)

pub first_note : (old new text : List ℕ) → length old ≤ 1 → IsNote text → new ≡ old ++ text → StaysNotes old new
first_note old new text short note is = λ begins. record {
  notes = begins.notes ++ note.0 ∷ [];
  shown = all-shown begins.notes note.0 begins.shown note.1;
  is_text = first-text old new begins.notes note.0 begins.is_text short (is ∙ ap (λ (l : List ℕ). old ++ l) note.2);
}

-- and each further one
more-text : (old new : List ℕ) (notes : List Noted) (last : Noted) → old ≡ codes "[" ++ noted_texts notes → 1 < length old
    → new ≡ (old ++ codes ",") ++ noted_text last → new ≡ codes "[" ++ noted_texts (notes ++ last ∷ [])
more-text old new [] last begins long is =
    let short : length old ≡ 1 = ap length begins in absurd (omega arith)
more-text old new (first ∷ others) last begins long is =
    is ∙ append_assoc old (codes ",") (noted_text last) ∙ ap (λ (l : List ℕ). l ++ with-comma last) begins
    ∙ ap (λ (l : List ℕ). codes "[" ++ l) (sym (one-more first others last))

pub more_note : (old new text : List ℕ) → 1 < length old → IsNote text → new ≡ (old ++ codes ",") ++ text → StaysNotes old new
more_note old new text long note is = λ begins. record {
  notes = begins.notes ++ note.0 ∷ [];
  shown = all-shown begins.notes note.0 begins.shown note.1;
  is_text = more-text old new begins.notes note.0 begins.is_text long (is ∙ ap (λ (l : List ℕ). (old ++ codes ",") ++ l) note.2);
}

pub noted : (line : ℕ) (note text : List ℕ) → IsShown note → text ≡ codes "[" ++ (decimal line ++ (codes "," ++ (note ++ codes "]"))) → IsNote text
noted line note text shown is = (record { line = line; text = note }, shown, is)

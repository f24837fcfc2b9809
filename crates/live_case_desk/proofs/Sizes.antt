-- How many rows the sessions of a case have, and how many of them are open.
use Rattle.std.proofs.Common.{◌≡◌, ℕ, ◌<◌, ◌≤◌, List, [], length, set, get_or, arith, sym, ap, subst, refl, ◌∙◌, inl, inr}
use Rattle.std.specs.Prelude.{map, sum, Some, None, is_none}
use Rattle.std.specs.List.{sum_by}
use Rattle.std.proofs.lemmas.Bool.{cases_lt}
use Rattle.std.proofs.lemmas.List.{map-set, set-get_or, get_or-map, get_or_past, length-map}
use Rattle.std.proofs.lemmas.List.Sums.{sum-map, sum_by-le-sum_by, count_by-le-length}
use Rattle.model_history.specs.declared.op_id.OpId.{OpId}
use Rattle.cert_check.specs.Certificates.{CaseRecord}
use Rattle.live_case_board.specs.Boards.{CaseState, SessionRows, no_rows, session_of, open_of, open_rows}
use Rattle.live_case_board.specs.Events.{IsRow}
use Rattle.live_case_board.specs.CaseFiles.{HasPiece}
use Rattle.live_case_desk.specs.Files.{FileAt, sizes, file_sizes}
use Rattle.live_case_desk.specs.Answers.{operations_of}

abbrev row_count : SessionRows → ℕ
row_count t = length t.rows

-- other rows of the same number change no size
pub sizes-set : (ts : List SessionRows) (n : ℕ) (t : SessionRows) → length t.rows ≡ length (get_or ts n no_rows).rows → sizes (set ts n t) ≡ sizes ts
sizes-set ts n t same =
    map-set row_count ts n t
    ∙ (ap (λ (k : ℕ). set (sizes ts) n k) same ∙ (sym (map-set row_count ts n (get_or ts n no_rows)) ∙ ap sizes (set-get_or ts n no_rows)))

-- what is counted of an element stands in the list of counts, and past its end nothing
pub counted_at : {X : Type 0} (f : X → ℕ) (d : X) → f d ≡ 0 → (xs : List X) (n : ℕ) → f (get_or xs n d) ≡ get_or (map f xs) n 0
counted_at f d none xs n =
    elim (cases_lt n (length xs)) [
      | inl below ↦ sym (get_or-map f xs n d 0 below)
      | inr above ↦
          ap f (get_or_past xs n d above)
          ∙ (none ∙ sym (get_or_past (map f xs) n 0 (subst (λ (k : ℕ). k ≤ n) (sym (length-map xs f)) above)))
    ]

module _ {S C R : Type 0} where
  piece-of_size : (file : CaseRecord S C R) (o : OpId) → o.index < get_or (file_sizes file) o.session 0 → HasPiece file o
  piece-of_size (h, criterion, None) o below =
      let past : o.index < 0 = subst (λ (k : ℕ). o.index < k) (get_or_past [] o.session 0 (omega arith)) below in
      absurd (omega arith)
  piece-of_size (h, criterion, Some c) o below =
      (refl, subst (λ (k : ℕ). o.index < k) (sym (counted_at length [] refl h.1 o.session)) below)

  size-of_piece : (file : CaseRecord S C R) (o : OpId) → HasPiece file o → o.index < get_or (file_sizes file) o.session 0
  size-of_piece (h, criterion, None) o piece = absurd cc
  size-of_piece (h, criterion, Some c) o piece = subst (λ (k : ℕ). o.index < k) (counted_at length [] refl h.1 o.session) piece.1

  module _ (s : CaseState (FileAt S C R)) (rows : sizes s.sessions ≡ file_sizes s.mark.file) where
    -- a case has a row for each piece of its file, and no other
    row_size : (o : OpId) → length (session_of s o.session).rows ≡ get_or (file_sizes s.mark.file) o.session 0
    row_size o = counted_at row_count no_rows refl s.sessions o.session ∙ ap (λ (k : List ℕ). get_or k o.session 0) rows

    pub row-has_piece : (o : OpId) → IsRow s o → HasPiece s.mark.file o
    row-has_piece o row = piece-of_size s.mark.file o (subst (λ (k : ℕ). o.index < k) (row_size o) row)

    pub piece-has_row : (o : OpId) → HasPiece s.mark.file o → IsRow s o
    piece-has_row o piece = subst (λ (k : ℕ). o.index < k) (sym (row_size o)) (size-of_piece s.mark.file o piece)

  sum-of_sizes : (file : CaseRecord S C R) → sum (file_sizes file) ≤ operations_of file.0
  sum-of_sizes (h, criterion, None) = omega arith
  sum-of_sizes (h, criterion, Some c) = let same : sum (map length h.1) ≡ sum_by length h.1 = sum-map length h.1 in omega arith

  -- no more rows are open than the history has operations
  pub open-within : (s : CaseState (FileAt S C R)) → sizes s.sessions ≡ file_sizes s.mark.file → open_rows s ≤ operations_of s.mark.file.0
  open-within s rows =
      let all : open_rows s ≤ sum_by row_count s.sessions = sum_by-le-sum_by open_of row_count s.sessions (λ (t : SessionRows). count_by-le-length is_none t.rows) in
      let same : sum (sizes s.sessions) ≡ sum_by row_count s.sessions = sum-map row_count s.sessions in
      let same' : sum (sizes s.sessions) ≡ sum (file_sizes s.mark.file) = ap sum rows in
      let within : sum (file_sizes s.mark.file) ≤ operations_of s.mark.file.0 = sum-of_sizes s.mark.file in
      omega arith

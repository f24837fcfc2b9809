-- The case files of a desk, and what its board keeps true of them. (This project's profile.)
use Rattle.std.specs.Prelude.{◌≡◌, ℕ, List, [], map, length, Some, None, is_some, slice_get}
use Rattle.model_history.specs.declared.op_id.OpId.{OpId}
use Rattle.model_history.specs.History.{HistoryValue}
use Rattle.cert_check.specs.declared.criterion.Criterion.{Criterion}
use Rattle.cert_check.specs.declared.checking.Outcome.{Outcome}
use Rattle.cert_check.specs.Certificates.{CaseRecord}
use Rattle.pattern_check.specs.declared.pattern.Pattern.{Pattern}
use Rattle.live_case_board.specs.Boards.{CaseState, SessionRows, row_of}
use Rattle.live_case_board.specs.CaseFiles.{IsOutcome}

-- a case file, and its place on the shelf
pub record FileAt (S C R : Type 0) : Type 0 where
  pub place : ℕ
  pub file : CaseRecord S C R

-- a case of a desk: its number, and its file with the place
pub record CaseOf (S C R : Type 0) : Type 0 where
  pub number : ℕ
  pub place : ℕ
  pub file : CaseRecord S C R

-- a verdict: the case, one of its operations, and what the check of its piece came to
pub record VerdictOf (S C R : Type 0) : Type 0 where
  pub case_of : CaseOf S C R
  pub op : OpId
  pub outcome : Outcome

-- how many rows each session has
abbrev pub sizes : List SessionRows → List ℕ
sizes sessions = map (λ (t : SessionRows). length t.rows) sessions

module _ {S C R : Type 0} where
  abbrev pub place_of : FileAt S C R → ℕ
  place_of f = f.place

  abbrev pub file_at : CaseOf S C R → FileAt S C R
  file_at c = record { place = c.place; file = c.file }

  -- one case: the number and the place of the file are the same
  abbrev pub IsSameCase : CaseOf S C R → CaseOf S C R → Type 0
  IsSameCase a b = (a.number ≡ b.number) × (a.place ≡ b.place)

  -- how many rows each session of a case has: one for each operation, and no sessions without a certificate
  abbrev pub file_sizes : CaseRecord S C R → List ℕ
  file_sizes (h, criterion, None) = []
  file_sizes (h, criterion, Some certificate) = map length h.1

  -- a pattern that was accepted passes its test for the history and the criterion of a file
  abbrev pub PassesFor : (HistoryValue S C R → Criterion → Pattern → Type 0) → CaseRecord S C R → Pattern → Type 0
  PassesFor passes file p = passes file.0 file.1 p

module _ {S C R : Type 0} (answer : S → List C → C → R) (passes : HistoryValue S C R → Criterion → Pattern → Type 0) where
  -- what a board says of a case is true of the case's file: it has one row for each operation where there is a
  -- certificate, each verdict is what the check of the piece comes to, and the pattern passes its test
  pub record IsTrueCase (s : CaseState (FileAt S C R)) : Type 0 where
    pub certificate : s.has_certificate ≡ is_some s.mark.file.2
    pub rows : sizes s.sessions ≡ file_sizes s.mark.file
    pub outcomes : (o : OpId) (outcome : Outcome) → row_of s o ≡ Some (Some outcome) → IsOutcome answer s.mark.file o outcome
    pub pattern : (p : Pattern) → s.pattern ≡ Some p → PassesFor passes s.mark.file p

  abbrev pub AreTrueCases : List (CaseState (FileAt S C R)) → Type 0
  AreTrueCases cases = (number : ℕ) (s : CaseState (FileAt S C R)) → slice_get cases number ≡ Some s → IsTrueCase s

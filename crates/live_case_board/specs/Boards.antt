-- What a board knows of its cases, and what becomes of a case. (This project's profile.)
use Rattle.std.specs.Prelude.{◌≡◌, ℕ, ◌+◌, ◌<◌, Bool, List, [], length, replicate, Option, Some, None, is_none, slice_get, slice_index_or, slice_set}
use Rattle.std.specs.List.{count_by, sum_by}
use Rattle.model_history.specs.declared.op_id.OpId.{OpId}
use Rattle.model_history.specs.History.{HistoryValue, session}
use Rattle.cert_check.specs.declared.checking.Outcome.{Outcome}
use Rattle.pattern_check.specs.declared.pattern.Pattern.{Pattern}

-- a row: the outcome of its operation's piece, or none as long as no verdict came
abbrev pub Row : Type 0
Row = Option Outcome

-- the rows of a session's operations, and the row before which none is handed out any more
pub record SessionRows : Type 0 where
  pub rows : List Row
  pub next : ℕ

abbrev pub no_rows : SessionRows
no_rows = record { rows = []; next = 0 }

-- so many rows without a verdict, of which none was handed out
abbrev pub fresh_rows : ℕ → SessionRows
fresh_rows n = record { rows = replicate n None; next = 0 }

-- one row for each operation of a history, none with a verdict and none handed out
pub record AreRowsOf {S C R : Type 0} (h : HistoryValue S C R) (sessions : List SessionRows) : Type 0 where
  pub many : length sessions ≡ length h.1
  pub each : (s : ℕ) → s < length h.1 → slice_get sessions s ≡ Some (fresh_rows (length (session h s)))

-- after a row was handed out, and after a verdict on a row
abbrev pub after_row : SessionRows → ℕ → SessionRows
after_row t i = record { rows = t.rows; next = i + 1 }

abbrev pub filled : SessionRows → ℕ → Outcome → SessionRows
filled t i outcome = record { rows = slice_set t.rows i (Some outcome); next = t.next }

-- how many rows of a session have no verdict
abbrev pub open_of : SessionRows → ℕ
open_of t = count_by is_none t.rows

-- the first of two patterns
abbrev pub first_pattern : Option Pattern → Pattern → Pattern
first_pattern None p = p
first_pattern (Some earlier) p = earlier

-- a case: its mark, whether it has a certificate, for each session of a certificate's history the rows of its operations,
-- and the pattern that refutes it
pub record CaseState (M : Type 0) : Type 0 where
  pub mark : M
  pub has_certificate : Bool
  pub sessions : List SessionRows
  pub pattern : Option Pattern

module _ {M : Type 0} where
  -- the rows of a session
  abbrev pub session_of : CaseState M → ℕ → SessionRows
  session_of s n = slice_index_or s.sessions n no_rows

  -- the row of an operation, where there is one
  abbrev pub row_of : CaseState M → OpId → Option Row
  row_of s o = slice_get (session_of s o.session).rows o.index

  -- a case that was just filed
  abbrev pub fresh_case : M → Bool × List SessionRows → CaseState M
  fresh_case mark rows = record { mark = mark; has_certificate = rows.0; sessions = rows.1; pattern = None }

  -- after other rows came in the place of a session's
  abbrev pub with_session : CaseState M → ℕ → SessionRows → CaseState M
  with_session s n t = record { mark = s.mark; has_certificate = s.has_certificate; sessions = slice_set s.sessions n t; pattern = s.pattern }

  -- after an operation was handed out
  abbrev pub handed_out : CaseState M → OpId → CaseState M
  handed_out s o = with_session s o.session (after_row (session_of s o.session) o.index)

  -- after a verdict on an operation
  abbrev pub with_verdict : CaseState M → OpId → Outcome → CaseState M
  with_verdict s o outcome = with_session s o.session (filled (session_of s o.session) o.index outcome)

  -- after a pattern was accepted: the first one stays
  abbrev pub refuted : CaseState M → Pattern → CaseState M
  refuted s p = record { mark = s.mark; has_certificate = s.has_certificate; sessions = s.sessions; pattern = Some (first_pattern s.pattern p) }

  -- how many rows have no verdict
  abbrev pub open_rows : CaseState M → ℕ
  open_rows s = sum_by open_of s.sessions

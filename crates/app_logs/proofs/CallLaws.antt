-- By which calls the reading of a log goes on, ends and fails, and by which the lines on its cuts are written.
use Rattle.std.proofs.Common.{◌≡◌, ◌⊎◌, ◌<◌, ◌*◌, ℕ, zero, suc, Result, Ok, Err, sym, subst, inl, inr, arith, ⊎_elim}
use Rattle.std.specs.Prelude.{◌≢◌}
use Rattle.json_lines.specs.ReadCalls.{CallOutcome, EndsBy, FindsNoEnd, GoOnForLines, IsEnd}
use Rattle.json_lines.specs.WriteCalls.{IsPassedOn, PassesOn, SinkCall}
use Rattle.json_lines.specs.declared.outcome.Outcome.{Outcome}
use Rattle.json_lines.specs.declared.read_call.TheConstants.{MAX_READ_CALLS}
use Rattle.json_lines.proofs.ReadCallLaws.{go_on_none}
use Rattle.json_lines.proofs.WriteCallLaws.{none_failed, write_join}
use Rattle.log_reader.specs.LogCalls.{NoneFailed, ReadsLogBy}
use Rattle.log_reader.specs.declared.log_fault.LogFault.{LogFault}
use Rattle.log_reader.specs.declared.log_fault.LogFault.TheVariants as faults
use Rattle.log_reader.specs.declared.progress.Progress.{Progress}
use Rattle.log_reader.specs.declared.progress.Progress.TheVariants.{More, End}
use Rattle.log_reader.proofs.LogCallLaws.{lines_none}
use Rattle.app_logs.specs.Failure.{error_of}
use Rattle.app_logs.specs.ReadCalls.{EndsInSomeLine, FailsBy, FailsWholeBy, FindsLogEnd, FindsNoLogEnd, NoneFails, ReadsWholeBy, WatchesBy}
use Rattle.app_logs.specs.Steps.TurnCalls.{GoesOnForLines, PassesCuts, PassesLast, ReadsRestBy, TurnsBy}
use Rattle.app_logs.specs.Steps.Watching.{GoesOnBy}
use Rattle.app_logs.specs.declared.failure.LogError.{LogError}
use Rattle.app_logs.specs.declared.failure.LogError.TheVariants.{Refused, Memory, ReadFault, WriteFault}
use Rattle.app_logs.specs.declared.following.Followed.{Followed}
use Rattle.app_logs.specs.declared.following.Rest.{Rest}
use Rattle.app_logs.specs.declared.following.Rest.TheVariants.{Unread, Read}
use Rattle.app_logs.specs.declared.turn.Turn.{Turn}
use Rattle.app_logs.specs.declared.turn.Turn.TheVariants.{On, Stopped, Ended}
use Rattle.app_logs.proofs.CutLines.{count-above}

-- no fault of a reader is one of a writer
pub no_write_fault : (fault : LogFault) → error_of fault ≢ WriteFault
no_write_fault (faults.Refused refusal) is = absurd cc
no_write_fault faults.Memory is = absurd cc
no_write_fault faults.Read is = absurd cc

module _ {S : Type 0} (called : S → CallOutcome → S → Type 0) where
  -- ---- lines, one after the other

  lines_join : (n m : ℕ) (a b c : S) → GoOnForLines called MAX_READ_CALLS n a b → GoOnForLines called MAX_READ_CALLS m b c
      → (k : ℕ) × GoOnForLines called MAX_READ_CALLS k a c
  unfolding GoOnForLines
  lines_join n zero a b c first then = (n, subst (λ (s : S). GoOnForLines called MAX_READ_CALLS n a s) then first)
  lines_join n (suc m) a b c first (between, then, on) =
      let (k, joined) = lines_join n m a b between first then in
      (suc k, (between, joined, on))

  pub no_line : (s : S) → GoesOnForLines called s s
  no_line s = (0, lines_none called s)

  pub more_lines : (a b c : S) → GoesOnForLines called a b → GoesOnForLines called b c → GoesOnForLines called a c
  more_lines a b c (n, first) (m, then) = lines_join n m a b c first then

  ends_then : (Last : S → S → Type 0) (a b c : S) → GoesOnForLines called a b → EndsInSomeLine called Last b c → EndsInSomeLine called Last a c
  ends_then Last a b c (n, first) (m, (between, then, last)) =
      let (k, joined) = lines_join n m a b between first then in
      (k, (between, joined, last))

  none_then : (a b c : S) → GoesOnForLines called a b → NoneFails called b c → NoneFails called a c
  none_then a b c on by = ends_then (NoneFailed called) a b c on by

  end_then : (a b c : S) → GoesOnForLines called a b → FindsLogEnd called b c → FindsLogEnd called a c
  end_then a b c on by = ends_then (EndsBy called MAX_READ_CALLS IsEnd) a b c on by

  no_end_then : (a b c : S) → GoesOnForLines called a b → FindsNoLogEnd called b c → FindsNoLogEnd called a c
  no_end_then a b c on by = ends_then (FindsNoEnd called MAX_READ_CALLS) a b c on by

  no_call : (s : S) → NoneFailed called s s
  no_call s = inl (0, omega arith, go_on_none called s)

  -- ---- no call failed

  pub none_made : (s : S) → NoneFails called s s
  none_made s = (0, (s, lines_none called s, no_call s))

  pub lines_on : (a b : S) → GoesOnForLines called a b → NoneFails called a b
  lines_on a b (n, on) = (n, (b, on, no_call b))

  end_found : (a b : S) → FindsLogEnd called a b → NoneFails called a b
  end_found a b (n, (between, on, end)) = (n, (between, on, inr end))

  -- ---- a log that is read to its end

  pub whole_fault : {X : Type 0} (r : Result X LogError) (error : LogError) (n : ℕ) (fault : LogFault) (a b : S) → r ≡ Err error → error ≡ error_of fault
      → ReadsLogBy called n (Err fault) a b → ReadsWholeBy called r a b
  whole_fault r error n (faults.Refused refusal) a b is same by = rw (is, same) (n, by)
  whole_fault r error n faults.Memory a b is same by = rw (is, same) (n, by)
  whole_fault r error n faults.Read a b is same by = rw (is, same) (n, by)

  pub whole_error : {X : Type 0} (r : Result X LogError) (error inner : LogError) (a b : S) → r ≡ Err error → error ≡ inner
      → FailsWholeBy called inner a b → ReadsWholeBy called r a b
  whole_error r error inner a b is same by = rw (is, same) by

  -- where memory ran out before it was read, while it was, or for its answer
  pub whole_memory : {X : Type 0} (r : Result X LogError) (error : LogError) (a b : S) → r ≡ Err error → error ≡ Memory → NoneFails called a b
      → ReadsWholeBy called r a b
  whole_memory r error a b is same by = rw (is, same) by

  pub whole_end : {X : Type 0} (r : Result X LogError) (error : LogError) (a b : S) → r ≡ Err error → error ≡ Memory → FindsLogEnd called a b
      → ReadsWholeBy called r a b
  whole_end r error a b is same end = whole_memory r error a b is same (end_found a b end)

  -- ---- a turn of judging a log while it is read

  pub turn_fault : (r : Result Turn LogError) (error : LogError) (n : ℕ) (fault : LogFault) (a b : S) → r ≡ Err error → error ≡ error_of fault
      → ReadsLogBy called n (Err fault) a b → TurnsBy called r a b
  turn_fault r error n (faults.Refused refusal) a b is same by = rw (is, same) (n, by)
  turn_fault r error n faults.Memory a b is same by = rw (is, same) (n, by)
  turn_fault r error n faults.Read a b is same by = rw (is, same) (n, by)

  -- an error of writing, or want of memory
  unread_fails : (error : LogError) (a b : S) → (error ≡ Memory) ⊎ (error ≡ WriteFault) → NoneFails called a b → FailsBy called error a b
  unread_fails (Refused refusal) a b is by = by
  unread_fails Memory a b is by = by
  unread_fails ReadFault a b is by = ⊎_elim (λ (e : ReadFault ≡ Memory). absurd cc) (λ (e : ReadFault ≡ WriteFault). absurd cc) is
  unread_fails WriteFault a b is by = by

  turn_error : (r : Result Turn LogError) (error inner : LogError) (a b : S) → r ≡ Err error → error ≡ inner
      → (inner ≡ Memory) ⊎ (inner ≡ WriteFault) → NoneFails called a b → TurnsBy called r a b
  turn_error r error inner a b is same what by = rw (is, same) (unread_fails inner a b what by)

  pub turn_unread : (r : Result Turn LogError) (error inner : LogError) (s : S) → r ≡ Err error → error ≡ inner → inner ≡ Memory → TurnsBy called r s s
  turn_unread r error inner s is same memory = turn_error r error inner s s is same (inl memory) (none_made s)

  pub turn_unwritten : (r : Result Turn LogError) (error inner : LogError) (n : ℕ) (progress : Progress) (a b : S) → r ≡ Err error → error ≡ inner
      → (inner ≡ Memory) ⊎ (inner ≡ WriteFault) → ReadsLogBy called n (Ok progress) a b → TurnsBy called r a b
  turn_unwritten r error inner n More a b is same what by = turn_error r error inner a b is same what (lines_on a b (n, by))
  turn_unwritten r error inner n (End torn) a b is same what by = turn_error r error inner a b is same what (end_found a b (n, by))

  pub turn_more : (outcome : Outcome) (turn : Turn) (n : ℕ) (a b : S) → GoesOnBy outcome turn → ReadsLogBy called n (Ok More) a b
      → TurnsBy called (Ok turn) a b
  turn_more outcome On n a b goes by = (n, by)
  turn_more outcome (Stopped followed) n a b goes by = (n, by)
  turn_more outcome (Ended followed) n a b goes by = absurd goes

  -- ---- turn after turn

  fails_then : (error : LogError) (a b c : S) → GoesOnForLines called a b → FailsBy called error b c → FailsBy called error a c
  fails_then (Refused refusal) a b c on by = none_then a b c on by
  fails_then Memory a b c on by = none_then a b c on by
  fails_then ReadFault a b c on by = no_end_then a b c on by
  fails_then WriteFault a b c on by = none_then a b c on by

  watch_error : (rest : Rest) (r : Result Followed LogError) (error inner : LogError) (a b : S) → r ≡ Err error → error ≡ inner
      → FailsBy called inner a b → WatchesBy called rest r a b
  watch_error Unread r error inner a b is same by = rw (is, same) by
  watch_error Read r error inner a b is same by = rw (is, same) by

  pub watch_fails : (rest : Rest) (r : Result Followed LogError) (error inner : LogError) (a b c : S) → r ≡ Err error → error ≡ inner
      → GoesOnForLines called a b → FailsBy called inner b c → WatchesBy called rest r a c
  watch_fails rest r error inner a b c is same on by = watch_error rest r error inner a c is same (fails_then inner a b c on by)

  pub watch_memory : (rest : Rest) (r : Result Followed LogError) (error : LogError) (a b : S) → r ≡ Err error → error ≡ Memory
      → GoesOnForLines called a b → WatchesBy called rest r a b
  watch_memory rest r error a b is same on = watch_error rest r error Memory a b is same (lines_on a b on)

  pub watch_ends : (rest : Rest) (followed : Followed) (a b c : S) → GoesOnForLines called a b → FindsLogEnd called b c
      → WatchesBy called rest (Ok followed) a c
  watch_ends Unread followed a b c on end = end_found a c (end_then a b c on end)
  watch_ends Read followed a b c on end = inl (end_found a c (end_then a b c on end))

  -- the rest is read, or not
  rest_read : (n : ℕ) (r : Result Progress LogFault) (a b : S) → ReadsLogBy called n r a b → NoneFails called a b ⊎ FindsNoLogEnd called a b
  rest_read n (Ok More) a b by = inl (lines_on a b (n, by))
  rest_read n (Ok (End torn)) a b by = inl (end_found a b (n, by))
  rest_read n (Err (faults.Refused refusal)) a b by = inl (n, by)
  rest_read n (Err faults.Memory) a b by = inl (n, by)
  rest_read n (Err faults.Read) a b by = inr (n, by)

  pub watch_stops : (rest : Rest) (followed : Followed) (a b c d : S) → GoesOnForLines called a b → GoesOnForLines called b c
      → ReadsRestBy called rest c d → WatchesBy called rest (Ok followed) a d
  watch_stops Unread followed a b c d first then same =
      lines_on a d (subst (λ (s : S). GoesOnForLines called a s) same (more_lines a b c first then))
  watch_stops Read followed a b c d first then (n, r, by) =
      let on : GoesOnForLines called a c = more_lines a b c first then in
      ⊎_elim (λ (none : NoneFails called c d). inl (none_then a c d on none)) (λ (fails : FindsNoLogEnd called c d). inr (no_end_then a c d on fails))
      (rest_read n r c d by)

  -- what is known of a late write is no part of how a log was read
  pub watch_same : (rest : Rest) (followed with : Followed) (a b : S) → WatchesBy called rest (Ok followed) a b → WatchesBy called rest (Ok with) a b
  watch_same Unread followed with a b by = by
  watch_same Read followed with a b by = by

module _ {S : Type 0} (called : S → SinkCall → S → Type 0) where
  -- ---- the lines on cuts, one after the other

  pub passed_so_far : (count : ℕ) (a b : S) → PassesCuts called count a b → IsPassedOn called a b
  passed_so_far zero a b same = inl same
  passed_so_far (suc count) a b passes = inr passes

  pub passed_kept : (count : ℕ) (a b c : S) → c ≡ b → PassesCuts called count a b → IsPassedOn called a c
  passed_kept count a b c same passes = subst (λ (s : S). IsPassedOn called a s) (sym same) (passed_so_far count a b passes)

  passes_then : (a b c : S) → IsPassedOn called a b → PassesOn called b c → PassesOn called a c
  passes_then a b c first (m, between, call, before, last, made) =
      let (n, on) = none_failed called a b first in
      let (k, many, joined) = write_join called n m a b between on before in
      (k, between, call, joined, last, made)

  passes_some : (count : ℕ) (a b : S) → 0 < count → PassesCuts called count a b → PassesOn called a b
  passes_some zero a b some passes = absurd (omega arith)
  passes_some (suc count) a b some passes = passes

  pub passes_turn : (every count judged : ℕ) (a b c : S) → judged ≡ every * count → PassesCuts called count a b → PassesLast called judged b c
      → PassesOn called a c
  passes_turn every count judged a b c is first (inl passes) = passes_then a b c (passed_so_far count a b first) passes
  passes_turn every count judged a b c is first (inr (some, same)) =
      subst (λ (s : S). PassesOn called a s) same (passes_some count a b (count-above every count (omega (arith, is, some))) first)

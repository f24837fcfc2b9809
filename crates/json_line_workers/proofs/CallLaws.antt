-- By which calls reading and writing go on, end and fail.
use Rattle.std.proofs.Common.{◌≡◌, ◌≢◌, ◌≤◌, ◌<◌, ◌+◌, ℕ, Bool, true, false, List, Option, None, Some, Result, Ok, Err, IfSome, IfOk, IfErr, OnOk, is_some, ok_or, true≢false, refl, sym, ap, subst, ◌∙◌, arith, inl, inr, ⊎_elim}
use Rattle.json_lines.specs.ReadCalls.{CallOutcome, CallsOnce, CallsOnceAtMost, EndsBy, FindsNoEnd, GoOn, GoOnAtMost, GoesOn, IsEnd, IsFurther, ReadsOn}
use Rattle.json_lines.specs.WriteCalls.{FailsToTake, IsPassedOn, PassesOn, SinkCall}
use Rattle.json_lines.proofs.ReadCallLaws.{go_on_join, go_on_none, reads_join}
use Rattle.json_lines.proofs.WriteCallLaws.{fails_join, passes_join}
use Rattle.json_lines.specs.declared.fault.Fault.{Fault}
use Rattle.json_lines.specs.declared.fault.Fault.TheVariants.{Memory, Read, Write}
use Rattle.json_lines.specs.declared.read_call.TheConstants.{MAX_READ_CALLS}
use Rattle.json_lines.specs.declared.writing.TheConstants.{MAX_WRITE_CALLS}
use Rattle.json_line_workers.specs.declared.held.Stop.{Stop}
use Rattle.json_line_workers.specs.declared.held.Stop.TheVariants.{Lines, TooLong, End}
use Rattle.json_line_workers.specs.declared.reading.Next.{Next}
use Rattle.json_line_workers.specs.Calls.{FaultBy, FillsBy, HandsOutBy, IsBefore, IsRead, IsWritten, LastBy, MoreBy, PassesBy, StopBy}

pub if-some : {X : Type 0} (o : Option X) (P Q : X → Type 0) → ((x : X) → P x → Q x) → IfSome o P → IfSome o Q
if-some None P Q goes is = tt
if-some (Some x) P Q goes is = goes x is

none_some : {X : Type 0} (x : X) (o : Option X) → o ≡ None → o ≢ Some x
none_some x o none is = true≢false (sym (ap is_some (sym none ∙ is)))

pub none_write : (o : Option Fault) → o ≡ None → o ≢ Some Write
none_write o none = none_some Write o none

memory_read : Some Memory ≢ Some Read
memory_read is = absurd cc

module _ {S : Type 0} (called : S → CallOutcome → S → Type 0) where
  -- ---- one reading

  pub stop_before : (stop : Stop) (old new : S) → IsBefore stop → GoOnAtMost called MAX_READ_CALLS old new → StopBy called stop old new
  stop_before Lines old new before on = on
  stop_before TooLong old new before on = on
  stop_before End old new before on = absurd before

  pub fault_once : (n : ℕ) (old between new : S) → GoOn called n old between → CallsOnce called between new → FaultBy called Memory old new
  fault_once n old between new before once = (n, between, before, inr once)

  -- one more read call that failed, or whose bytes found no room
  pub more_fails : (n : ℕ) (fault : Fault) (old between new : S) → n < MAX_READ_CALLS → GoOn called n old between
      → (outcome : CallOutcome) × called between outcome new × MoreBy outcome (Err fault) → FaultBy called fault old new
  more_fails n Memory old between new few before (outcome, call, on) = fault_once n old between new before (outcome, call)
  more_fails n Read old between new few before (outcome, call, failed) = inr (n, between, outcome, few, before, failed, call)
  more_fails n Write old between new few before (outcome, call, never) = absurd never

  pub more_ends : (n : ℕ) (old between new : S) → n < MAX_READ_CALLS → GoOn called n old between
      → (outcome : CallOutcome) × called between outcome new × MoreBy outcome (Ok true) → EndsBy called MAX_READ_CALLS IsEnd old new
  more_ends n old between new few before (outcome, call, end) = (n, between, outcome, few, before, end, call)

  -- in as many read calls as may be made whole lines came to hand, or none
  pub last_stop : (o : Option Stop) (r : Result Stop Fault) (old new : S) → r ≡ ok_or o Read → IfSome o IsBefore → GoOn called MAX_READ_CALLS old new
      → FillsBy called r old new
  last_stop None r old new is before on = rw is (inl on)
  last_stop (Some stop) r old new is before on = rw is (stop_before stop old new before (MAX_READ_CALLS, omega arith, on))

  pub fault_on : (old new : S) → GoOnAtMost called MAX_READ_CALLS old new → FaultBy called Memory old new
  fault_on old new (n, few, on) = (n, new, on, inl refl)

  pub fault_last : (last : Bool) (old new : S) → LastBy called last old new → FaultBy called Memory old new
  fault_last false old new on = fault_on old new on
  fault_last true old new (n, between, outcome, few, before, end, call) = (n, between, before, inr (outcome, call))

  pub hands_out : (r : Result Next Fault) (last : Bool) (old new : S) → IfOk r (λ next. next.last ≡ last) → IfErr r (λ e. e ≡ Memory) → LastBy called last old new
      → HandsOutBy called r old new
  hands_out (Ok next) last old new is error by = subst (λ (b : Bool). LastBy called b old new) (sym is) by
  hands_out (Err fault) last old new is error by = subst (λ (f : Fault). FaultBy called f old new) (sym error) (fault_last last old new by)

  -- ---- all readings so far

  pub read_first : (s : S) → IsRead called s s false false None
  read_first s = record {
    calls = (0, s, go_on_none called s, inl refl);
    on = λ _. (refl, 0, go_on_none called s);
    end = λ is. absurd (true≢false (sym is));
    failed = λ is. absurd (none_some Read None refl is);
  }

  pub read_next : (first old new : S) (last : Bool) → (n : ℕ) × GoOn called n first old → LastBy called last old new → IsRead called first new last last None
  read_next first old new false (n, before) (m, few, on) =
      let (k, joined) = go_on_join called n m first old new before on in
      record {
        calls = (k, new, joined, inl refl);
        on = λ _. (refl, k, joined);
        end = λ is. absurd (true≢false (sym is));
        failed = λ is. absurd (none_some Read None refl is);
      }
  read_next first old new true (n, before) ends =
      let (m, between, outcome, few, on, end, call) = ends in
      let (k, joined) = go_on_join called n m first old between before on in
      record {
        calls = (k, between, joined, inr (outcome, call));
        on = λ is. absurd (true≢false is);
        end = λ _. (n, old, before, ends);
        failed = λ is. absurd (none_some Read None refl is);
      }

  calls_no_end : (old new : S) → FindsNoEnd called MAX_READ_CALLS old new → FaultBy called Memory old new
  calls_no_end old new =
      ⊎_elim (λ (on : GoOn called MAX_READ_CALLS old new). (MAX_READ_CALLS, new, on, inl refl))
      (λ (ends : EndsBy called MAX_READ_CALLS _ old new). let (m, between, outcome, few, on, end, call) = ends in (m, between, on, inr (outcome, call)))

  pub read_fault : (first old new : S) (fault : Fault) → (n : ℕ) × GoOn called n first old → FaultBy called fault old new → IsRead called first new true false (Some fault)
  read_fault first old new Memory (n, before) by = record {
    calls = reads_join called (CallsOnceAtMost called) n first old new before by;
    on = λ is. absurd (true≢false is);
    end = λ is. absurd (true≢false (sym is));
    failed = λ is. absurd (memory_read is);
  }
  read_fault first old new Read (n, before) by = record {
    calls = reads_join called (CallsOnceAtMost called) n first old new before (calls_no_end old new by);
    on = λ is. absurd (true≢false is);
    end = λ is. absurd (true≢false (sym is));
    failed = λ _. (n, old, before, by);
  }
  read_fault first old new Write before by = absurd by

  pub fault_other : (fault : Fault) (old new : S) → FaultBy called fault old new → Some fault ≢ Some Write
  fault_other Memory old new by is = absurd cc
  fault_other Read old new by is = absurd cc
  fault_other Write old new by is = absurd by

module _ {S : Type 0} (called : S → SinkCall → S → Type 0) where
  -- ---- all writings so far

  pub written_first : (s : S) → IsWritten called s s None
  written_first s = record { passed = λ _. inl refl; failed = λ is. absurd (none_some Write None refl is) }

  pub written_more : (first old new : S) (fault : Option Fault) → fault ≢ Some Write → IsWritten called first old None → PassesOn called old new → IsWritten called first new fault
  written_more first old new fault other before more = record {
    passed = λ _. passes_join called first old new (before.passed (none_some Write None refl)) more;
    failed = λ is. absurd (other is);
  }

  pub written_fault : (first old new : S) → IsWritten called first old None → FailsToTake called MAX_WRITE_CALLS old new → IsWritten called first new (Some Write)
  written_fault first old new before fails = record {
    passed = λ other. absurd (other refl);
    failed = λ _. fails_join called MAX_WRITE_CALLS first old new (before.passed (none_some Write None refl)) fails;
  }

  pub written_same : (first old : S) (fault : Option Fault) → fault ≢ Some Write → IsWritten called first old None → IsWritten called first old fault
  written_same first old fault other before = record { passed = λ _. before.passed (none_some Write None refl); failed = λ is. absurd (other is) }

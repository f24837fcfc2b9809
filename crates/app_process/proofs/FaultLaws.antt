-- Which stream a fault is blamed on, by what a reader and a writer tell of their calls.
use Rattle.std.specs.Prelude.{◌≡◌, ◌≢◌, ◌≤◌, ◌<◌, ◌+◌, ◌⊎◌, ⊤, ℕ, zero, suc, List, [], Bool, Option, None, Some, Result, Ok, Err, IfErr, refl}
use Rattle.std.specs.declared.io.Error.{Error}
use Rattle.std.specs.IoError.{error_kind}
use Rattle.std.specs.declared.io.ErrorKind.TheVariants.{Interrupted}
use Rattle.std.proofs.Common.{inl, inr, ap, subst, sym, arith, ◌∙◌}
use Rattle.app_orders.specs.declared.length.Length.{Length}
use Rattle.app_orders.specs.declared.length.Length.TheVariants as lengths
use Rattle.app_orders.specs.declared.page.PageOf.{PageOf}
use Rattle.app_orders.specs.declared.page.PageOf.TheVariants as pages
use Rattle.app_orders.specs.declared.detail.Detail.{Detail}
use Rattle.app_orders.specs.declared.manner.Asked.{Asked}
use Rattle.app_orders.specs.declared.manner.Manner.{Manner}
use Rattle.app_orders.specs.declared.order.Task.{Task}
use Rattle.app_orders.specs.declared.order.Task.TheVariants.{OfInput, OfLog, OfPage}
use Rattle.json_lines.specs.declared.fault.Fault.{Fault}
use Rattle.json_lines.specs.declared.fault.Fault.TheVariants as faults
use Rattle.json_lines.specs.declared.read_call.TheConstants.{MAX_READ_CALLS}
use Rattle.json_lines.specs.declared.writing.TheConstants.{MAX_WRITE_CALLS}
use Rattle.json_lines.specs.ReadCalls.{CallOutcome, Calls, FindsNoEnd, GoOn, IsFailure, ReadsOn}
use Rattle.json_lines.specs.WriteCalls.{FailsToTake, SinkCall, WriteOn}
use Rattle.app_engine.specs.InputLengths.{FindsNoEndFor}
use Rattle.app_engine.specs.ReadCalls.{GoOnIdle, idle_after}
use Rattle.app_engine.specs.declared.failure.RunError.{RunError}
use Rattle.app_engine.specs.declared.failure.RunError.TheVariants as failures
use Rattle.app_logs.specs.declared.failure.LogError.{LogError}
use Rattle.app_logs.specs.declared.failure.LogError.TheVariants as log_failures
use Rattle.app_logs.specs.declared.following.Followed.{Followed}
use Rattle.app_logs.specs.declared.following.Rest.{Rest}
use Rattle.app_logs.specs.declared.following.Rest.TheVariants as rests
use Rattle.app_logs.specs.ReadCalls.{FollowsLogBy}
use Rattle.app_pages.specs.declared.failure.PageError.{PageError}
use Rattle.app_pages.specs.declared.failure.PageError.TheVariants as page_failures
use Rattle.app_process.specs.Endings.{EndsPageOf, EndsTask}
use Rattle.app_process.specs.Faults.{Blames, MayFail, MayFailOnLog, MayFailOnPage, ReadingFails, WritingFails, most_ahead}
use Rattle.app_process.specs.Process.{EndsAsked}
use Rattle.app_process.specs.Steps.Readers.{PassesAhead, PassesRead}

-- of a reader
module _ {S : Type 0} (called : S → CallOutcome → S → Type 0) where
  pub read_call_fails : (old new : S) (error : Error) → error_kind error ≢ Interrupted → called old (Err error) new → ReadingFails 0 called
  read_call_fails old new error fails call = inl (old, new, Err error, fails, call)

  go_on_calls : (n : ℕ) (old new : S) → GoOn called n old new → Calls called n old new
  unfolding GoOn Calls
  go_on_calls zero old new same = same
  go_on_calls (suc n) old new (between, outcome, first, goes, call) = (between, go_on_calls n old between first, (outcome, call))

  idle_calls : (most n idle : ℕ) (old new : S) → GoOnIdle called most n idle old new → Calls called n old new
  unfolding GoOnIdle Calls
  idle_calls most zero idle old new (same, none) = same
  idle_calls most (suc n) idle old new (between, outcome, before, first, few, goes, call, is) =
      (between, idle_calls most n before old between first, (outcome, call))

  one_more : (outcome : CallOutcome) (before n idle : ℕ) → before ≤ n → idle ≡ idle_after outcome before → idle ≤ suc n
  one_more (Ok count) before n idle few is = omega arith
  one_more (Err e) before n idle few is = omega arith

  idle_few : (most n idle : ℕ) (old new : S) → GoOnIdle called most n idle old new → idle ≤ n
  unfolding GoOnIdle
  idle_few most zero idle old new (same, none) = omega arith
  idle_few most (suc n) idle old new (between, outcome, before, first, few, goes, call, is) =
      one_more outcome before n idle (idle_few most n before old between first) is

  enough : (n : ℕ) → MAX_READ_CALLS ≤ n → MAX_READ_CALLS ≤ n + 0
  enough n many = omega arith

  pub finds_none : (old new : S) → FindsNoEnd called MAX_READ_CALLS old new → ReadingFails 0 called
  finds_none old new (inl all) = inr (old, new, MAX_READ_CALLS, enough MAX_READ_CALLS (omega arith), go_on_calls MAX_READ_CALLS old new all)
  finds_none old new (inr (n, between, outcome, few, first, fails, call)) = inl (between, new, outcome, fails, call)

  pub finds_none_for : (long : Length) (old new : S) → FindsNoEndFor called long MAX_READ_CALLS old new → ReadingFails 0 called
  finds_none_for lengths.Limited old new none = finds_none old new none
  finds_none_for lengths.Any old new (inl (n, all)) =
      inr (old, new, n, enough n (idle_few MAX_READ_CALLS n MAX_READ_CALLS old new all), idle_calls MAX_READ_CALLS n MAX_READ_CALLS old new all)
  finds_none_for lengths.Any old new (inr (n, idle, between, outcome, first, few, fails, call)) = inl (between, new, outcome, fails, call)

  pub lines_find_none : (old new : S) → ReadsOn called (FindsNoEnd called MAX_READ_CALLS) old new → ReadingFails 0 called
  lines_find_none old new (n, between, first, none) = finds_none between new none

  pub log_finds_none : (every : Option ℕ) (rest : Rest) (result : Result Followed LogError) (old new : S) → FollowsLogBy called every rest result old new
      → result ≡ Err log_failures.ReadFault → ReadingFails 0 called
  log_finds_none every rest (Ok followed) old new follows fails = cc
  log_finds_none None rest (Err log_failures.ReadFault) old new (lines, (between, first, none)) fails = finds_none between new none
  log_finds_none (Some n) rests.Unread (Err log_failures.ReadFault) old new (lines, (between, first, none)) fails = finds_none between new none
  log_finds_none (Some n) rests.Read (Err log_failures.ReadFault) old new (lines, (between, first, none)) fails = finds_none between new none
  log_finds_none every rest (Err (log_failures.Refused refusal)) old new follows fails = cc
  log_finds_none every rest (Err log_failures.Memory) old new follows fails = cc
  log_finds_none every rest (Err log_failures.WriteFault) old new follows fails = cc

-- of a writer
pub fails_to_take : {S : Type 0} (called : S → SinkCall → S → Type 0) (old new : S) → FailsToTake called MAX_WRITE_CALLS old new → WritingFails called
fails_to_take called old new (inl (n, between, call, first, failed, is_call)) = inl (between, new, call, failed, is_call)
fails_to_take called old new (inr (n, many, all)) = inr (old, new, n, many, all)

-- a reader whose calls are those of another one
module _ {S T : Type 0} (called : T → CallOutcome → T → Type 0) (inner : S → T) where
  abbrev Passes : S → CallOutcome → S → Type 0
  Passes old outcome new = PassesRead called (inner old) outcome (inner new)

  inner_calls : (n : ℕ) (old new : S) → Calls Passes n old new → Calls called n (inner old) (inner new)
  unfolding Calls
  inner_calls zero old new same = ap inner same
  inner_calls (suc n) old new (between, first, (outcome, (actual, call, fails))) = (inner between, inner_calls n old between first, (actual, call))

  pub inner_fails : (ahead : ℕ) → ReadingFails ahead Passes → ReadingFails ahead called
  inner_fails ahead (inl (old, new, outcome, failed, (actual, call, fails))) = inl (inner old, inner new, actual, fails failed, call)
  inner_fails ahead (inr (old, new, calls, many, all)) = inr (inner old, inner new, calls, many, inner_calls calls old new all)

-- a reader that gives some bytes that were read before, and then those of another one
module _ {S T : Type 0} (called : T → CallOutcome → T → Type 0) (inner : S → T) (left : S → ℕ) where
  abbrev Ahead : S → CallOutcome → S → Type 0
  Ahead old outcome new = PassesAhead called (left old) (left new) (inner old) outcome (inner new)

  -- of so many calls, those of the other reader; and no bytes were read before, or at most so many
  abbrev Counted : ℕ → S → S → Type 0
  Counted n old new = (m : ℕ) × Calls called m (inner old) (inner new) × (n + left new ≤ m + left old) × (((n ≤ m) × (left new ≡ left old)) ⊎ (left old ≤ most_ahead))

  counted_more : (n : ℕ) (old between new : S) (outcome : CallOutcome) → Counted n old between → Ahead between outcome new → Counted (suc n) old new
  unfolding Calls
  counted_more n old between new outcome (m, calls, few, (inl (all, still))) (inl (count, is, fewer, most, same)) =
      let P : T → Type 0 = λ t. Calls called m (inner old) t in
      (m, subst P (sym same) calls, omega arith, inr (omega arith))
  counted_more n old between new outcome (m, calls, few, (inr most_left)) (inl (count, is, fewer, most, same)) =
      let P : T → Type 0 = λ t. Calls called m (inner old) t in
      (m, subst P (sym same) calls, omega arith, inr most_left)
  counted_more n old between new outcome (m, calls, few, (inl (all, still))) (inr (same, (actual, call, fails))) =
      (suc m, (inner between, calls, (actual, call)), omega arith, inl (omega arith, same ∙ still))
  counted_more n old between new outcome (m, calls, few, (inr most_left)) (inr (same, (actual, call, fails))) =
      (suc m, (inner between, calls, (actual, call)), omega arith, inr most_left)

  counted : (n : ℕ) (old new : S) → Calls Ahead n old new → Counted n old new
  unfolding Calls
  counted zero old new same = subst (λ (s : S). Counted 0 old s) same (0, refl, omega arith, inl (omega arith, refl))
  counted (suc n) old new (between, first, (outcome, call)) = counted_more n old between new outcome (counted n old between first) call

  pub ahead_fails : ReadingFails 0 Ahead → ReadingFails most_ahead called
  ahead_fails (inl (old, new, outcome, failed, (inl (count, is, fewer, most, same)))) = absurd (subst IsFailure is failed)
  ahead_fails (inl (old, new, outcome, failed, (inr (same, (actual, call, fails))))) = inl (inner old, inner new, actual, fails failed, call)
  ahead_fails (inr (old, new, calls, many, all)) =
      let (m, of_inner, few, kept) = counted calls old new all in
      inr (inner old, inner new, m, enough_left calls m (left old) (left new) few many kept, of_inner)
    where
      enough_left : (n m before after : ℕ) → n + after ≤ m + before → MAX_READ_CALLS ≤ n + 0 → (((n ≤ m) × (after ≡ before)) ⊎ (before ≤ most_ahead)) → MAX_READ_CALLS ≤ m + most_ahead
      enough_left n m before after few many (inl (all, still)) = omega arith
      enough_left n m before after few many (inr most) = omega arith

pub more_ahead : {S : Type 0} (called : S → CallOutcome → S → Type 0) → ReadingFails 0 called → ReadingFails most_ahead called
more_ahead called (inl fails) = inl fails
more_ahead called (inr (old, new, calls, many, all)) = inr (old, new, calls, omega arith, all)

-- a writer whose calls are those of another one
module _ {S T : Type 0} (called : T → SinkCall → T → Type 0) (inner : S → T) where
  abbrev PassesWrite : S → SinkCall → S → Type 0
  PassesWrite old call new = called (inner old) call (inner new)

  inner_writes : (n : ℕ) (old new : S) → WriteOn PassesWrite n old new → WriteOn called n (inner old) (inner new)
  unfolding WriteOn
  inner_writes zero old new same = ap inner same
  inner_writes (suc n) old new (between, call, first, goes, is_call) = (inner between, call, inner_writes n old between first, goes, is_call)

  pub inner_writing_fails : WritingFails PassesWrite → WritingFails called
  inner_writing_fails (inl (old, new, call, failed, is_call)) = inl (inner old, inner new, call, failed, is_call)
  inner_writing_fails (inr (old, new, calls, many, all)) = inr (inner old, inner new, calls, many, inner_writes calls old new all)

-- why a run failed, by what its streams tell
module _ {reading writing : Type 0} where
  pub may_fail : {X : Type 0} (result : Result X RunError) (error : RunError) → result ≡ Err error → (result ≡ Err failures.ReadFault → reading)
      → (result ≡ Err failures.WriteFault → writing) → MayFail (Blames reading writing) error
  may_fail result failures.ReadFault is read write = read is
  may_fail result failures.WriteFault is read write = write is
  may_fail result (failures.History refusal) is read write = tt
  may_fail result (failures.Script refusal) is read write = tt
  may_fail result failures.BadCertificate is read write = tt
  may_fail result failures.ShapeMismatch is read write = tt
  may_fail result failures.NotThatPattern is read write = tt
  may_fail result failures.BadLimits is read write = tt
  may_fail result failures.NoSuch is read write = tt
  may_fail result failures.TooLong is read write = tt
  may_fail result failures.Memory is read write = tt

  pub lines_may_fail : {X : Type 0} (result : Result X RunError) → (result ≡ Err failures.ReadFault → reading) → (result ≡ Err failures.WriteFault → writing)
      → IfErr result (MayFail (Blames reading writing))
  lines_may_fail (Ok x) read write = tt
  lines_may_fail (Err error) read write = may_fail (Err error) error refl read write

  pub may_fail_on_log : {X : Type 0} (result : Result X LogError) (error : LogError) → result ≡ Err error → (result ≡ Err log_failures.ReadFault → reading)
      → (result ≡ Err log_failures.WriteFault → writing) → MayFailOnLog (Blames reading writing) error
  may_fail_on_log result log_failures.ReadFault is read write = read is
  may_fail_on_log result log_failures.WriteFault is read write = write is
  may_fail_on_log result (log_failures.Refused refusal) is read write = tt
  may_fail_on_log result log_failures.Memory is read write = tt

  pub may_fail_on_page : {X : Type 0} (result : Result X PageError) (error : PageError) → result ≡ Err error
      → (result ≡ Err (page_failures.Log log_failures.ReadFault) → reading) → (result ≡ Err (page_failures.Log log_failures.WriteFault) → writing)
      → MayFailOnPage (Blames reading writing) error
  may_fail_on_page result (page_failures.Log log_failures.ReadFault) is read write = read is
  may_fail_on_page result (page_failures.Log log_failures.WriteFault) is read write = write is
  may_fail_on_page result (page_failures.Log (log_failures.Refused refusal)) is read write = tt
  may_fail_on_page result (page_failures.Log log_failures.Memory) is read write = tt
  may_fail_on_page result page_failures.TooLong is read write = tt

-- what may fail may do so where more may
module _ {may might : Fault → Type 0} (weaker : (fault : Fault) → may fault → might fault) where
  run : (error : RunError) → MayFail may error → MayFail might error
  run failures.ReadFault blamed = weaker faults.Read blamed
  run failures.WriteFault blamed = weaker faults.Write blamed
  run (failures.History refusal) blamed = tt
  run (failures.Script refusal) blamed = tt
  run failures.BadCertificate blamed = tt
  run failures.ShapeMismatch blamed = tt
  run failures.NotThatPattern blamed = tt
  run failures.BadLimits blamed = tt
  run failures.NoSuch blamed = tt
  run failures.TooLong blamed = tt
  run failures.Memory blamed = tt

  on_log : (error : LogError) → MayFailOnLog may error → MayFailOnLog might error
  on_log log_failures.ReadFault blamed = weaker faults.Read blamed
  on_log log_failures.WriteFault blamed = weaker faults.Write blamed
  on_log (log_failures.Refused refusal) blamed = tt
  on_log log_failures.Memory blamed = tt

  on_page : (error : PageError) → MayFailOnPage may error → MayFailOnPage might error
  on_page (page_failures.Log error) blamed = on_log error blamed
  on_page page_failures.TooLong blamed = tt

  page : (label : Option (List ℕ)) (at : Bool) (of : PageOf) (most : ℕ) (detail : Detail) (reader a b c d : Option (List ℕ)) (status : ℕ)
      → EndsPageOf may label at of most detail reader a b c d status → EndsPageOf might label at of most detail reader a b c d status
  page label at (pages.Input long) most detail reader a b c d status (inl shown) = inl shown
  page label at (pages.Input long) most detail reader a b c d status (inr failed) = inr (record {
    error = failed.error;
    fails = failed.fails;
    unwritten = failed.unwritten;
    blamed = run failed.error failed.blamed;
    refuses = failed.refuses;
  })
  page label at pages.Log most detail reader a b c d status (inl shown) = inl shown
  page label at pages.Log most detail reader a b c d status (inr failed) = inr (record {
    error = failed.error;
    fails = failed.fails;
    unwritten = failed.unwritten;
    blamed = on_page failed.error failed.blamed;
    tells = failed.tells;
  })

  pub task : (label : Option (List ℕ)) (at : Bool) (asked : Task) (manner : Manner) (reader a b c d : Option (List ℕ)) (status : ℕ)
      → EndsTask may label at asked manner reader a b c d status → EndsTask might label at asked manner reader a b c d status
  task label at (OfInput order detail) manner reader a b c d status (inl (whole, inl answers)) = inl (whole, inl answers)
  task label at (OfInput order detail) manner reader a b c d status (inl (whole, inr failed)) = inl (
    whole,
    inr (record {
      error = failed.error;
      fails = failed.fails;
      unwritten = failed.unwritten;
      blamed = run failed.error failed.blamed;
      refuses = failed.refuses;
    }),
  )
  task label at (OfInput order detail) manner reader a b c d status (inr (judging, is_order, inl answers)) = inr (judging, is_order, inl answers)
  task label at (OfInput order detail) manner reader a b c d status (inr (judging, is_order, inr failed)) = inr (
    judging,
    is_order,
    inr (record {
      error = failed.error;
      is_fault = failed.is_fault;
      first = failed.first;
      blamed = run failed.error failed.blamed;
      tells = failed.tells;
    }),
  )
  task label at (OfLog order) manner reader a b c d status (inl answers) = inl answers
  task label at (OfLog order) manner reader a b c d status (inr failed) = inr (record {
    error = failed.error;
    is_error = failed.is_error;
    unwritten = failed.unwritten;
    first_cuts = failed.first_cuts;
    refused = failed.refused;
    blamed = on_log failed.error failed.blamed;
    tells = failed.tells;
  })
  task label at (OfPage asked_page detail) manner reader a b c d status ends = page label at asked_page.of asked_page.most detail reader a b c d status ends

pub blames : {reading other_reading writing other_writing : Type 0} → (reading → other_reading) → (writing → other_writing)
    → (fault : Fault) → Blames reading writing fault → Blames other_reading other_writing fault
blames read write faults.Read blamed = read blamed
blames read write faults.Write blamed = write blamed
blames read write faults.Memory blamed = tt

-- a task that was carried out on another reader of the same bytes, or with another writer of the same
pub by_reader : (reading other_reading writing : Type 0) (label : Option (List ℕ)) (at : Bool) (asked : Task) (manner : Manner)
    (known reader a b c d : Option (List ℕ)) (status : ℕ) → (reading → other_reading) → known ≡ reader
    → EndsTask (Blames reading writing) label at asked manner known a b c d status → EndsTask (Blames other_reading writing) label at asked manner reader a b c d status
by_reader reading other_reading writing label at asked manner known reader a b c d status read is_known ends =
    let P : Option (List ℕ) → Type 0 = λ k. EndsTask (Blames other_reading writing) label at asked manner k a b c d status in
    subst P is_known (task (blames read (λ w. w)) label at asked manner known a b c d status ends)

pub by_writer : (reading writing other_writing : Type 0) (label : Option (List ℕ)) (at : Bool) (asked : Task) (manner : Manner)
    (reader known known_after a b c d : Option (List ℕ)) (status : ℕ) → (writing → other_writing) → known ≡ a → known_after ≡ b
    → EndsTask (Blames reading writing) label at asked manner reader known known_after c d status
    → EndsTask (Blames reading other_writing) label at asked manner reader a b c d status
by_writer reading writing other_writing label at asked manner reader known known_after a b c d status write is_known is_after ends =
    let P : Option (List ℕ) → Type 0 = λ k. EndsTask (Blames reading other_writing) label at asked manner reader k known_after c d status in
    let Q : Option (List ℕ) → Type 0 = λ k. EndsTask (Blames reading other_writing) label at asked manner reader a k c d status in
    subst Q is_after (subst P is_known (task (blames (λ r. r) write) label at asked manner reader known known_after c d status ends))

-- what was asked for was done on another reader
pub asked_of : (reading other_reading writing : Type 0) → (reading → other_reading) → (label : Option (List ℕ)) (at shown : Bool) (asked : Asked)
    (reader a b c d : Option (List ℕ)) (status : ℕ) → EndsAsked reading writing label at shown asked reader a b c d status
    → EndsAsked other_reading writing label at shown asked reader a b c d status
asked_of reading other_reading writing read label at shown asked reader a b c d status (inl (to, (painted, is_painted, ends))) =
    inl (to, (painted, is_painted, task (blames read (λ w. w)) label at asked.task asked.manner reader _ _ c d status ends))
asked_of reading other_reading writing read label at shown asked reader a b c d status (inr (to, file)) = inr (
  to,
  record {
    answer = file.answer;
    said = file.said;
    answered = file.answered;
    ends = task (blames read (λ w. w)) label at asked.task asked.manner reader (Some []) file.answer c file.said file.answered file.ends;
    output = file.output;
    unsaved = file.unsaved;
    saved = file.saved;
  },
)

-- Each exit status is at most 6.
use Rattle.std.specs.Prelude.{◌≡◌, ◌≢◌, ◌⊎◌, ◌==◌, ◌&&◌, ◌≤◌, ℕ, zero, suc, List, [], ◌∷◌, Bool, true, false, Option, None, Some, if◌then◌else◌, nat_lt, refl}
use Rattle.std.proofs.Common.{inl, inr, arith, lit≤}
use Rattle.clap.specs.Words.{Text}
use Rattle.json_histories.specs.declared.read_error.ReadError.{ReadError}
use Rattle.json_histories.specs.declared.read_error.ReadError.TheVariants as reads
use Rattle.live_script.specs.declared.script_error.ScriptError.{ScriptError}
use Rattle.live_script.specs.declared.script_error.ScriptError.TheVariants as scripts
use Rattle.json_lines.specs.declared.outcome.Outcome.{Outcome}
use Rattle.json_lines.specs.declared.outcome.Outcome.TheVariants as outcomes
use Rattle.json_lines.specs.Outcomes.{status_of_outcome}
use Rattle.app_orders.specs.declared.manner.Asked.{Asked}
use Rattle.app_orders.specs.declared.manner.Manner.{Manner}
use Rattle.app_orders.specs.declared.order.Task.{Task}
use Rattle.app_orders.specs.declared.order.Task.TheVariants.{OfInput, OfLog, OfPage}
use Rattle.app_command_line.specs.declared.command.Usage.{Usage}
use Rattle.app_command_line.specs.declared.command.Usage.TheVariants.{Fault, Help, Memory}
use Rattle.app_orders.specs.declared.page.PageOf.{PageOf}
use Rattle.app_orders.specs.declared.page.PageOf.TheVariants as pages
use Rattle.app_orders.specs.declared.detail.Detail.{Detail}
use Rattle.app_orders.specs.declared.detail.Detail.TheVariants.{Reason}
use Rattle.app_command_line.specs.declared.sight.Sight.{Sight}
use Rattle.app_command_line.specs.declared.sight.Sight.TheVariants.{Unseen}
use Rattle.show_refusals.specs.declared.refusal.Refusal.{Refusal}
use Rattle.show_refusals.specs.declared.refusal.InputForm.TheVariants as forms
use Rattle.app_engine.specs.declared.failure.RunError.{RunError}
use Rattle.app_engine.specs.declared.failure.RunError.TheVariants as failures
use Rattle.app_engine.specs.Failure.{failure_status, refusal_status, script_status}
use Rattle.app_logs.specs.declared.failure.LogError.{LogError}
use Rattle.app_logs.specs.declared.failure.LogError.TheVariants as log_failures
use Rattle.app_logs.specs.Failure.{status_for}
use Rattle.app_pages.specs.declared.failure.PageError.{PageError}
use Rattle.app_pages.specs.declared.failure.PageError.TheVariants as page_failures
use Rattle.app_process.specs.declared.terminals.Terminals.{Terminals}
use Rattle.app_process.specs.Endings.{EndsPageOf, EndsTask, TellsOfPage}
use Rattle.app_process.specs.Failing.{Refuses, Tells, refusal_for}
use Rattle.app_process.specs.Process.{EndEach, EndsAsked, EndsFile, EndsFiles, EndsMisuse, EndsRun, EndsWords, are_several}
use Rattle.app_process.specs.Saying.{Known, SaysSome}
use Rattle.json_lines.specs.declared.fault.Fault.{Fault as StreamFault}
use Rattle.app_process.specs.Statuses.{has_few, rank, status_after, worse}
use Rattle.app_process.specs.Usages.{EndsUsage}

by : {s n : ℕ} → s ≡ n → n ≤ 6 → s ≤ 6
by e few = omega arith

few_outcome : (outcome : Outcome) → status_of_outcome outcome ≤ 6
few_outcome outcomes.Met = lit≤ tt
few_outcome outcomes.Refused = lit≤ tt
few_outcome outcomes.Excluded = lit≤ tt
few_outcome outcomes.Unknown = lit≤ tt

few_cond : (b : Bool) (m n : ℕ) → m ≤ 6 → n ≤ 6 → (if b then m else n) ≤ 6
few_cond true m n few more = few
few_cond false m n few more = more

few_after : (least reads : Option ℕ) (before : ℕ) → before ≤ 6 → status_after least reads before ≤ 6
few_after least reads before few = few_cond (has_few least reads && (before == 0)) 6 before (lit≤ tt) few

few_refusal : (refusal : ReadError) → refusal_status refusal ≤ 6
few_refusal reads.NotJson = lit≤ tt
few_refusal reads.BadShape = lit≤ tt
few_refusal reads.UnknownObject = lit≤ tt
few_refusal (reads.BadOp op) = lit≤ tt
few_refusal (reads.ReturnAfterUnknown op) = lit≤ tt
few_refusal reads.TooManySessions = lit≤ tt
few_refusal reads.TooManyOps = lit≤ tt
few_refusal reads.Memory = lit≤ tt
few_refusal reads.BadInitial = lit≤ tt

few_script : (refusal : ScriptError) → script_status refusal ≤ 6
few_script scripts.NotJson = lit≤ tt
few_script scripts.BadShape = lit≤ tt
few_script scripts.UnknownObject = lit≤ tt
few_script scripts.BadLimits = lit≤ tt
few_script (scripts.BadStep place) = lit≤ tt
few_script scripts.TooManySteps = lit≤ tt
few_script scripts.BadInitial = lit≤ tt
few_script scripts.Memory = lit≤ tt

few_failure : (error : RunError) → failure_status error ≤ 6
few_failure (failures.History refusal) = few_refusal refusal
few_failure (failures.Script refusal) = few_script refusal
few_failure failures.BadCertificate = lit≤ tt
few_failure failures.ShapeMismatch = lit≤ tt
few_failure failures.NotThatPattern = lit≤ tt
few_failure failures.BadLimits = lit≤ tt
few_failure failures.NoSuch = lit≤ tt
few_failure failures.TooLong = lit≤ tt
few_failure failures.Memory = lit≤ tt
few_failure failures.ReadFault = lit≤ tt
few_failure failures.WriteFault = lit≤ tt

few_log : (error : LogError) → status_for error ≤ 6
few_log (log_failures.Refused refusal) = lit≤ tt
few_log log_failures.Memory = lit≤ tt
few_log log_failures.ReadFault = lit≤ tt
few_log log_failures.WriteFault = lit≤ tt

few_tells : (label : Option (List ℕ)) (error : RunError) (a b : Option (List ℕ)) (status : ℕ) → Tells label error a b status → status ≤ 6
few_tells label error a b status (inl (is_status, said)) = by is_status (few_failure error)
few_tells label error a b status (inr (is_status, said)) = by is_status (lit≤ tt)

few_refuses : (label : Option (List ℕ)) (at : Bool) (detail : Detail) (refusal : Option Refusal) (error : RunError) (a b : Option (List ℕ)) (status : ℕ)
    → Refuses label at detail refusal error a b status → status ≤ 6
few_refuses label at detail refusal error a b status (inl told) = by told.is_status (few_failure error)
few_refuses label at detail refusal error a b status (inr (is_status, said)) = by is_status (lit≤ tt)

module _ (label : Option (List ℕ)) (at : Bool) where
  few_page_error : (error : PageError) (a b : Option (List ℕ)) (status : ℕ) → TellsOfPage label at error a b status → status ≤ 6
  few_page_error (page_failures.Log error) a b status (inl (told, is_status, said)) = by is_status (few_log error)
  few_page_error (page_failures.Log error) a b status (inr (is_status, said)) = by is_status (lit≤ tt)
  few_page_error page_failures.TooLong a b status told =
      few_refuses label at Reason (refusal_for forms.History failures.TooLong) failures.TooLong a b status told

  few_page : (may : StreamFault → Type 0) (of : PageOf) (most : ℕ) (detail : Detail) (reader a b c d : Option (List ℕ)) (status : ℕ)
      → EndsPageOf may label at of most detail reader a b c d status → status ≤ 6
  few_page may (pages.Input long) most detail reader a b c d status (inl shown) = by shown.is_status (lit≤ tt)
  few_page may (pages.Input long) most detail reader a b c d status (inr refused) = few_refuses label at detail _ refused.error c d status refused.refuses
  few_page may pages.Log most detail reader a b c d status (inl shown) = by shown.is_status (lit≤ tt)
  few_page may pages.Log most detail reader a b c d status (inr refused) = few_page_error refused.error c d status refused.tells

  few_task : (may : StreamFault → Type 0) (task : Task) (manner : Manner) (reader a b c d : Option (List ℕ)) (status : ℕ)
      → EndsTask may label at task manner reader a b c d status → status ≤ 6
  few_task may (OfInput order detail) manner reader a b c d status (inl (whole, inl answers)) =
      by answers.is_status (few_after manner.least_reads answers.reads _ (few_outcome answers.outcome))
  few_task may (OfInput order detail) manner reader a b c d status (inl (whole, inr refused)) = few_refuses label at detail _ refused.error c d status refused.refuses
  few_task may (OfInput order detail) manner reader a b c d status (inr (judging, is_order, inl answers)) = by answers.is_status (few_outcome answers.outcome)
  few_task may (OfInput order detail) manner reader a b c d status (inr (judging, is_order, inr failed)) = few_tells label failed.error c d status failed.tells
  few_task may (OfLog order) manner reader a b c d status (inl answers) =
      by answers.is_status (few_after manner.least_reads answers.reads _ (few_outcome answers.followed.outcome))
  few_task may (OfLog order) manner reader a b c d status (inr refused) = few_page_error (page_failures.Log refused.error) c d status refused.tells
  few_task may (OfPage page detail) manner reader a b c d status ends = few_page _ page.of page.most detail reader a b c d status ends

few_usage : (writing : Type 0) (usage : Usage) (a b c d : Option (List ℕ)) (status : ℕ) → EndsUsage writing usage a b c d status → status ≤ 6
few_usage writing (Help text) a b c d status (inl (more, gate, written, quiet, is_status)) = by is_status (lit≤ tt)
few_usage writing (Help text) a b c d status (inr (blamed, told)) = few_tells None failures.WriteFault c d status told
few_usage writing (Fault text) a b c d status (same, said, is_status) = by is_status (lit≤ tt)
few_usage writing Memory a b c d status (same, told) = few_tells None failures.Memory c d status told

few_misuse : (writing : Type 0) (sight : Sight) (words : List Text) (a b c d : Option (List ℕ)) (status : ℕ) → EndsMisuse writing sight words a b c d status → status ≤ 6
few_misuse writing sight words a b c d status (usage, none, is_usage, ends) = few_usage _ usage a b c d status ends

zero_or_other : (n : ℕ) → (n ≡ 0) ⊎ (n ≢ 0)
zero_or_other zero = inl refl
zero_or_other (suc n) = inr (λ e. absurd (omega arith))

few_kept : (status : ℕ) (a b : Option (List ℕ)) → ((status ≡ 0) × (b ≡ a)) ⊎ ((status ≡ 3) × SaysSome a b) → status ≤ 6
few_kept status a b (inl (is_status, same)) = by is_status (lit≤ tt)
few_kept status a b (inr (is_status, said)) = by is_status (lit≤ tt)

few_saved : (answered status : ℕ) (a b : Option (List ℕ)) → answered ≤ 6 → (answered ≢ 0 → (status ≡ answered) × (b ≡ a))
    → (answered ≡ 0 → ((status ≡ 0) × (b ≡ a)) ⊎ ((status ≡ 3) × SaysSome a b)) → (answered ≡ 0) ⊎ (answered ≢ 0) → status ≤ 6
few_saved answered status a b few unsaved saved (inl none) = few_kept status a b (saved none)
few_saved answered status a b few unsaved saved (inr other) = by (unsaved other).0 few

few_asked : (reading writing : Type 0) (label : Option (List ℕ)) (at shown : Bool) (asked : Asked) (reader a b c d : Option (List ℕ)) (status : ℕ)
    → EndsAsked reading writing label at shown asked reader a b c d status → status ≤ 6
few_asked reading writing label at shown asked reader a b c d status (inl (to, (painted, is_painted, ends))) =
    few_task label at _ asked.task asked.manner reader _ _ c d status ends
few_asked reading writing label at shown asked reader a b c d status (inr (to, file)) =
    few_saved file.answered status file.said d (few_task label at _ asked.task asked.manner reader (Some []) file.answer c file.said file.answered file.ends)
    file.unsaved file.saved (zero_or_other file.answered)

-- of words that name no file
few_words : (reading writing : Type 0) (words : List Text) (terminals : Terminals) (reader a b c d : Option (List ℕ)) (status : ℕ)
    → EndsWords reading writing words terminals reader a b c d status → status ≤ 6
few_words reading writing words terminals reader a b c d status (inl (asked, is_line, ends)) = few_asked _ _ None terminals.error terminals.output asked reader a b c d status ends
few_words reading writing words terminals reader a b c d status (inr misuse) = few_misuse _ Unseen words a b c d status misuse

few_file : (Opens : Text → Known → Type 0) (Lacks : Text → Type 0) (reading writing : Type 0) (words : List Text) (terminals : Terminals) (name : Text)
    (label a b c d : Option (List ℕ)) (status : ℕ) → EndsFile Opens Lacks reading writing words terminals name label a b c d status → status ≤ 6
few_file Opens Lacks reading writing words terminals name label a b c d status (inl (reader, opens, inl (sight, asked, known, looks, is_line, is_known, ends))) =
    few_asked _ _ label terminals.error terminals.output asked known a b c d status ends
few_file Opens Lacks reading writing words terminals name label a b c d status (inl (reader, opens, inr (inl (sight, looks, misuse)))) = few_misuse _ sight words a b c d status misuse
few_file Opens Lacks reading writing words terminals name label a b c d status (inl (reader, opens, inr (inr (inl (blamed, is_status, same, said))))) = by is_status (lit≤ tt)
few_file Opens Lacks reading writing words terminals name label a b c d status (inl (reader, opens, inr (inr (inr (same, (is_status, said)))))) = by is_status (lit≤ tt)
few_file Opens Lacks reading writing words terminals name label a b c d status (inr (lacks, is_status, same, said)) = by is_status (lit≤ tt)

few_worse : (one other : ℕ) → one ≤ 6 → other ≤ 6 → worse one other ≤ 6
few_worse one other few more = few_cond (nat_lt (rank one) (rank other)) other one more few

few_each : (Opens : Text → Known → Type 0) (Lacks : Text → Type 0) (reading writing : Type 0) (words : List Text) (terminals : Terminals) (several : Bool) (names : List Text) (a b c d : Option (List ℕ)) (worst status : ℕ)
    → worst ≤ 6 → EndEach Opens Lacks reading writing words terminals several names a b c d worst status → status ≤ 6
unfolding EndEach
few_each Opens Lacks reading writing words terminals several [] a b c d worst status few (same, same_said, is_status) = by is_status few
few_each Opens Lacks reading writing words terminals several (name ∷ names) a b c d worst status few (between, said, one, ends, further) =
    few_each Opens Lacks reading writing words terminals several names between b said d (worse worst one) status
    (few_worse worst one few (few_file Opens Lacks reading writing words terminals name _ a between c said one ends)) further

-- of words that name files
few_files : (Opens : Text → Known → Type 0) (Lacks : Text → Type 0) (reading writing : Type 0) (words : List Text) (terminals : Terminals) (further : List Text) (a b c d : Option (List ℕ)) (status : ℕ)
    → EndsFiles Opens Lacks reading writing words terminals further a b c d status → status ≤ 6
few_files Opens Lacks reading writing words terminals further a b c d status (inl (asks, (files, are_files, each))) =
    few_each Opens Lacks reading writing words terminals (are_several files) files a b c d 0 status (lit≤ tt) each
few_files Opens Lacks reading writing words terminals further a b c d status (inr (inl (none, misuse))) = few_misuse _ Unseen words a b c d status misuse
few_files Opens Lacks reading writing words terminals further a b c d status (inr (inr (sight, asked, is_line, of_one, several, is_status, same, said))) = by is_status (lit≤ tt)

-- of any words
pub few_run : (Opens : Text → Known → Type 0) (Lacks : Text → Type 0) (file_reading reading writing : Type 0) (words : List Text) (terminals : Terminals) (reader a b c d : Option (List ℕ)) (status : ℕ)
    → EndsRun Opens Lacks file_reading reading writing words terminals reader a b c d status → status ≤ 6
few_run Opens Lacks file_reading reading writing words terminals reader a b c d status (inl (none, ends)) = few_words reading writing words terminals reader a b c d status ends
few_run Opens Lacks file_reading reading writing words terminals reader a b c d status (inr (some, further, after, ends)) = few_files Opens Lacks file_reading writing words terminals further a b c d status ends

-- of words that ask for nothing
pub few_of_usage : (writing : Type 0) (usage : Usage) (a b c d : Option (List ℕ)) (status : ℕ) → EndsUsage writing usage a b c d status → status ≤ 6
few_of_usage writing = few_usage writing

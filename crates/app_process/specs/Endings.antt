-- How a run of one task ends: what is known of its input, of its output and of standard error before and after it, and its exit status.
use Rattle.std.specs.Prelude.{◌≡◌, ◌≢◌, ◌⊎◌, ◌++◌, ◌&&◌, ℕ, List, [], Bool, true, false, Option, Some, None, codes, decimal, if◌then◌else◌, is_some}
use Rattle.std.specs.Io.KnownBytes.{Appends}
use Rattle.app_orders.specs.declared.detail.Detail.{Detail}
use Rattle.app_orders.specs.declared.detail.Detail.TheVariants.{Reason}
use Rattle.app_orders.specs.declared.length.Length.{Length}
use Rattle.app_orders.specs.declared.line_judging.LineJudging.{LineJudging}
use Rattle.app_orders.specs.declared.log_order.LogOrder.{LogOrder}
use Rattle.app_orders.specs.declared.manner.Manner.{Manner}
use Rattle.app_orders.specs.declared.order.Order.{Order}
use Rattle.app_orders.specs.declared.order.Order.TheVariants.{JudgeLines}
use Rattle.app_orders.specs.declared.order.Task.{Task}
use Rattle.app_orders.specs.declared.order.Task.TheVariants.{OfInput, OfLog, OfPage}
use Rattle.app_orders.specs.declared.page.Page.{Page}
use Rattle.app_orders.specs.declared.page.PageOf.{PageOf}
use Rattle.app_orders.specs.declared.page.PageOf.TheVariants as pages
use Rattle.json_lines.specs.declared.outcome.Outcome.{Outcome}
use Rattle.json_lines.specs.declared.outcome.Outcome.TheVariants.{Excluded}
use Rattle.json_lines.specs.Lines.{AllAreAnswered, FirstAreAnswered}
use Rattle.json_lines.specs.Outcomes.{status_of_outcome}
use Rattle.show_refusals.specs.declared.refusal.InputForm.TheVariants as forms
use Rattle.app_engine.specs.declared.failure.RunError.{RunError}
use Rattle.app_engine.specs.declared.failure.RunError.TheVariants as failures
use Rattle.app_engine.specs.InputLengths.{most_bytes}
use Rattle.app_engine.specs.LineAnswers.{IsLineAnswer}
use Rattle.app_engine.specs.Running.{Completes, Fails}
use Rattle.app_engine.specs.declared.input.TheConstants.{MAX_INPUT_BYTES}
use Rattle.app_logs.specs.declared.failure.LogError.{LogError}
use Rattle.app_logs.specs.declared.failure.LogError.TheVariants as log_failures
use Rattle.app_logs.specs.declared.following.Followed.{Followed}
use Rattle.app_logs.specs.declared.late_writes.LateWrite.{LateWrite}
use Rattle.app_logs.specs.Failure.{lines_for, status_for}
use Rattle.app_logs.specs.LogAnswers.{FollowsLog, IsLogError, RefusesLate, WritesFirstCuts, every_in, expected_in}
use Rattle.app_pages.specs.declared.failure.PageError.{PageError}
use Rattle.app_pages.specs.declared.failure.PageError.TheVariants as page_failures
use Rattle.app_pages.specs.Writing.{FailsToWrite, IsPageOfInput, IsPageOfLog, WritesPage, listing_order}
use Rattle.json_lines.specs.declared.fault.Fault.{Fault}
use Rattle.app_process.specs.Faults.{MayFail, MayFailOnLog, MayFailOnPage}
use Rattle.app_process.specs.Failing.{LacksMemory, Refuses, Tells, form_for, history_form, refusal_for}
use Rattle.app_process.specs.LineRemarks.{SaysLineRemarks}
use Rattle.app_process.specs.Saying.{Known, said_lines}
use Rattle.app_process.specs.Statuses.{status_after, wants_counts}

-- an order on an input as a whole, and not on each of its lines
abbrev pub IsOfWhole : Order → Type 0
IsOfWhole order = (judging : LineJudging) → order ≢ JudgeLines judging

-- what may be said of how much a run asks: nothing where that is not wanted
abbrev pub SaysCounts : Bool → Known → Known → Type 0
SaysCounts wanted before after = (text : List ℕ) × Appends before after text × (wanted ≡ false → text ≡ [])

module _ (label : Option (List ℕ)) (at_terminal : Bool) where
  -- an order on an input was carried out: its output was written whole, and the status is that of its outcome
  pub record AnswersOrder (order : Order) (manner : Manner) (reader before after said_before said_after : Known) (status : ℕ) : Type 0 where
    pub outcome : Outcome
    pub reads : Option ℕ
    pub completes : Completes order reader before after outcome
    pub is_status : status ≡ status_after manner.least_reads reads (status_of_outcome outcome)
    pub said : SaysCounts (wants_counts manner) said_before said_after

module _ (may : Fault → Type 0) (label : Option (List ℕ)) (at_terminal : Bool) where
  -- it failed: nothing was written, but where the writer failed, and why is said
  pub record RefusesOrder (order : Order) (detail : Detail) (reader before after said_before said_after : Known) (status : ℕ) : Type 0 where
    pub error : RunError
    pub fails : Fails order reader error
    pub unwritten : error ≢ failures.WriteFault → after ≡ before
    pub blamed : MayFail may error
    pub refuses : Refuses label at_terminal detail (refusal_for (form_for order) error) error said_before said_after status

  abbrev pub EndsOrder : Order → Detail → Manner → Known → Known → Known → Known → Known → ℕ → Type 0
  EndsOrder order detail manner reader before after said_before said_after status =
      AnswersOrder label at_terminal order manner reader before after said_before said_after status
      ⊎ RefusesOrder order detail reader before after said_before said_after status

module _ (label : Option (List ℕ)) where
  -- the history in each line of an input was judged, and each line has its answer; beside the answers the remarks on the lines are said
  pub record AnswersLines (judging : LineJudging) (reader before after said_before said_after : Known) (status : ℕ) : Type 0 where
    pub outcome : Outcome
    pub answered : AllAreAnswered (IsLineAnswer judging) reader before after outcome
    pub is_status : status ≡ status_of_outcome outcome
    pub said : SaysLineRemarks label judging.blank reader said_before said_after

module _ (may : Fault → Type 0) (label : Option (List ℕ)) where
  -- it failed: some first lines were answered, but where the writer failed, and why is said
  pub record FailsLines (judging : LineJudging) (reader before after said_before said_after : Known) (status : ℕ) : Type 0 where
    pub error : RunError
    pub is_fault : (error ≡ failures.Memory) ⊎ ((error ≡ failures.ReadFault) ⊎ (error ≡ failures.WriteFault))
    pub first : error ≢ failures.WriteFault → FirstAreAnswered (IsLineAnswer judging) reader before after
    pub blamed : MayFail may error
    pub tells : Tells label error said_before said_after status

  abbrev pub EndsLines : LineJudging → Known → Known → Known → Known → Known → ℕ → Type 0
  EndsLines judging reader before after said_before said_after status =
      AnswersLines label judging reader before after said_before said_after status ⊎ FailsLines judging reader before after said_before said_after status

-- where the last cut of a log is not as expected: how to see why
abbrev pub explained_cut : List ℕ
explained_cut = codes "the last line begins with a number of events: head -n NUMBER FILE | causal_judge explain - says why"

abbrev pub is_excluded : Outcome → Bool
is_excluded Excluded = true
is_excluded _ = false

module _ (label : Option (List ℕ)) where
  abbrev pub cut_remark : LogOrder → Outcome → List ℕ
  cut_remark order outcome = if is_some (every_in order) && is_excluded outcome then said_lines label explained_cut else []

  -- where a cut comes between a read and the write that it read: on which lines these are, if memory suffices to say so
  abbrev pub IsLateRemark : Option LateWrite → List ℕ → Type 0
  IsLateRemark None text = text ≡ []
  IsLateRemark (Some late) text = (text ≡ []) ⊎ (text ≡ said_lines label
      (codes "line " ++ (decimal late.read ++ (codes " reads a value whose write begins on line " ++ (decimal late.write ++ codes ": this log is not in the order of time")))))

  -- where the last line of a log is not whole
  abbrev pub torn_remark : Bool → List ℕ
  torn_remark torn = if torn then said_lines label (codes "last line is not whole: passed over") else []

  -- what is said of a log that was followed
  abbrev pub SaysRemarks : LogOrder → Followed → Known → Known → Type 0
  SaysRemarks order followed before after =
      (late : List ℕ) × IsLateRemark followed.late late × Appends before after (cut_remark order followed.outcome ++ (late ++ torn_remark followed.torn))

  -- and then perhaps of how much its run asks
  pub record SaysOfLog (order : LogOrder) (wanted : Bool) (followed : Followed) (before after : Known) : Type 0 where
    pub late : List ℕ
    pub counts : List ℕ
    pub is_late : IsLateRemark followed.late late
    pub is_counts : wanted ≡ false → counts ≡ []
    pub said : Appends before after ((cut_remark order followed.outcome ++ (late ++ torn_remark followed.torn)) ++ counts)

  -- an order on a log was carried out
  pub record AnswersLogOrder (order : LogOrder) (manner : Manner) (reader before after said_before said_after : Known) (status : ℕ) : Type 0 where
    pub followed : Followed
    pub left : Known
    pub reads : Option ℕ
    pub follows : FollowsLog order reader left before after followed
    pub is_status : status ≡ status_after manner.least_reads reads (status_of_outcome followed.outcome)
    pub said : SaysOfLog order (wants_counts manner) followed said_before said_after

  -- why a log has no answer is said in lines, and this is its status
  abbrev pub TellsOfLog : LogError → Known → Known → ℕ → Type 0
  TellsOfLog error before after status =
      ((told : List ℕ) × (status ≡ status_for error) × Appends before after (said_lines label (lines_for error told))) ⊎ LacksMemory label before after status

  -- the page of a log was written
  pub record ShowsLog (most : ℕ) (reader before after said_before said_after : Known) (status : ℕ) : Type 0 where
    pub torn : Bool
    pub writes : WritesPage MAX_INPUT_BYTES (IsPageOfLog most torn) reader before after
    pub is_status : status ≡ 0
    pub said : Appends said_before said_after (torn_remark torn)

module _ (may : Fault → Type 0) (label : Option (List ℕ)) where
  -- it failed: nothing was written, or with a number of events some first cuts, each as expected; but where the writer failed
  pub record RefusesLog (order : LogOrder) (reader before after said_before said_after : Known) (status : ℕ) : Type 0 where
    pub error : LogError
    pub is_error : IsLogError reader error
    pub unwritten : every_in order ≡ None → error ≢ log_failures.WriteFault → after ≡ before
    pub first_cuts : (every : ℕ) → every_in order ≡ Some every → error ≢ log_failures.WriteFault
        → WritesFirstCuts every (expected_in order) reader before after
    pub refused : (every : ℕ) → every_in order ≡ Some every → RefusesLate every (expected_in order) reader before after error
    pub blamed : MayFailOnLog may error
    pub tells : TellsOfLog label error said_before said_after status

  abbrev pub EndsLog : LogOrder → Manner → Known → Known → Known → Known → Known → ℕ → Type 0
  EndsLog order manner reader before after said_before said_after status =
      AnswersLogOrder label order manner reader before after said_before said_after status ⊎ RefusesLog order reader before after said_before said_after status

module _ (label : Option (List ℕ)) (at_terminal : Bool) where
  -- why there is no page of a log is said
  abbrev pub TellsOfPage : PageError → Known → Known → ℕ → Type 0
  TellsOfPage (page_failures.Log error) before after status = TellsOfLog label error before after status
  TellsOfPage page_failures.TooLong before after status =
      Refuses label at_terminal Reason (refusal_for forms.History failures.TooLong) failures.TooLong before after status

  -- the page of a history was written
  pub record ShowsInput (most : ℕ) (long : Length) (reader before after said_before said_after : Known) (status : ℕ) : Type 0 where
    pub writes : WritesPage (most_bytes long) (IsPageOfInput most long) reader before after
    pub is_status : status ≡ 0
    pub quiet : said_after ≡ said_before

module _ (may : Fault → Type 0) (label : Option (List ℕ)) (at_terminal : Bool) where
  -- there is none, and why is said
  pub record RefusesLogPage (most : ℕ) (reader before after said_before said_after : Known) (status : ℕ) : Type 0 where
    pub error : PageError
    pub fails : FailsToWrite most reader error
    pub unwritten : error ≢ page_failures.Log log_failures.WriteFault → after ≡ before
    pub blamed : MayFailOnPage may error
    pub tells : TellsOfPage label at_terminal error said_before said_after status

  abbrev pub EndsLogPage : ℕ → Known → Known → Known → Known → Known → ℕ → Type 0
  EndsLogPage most reader before after said_before said_after status =
      ShowsLog label most reader before after said_before said_after status
      ⊎ RefusesLogPage most reader before after said_before said_after status

  -- it was not, and why is said
  pub record RefusesInputPage (most : ℕ) (long : Length) (detail : Detail) (reader before after said_before said_after : Known) (status : ℕ) : Type 0 where
    pub error : RunError
    pub fails : Fails (listing_order most long) reader error
    pub unwritten : error ≢ failures.WriteFault → after ≡ before
    pub blamed : MayFail may error
    pub refuses : Refuses label at_terminal detail (refusal_for (history_form long) error) error said_before said_after status

  abbrev pub EndsPageOf : PageOf → ℕ → Detail → Known → Known → Known → Known → Known → ℕ → Type 0
  EndsPageOf (pages.Input long) most detail reader before after said_before said_after status =
      ShowsInput label at_terminal most long reader before after said_before said_after status
      ⊎ RefusesInputPage most long detail reader before after said_before said_after status
  EndsPageOf pages.Log most detail reader before after said_before said_after status = EndsLogPage most reader before after said_before said_after status

  abbrev pub EndsPage : Page → Detail → Known → Known → Known → Known → Known → ℕ → Type 0
  EndsPage page detail reader before after said_before said_after status =
      EndsPageOf page.of page.most detail reader before after said_before said_after status

  -- the lines of an input are judged one after the other where that is the order, and else it is read whole
  abbrev pub EndsInput : Order → Detail → Manner → Known → Known → Known → Known → Known → ℕ → Type 0
  EndsInput order detail manner reader before after said_before said_after status =
      (IsOfWhole order × EndsOrder may label at_terminal order detail manner reader before after said_before said_after status)
      ⊎ ((judging : LineJudging) × (order ≡ JudgeLines judging) × EndsLines may label judging reader before after said_before said_after status)

  -- a task is carried out, whatever it is
  abbrev pub EndsTask : Task → Manner → Known → Known → Known → Known → Known → ℕ → Type 0
  EndsTask (OfInput order detail) manner reader before after said_before said_after status =
      EndsInput order detail manner reader before after said_before said_after status
  EndsTask (OfLog order) manner reader before after said_before said_after status =
      EndsLog may label order manner reader before after said_before said_after status
  EndsTask (OfPage page detail) manner reader before after said_before said_after status =
      EndsPage page detail reader before after said_before said_after status

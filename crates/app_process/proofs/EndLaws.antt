-- How a run of one task ends, by what its parts promise.
use Rattle.std.specs.Prelude.{◌≡◌, ◌≢◌, ◌⊎◌, ℕ, List, [], Bool, true, false, Option, Some, None, Result, Ok, Err, IfOk, IfErr, OnOk, refl}
use Rattle.std.specs.Io.KnownBytes.{Appends}
use Rattle.std.proofs.Common.{inl, inr, ap, sym, subst, ◌∙◌}
use Rattle.app_orders.specs.declared.detail.Detail.{Detail}
use Rattle.app_orders.specs.declared.line_judging.LineJudging.{LineJudging}
use Rattle.app_orders.specs.declared.log_order.LogOrder.{LogOrder}
use Rattle.app_orders.specs.declared.manner.Manner.{Manner}
use Rattle.app_orders.specs.declared.order.Order.{Order}
use Rattle.json_lines.specs.declared.outcome.Outcome.{Outcome}
use Rattle.json_lines.specs.Lines.{AllAreAnswered, FirstAreAnswered}
use Rattle.json_lines.specs.Outcomes.{status_of_outcome}
use Rattle.app_engine.specs.declared.failure.RunError.{RunError}
use Rattle.app_engine.specs.declared.failure.RunError.TheVariants as failures
use Rattle.app_engine.specs.LineAnswers.{IsLineAnswer}
use Rattle.app_engine.specs.Running.{Completes, Fails}
use Rattle.app_logs.specs.declared.failure.LogError.{LogError}
use Rattle.app_logs.specs.declared.failure.LogError.TheVariants as log_failures
use Rattle.app_logs.specs.declared.following.Followed.{Followed}
use Rattle.app_logs.specs.declared.late_writes.LateWrite.{LateWrite}
use Rattle.app_logs.specs.LogAnswers.{FollowsLog, IsLogError, RefusesLate, WritesFirstCuts, every_in, expected_in}
use Rattle.app_process.specs.Endings.{EndsLines, EndsLog, EndsOrder, IsLateRemark, SaysCounts, SaysRemarks, TellsOfLog, cut_remark, torn_remark}
use Rattle.json_lines.specs.declared.fault.Fault.{Fault}
use Rattle.app_process.specs.Faults.{MayFail, MayFailOnLog}
use Rattle.app_process.specs.Failing.{Refuses, form_for, refusal_for}
use Rattle.app_process.specs.Saying.{SaysSome}
use Rattle.app_process.specs.Statuses.{status_after, wants_counts}
use Rattle.app_process.specs.declared.noticing.Noticed.{Noticed}
use Rattle.app_process.specs.Steps.LineOutcomes.{SaysOutcome}
use Rattle.app_process.specs.Steps.Noticing.{HasNoticed, nothing}
use Rattle.app_process.proofs.NoticingLaws.{noticed_is_said}
use Rattle.app_process.proofs.SaidLaws as laws

-- nothing is said of counts that are not wanted
pub no_counts : (wanted : Bool) (a : Option (List ℕ)) → SaysCounts wanted a a
no_counts wanted a = ([], laws.appends_nothing a, λ e. refl)

pub some_counts : (wanted : Bool) (a b : Option (List ℕ)) → wanted ≡ true → SaysSome a b → SaysCounts wanted a b
some_counts true a b wanted said = (said.0, said.1, λ e. cc)
some_counts false a b wanted said = cc

module _ {may : Fault → Type 0} (label : Option (List ℕ)) (at_terminal : Bool) where
  pub answers_order : (order : Order) (detail : Detail) (manner : Manner) (reader before after said_before said_after : Option (List ℕ)) (status from : ℕ)
      (outcome : Outcome) → Completes order reader before after outcome → from ≡ status_of_outcome outcome
      → (reads : Option ℕ) × (status ≡ status_after manner.least_reads reads from) → SaysCounts (wants_counts manner) said_before said_after
      → EndsOrder may label at_terminal order detail manner reader before after said_before said_after status
  answers_order order detail manner reader before after said_before said_after status from outcome completes is_from counted says =
      inl (record {
        outcome = outcome;
        reads = counted.0;
        completes = completes;
        is_status = counted.1 ∙ ap (λ s. status_after manner.least_reads counted.0 s) is_from;
        said = says;
      })

  pub refuses_order : {W : Type 0} (contents : W → Option (List ℕ)) (old new : W) (order : Order) (detail : Detail) (manner : Manner)
      (reader said_before said_after : Option (List ℕ)) (status : ℕ) (error : RunError) → Fails order reader error → MayFail may error
      → (error ≢ failures.WriteFault → new ≡ old)
      → Refuses label at_terminal detail (refusal_for (form_for order) error) error said_before said_after status
      → EndsOrder may label at_terminal order detail manner reader (contents old) (contents new) said_before said_after status
  refuses_order contents old new order detail manner reader said_before said_after status error fails blamed unwritten refuses =
      inr (record {
        error = error;
        fails = fails;
        blamed = blamed;
        unwritten = λ n. ap contents (unwritten n);
        refuses = refuses;
      })

module _ {may : Fault → Type 0} (label : Option (List ℕ)) where
  -- of lines that were judged, by what is known of the reader and of what was noticed
  pub ends_lines : (judging : LineJudging) (inner reader before after said_before said_after : Option (List ℕ)) (status : ℕ)
      (outcome : Result Outcome RunError) (start noticed : Noticed) → IfOk outcome (AllAreAnswered (IsLineAnswer judging) inner before after)
      → IfErr outcome (λ error. error ≢ failures.WriteFault → FirstAreAnswered (IsLineAnswer judging) inner before after)
      → IfErr outcome (λ error. (error ≡ failures.Memory) ⊎ ((error ≡ failures.ReadFault) ⊎ (error ≡ failures.WriteFault)))
      → IfErr outcome (MayFail may) → OnOk outcome (HasNoticed start inner noticed) → start ≡ nothing judging.blank → inner ≡ reader
      → SaysOutcome label noticed outcome said_before said_after status → EndsLines may label judging reader before after said_before said_after status
  ends_lines judging inner reader before after said_before said_after status (Ok outcome) start noticed answered first is_fault blamed whole is_start is_reader said =
      let P : Option (List ℕ) → Type 0 = λ known. AllAreAnswered (IsLineAnswer judging) known before after outcome in
      inl (record {
        outcome = outcome;
        answered = subst P is_reader answered;
        is_status = said.0;
        said = noticed_is_said label judging.blank inner reader said_before said_after start noticed is_start is_reader whole said.1;
      })
  ends_lines judging inner reader before after said_before said_after status (Err error) start noticed answered first is_fault blamed whole is_start is_reader said =
      let P : Option (List ℕ) → Type 0 = λ known. error ≢ failures.WriteFault → FirstAreAnswered (IsLineAnswer judging) known before after in
      inr (record { error = error; is_fault = is_fault; first = subst P is_reader first; blamed = blamed; tells = said })

-- what is said of a log, piece by piece
module _ (label : Option (List ℕ)) where
  pub no_late : (late : Option LateWrite) (a : Option (List ℕ)) → late ≡ None
      → (text : List ℕ) × IsLateRemark label late text × Appends a a text
  no_late late a none = let P : Option LateWrite → Type 0 = λ l. (text : List ℕ) × IsLateRemark label l text × Appends a a text in
      subst P (sym none) ([], refl, laws.appends_nothing a)

  pub says_remarks : (order : LogOrder) (followed : Followed) (a b c d : Option (List ℕ)) → Appends a b (cut_remark label order followed.outcome)
      → (text : List ℕ) × IsLateRemark label followed.late text × Appends b c text → Appends c d (torn_remark label followed.torn)
      → SaysRemarks label order followed a d
  says_remarks order followed a b c d cut late torn = (late.0, late.1, laws.said_after a b c d _ late.0 _ cut late.2 torn)

module _ {may : Fault → Type 0} (label : Option (List ℕ)) where
  pub answers_log : (order : LogOrder) (manner : Manner) (reader left before after said_before between said_after : Option (List ℕ)) (status from : ℕ)
      (followed : Followed) → FollowsLog order reader left before after followed → from ≡ status_of_outcome followed.outcome
      → SaysRemarks label order followed said_before between
      → (reads : Option ℕ) × (status ≡ status_after manner.least_reads reads from) → SaysCounts (wants_counts manner) between said_after
      → EndsLog may label order manner reader before after said_before said_after status
  answers_log order manner reader left before after said_before between said_after status from followed follows is_from remarks counted counts =
      inl (record {
        followed = followed;
        left = left;
        reads = counted.0;
        follows = follows;
        is_status = counted.1 ∙ ap (λ s. status_after manner.least_reads counted.0 s) is_from;
        said = record {
          late = remarks.0;
          counts = counts.0;
          is_late = remarks.1;
          is_counts = counts.2;
          said = laws.appends_both said_before between said_after _ counts.0 remarks.2 counts.1;
        };
      })

  pub refuses_log : {W : Type 0} (contents : W → Option (List ℕ)) (old new : W) (order : LogOrder) (manner : Manner)
      (reader said_before said_after : Option (List ℕ)) (status : ℕ) (error : LogError) → IsLogError reader error → MayFailOnLog may error
      → (every_in order ≡ None → error ≢ log_failures.WriteFault → new ≡ old)
      → ((every : ℕ) → every_in order ≡ Some every → error ≢ log_failures.WriteFault
      → WritesFirstCuts every (expected_in order) reader (contents old) (contents new))
      → ((every : ℕ) → every_in order ≡ Some every → RefusesLate every (expected_in order) reader (contents old) (contents new) error)
      → TellsOfLog label error said_before said_after status
      → EndsLog may label order manner reader (contents old) (contents new) said_before said_after status
  refuses_log contents old new order manner reader said_before said_after status error is_error blamed unwritten first_cuts refused tells =
      inr (record {
        error = error;
        is_error = is_error;
        blamed = blamed;
        unwritten = λ none other. ap contents (unwritten none other);
        first_cuts = first_cuts;
        refused = refused;
        tells = tells;
      })

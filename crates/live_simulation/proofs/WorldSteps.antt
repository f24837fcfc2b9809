-- A step of a session or a sealer leaves the cases, and a step of the cases leaves sessions and sealers.
use Rattle.std.proofs.Common.{◌≡◌, ℕ, List, [], ◌∷◌, ◌++◌, refl, sym, ◌∙◌, ap, subst}
use Rattle.std.specs.Prelude.{Bool, Option, Some, None, Result, Ok, Err, IfOk}
use Rattle.model_history.specs.History.{HistoryValue}
use Rattle.cert_check.specs.declared.criterion.Criterion.{Criterion}
use Rattle.cert_check.specs.declared.certificate.Certificate.{Certificate}
use Rattle.pattern_check.specs.declared.pattern.Pattern.{Pattern}
use Rattle.live_seals.specs.Runs.{Event}
use Rattle.live_simulation.specs.declared.step.StepOf.{StepOf}
use Rattle.live_simulation.specs.declared.step.StepOf.TheVariants.{Begin, End, Start, Look, Show, File}
use Rattle.live_simulation.specs.declared.reply.ReplyOf.{ReplyOf}
use Rattle.live_simulation.specs.declared.reply.ReplyOf.TheVariants.{Refused}
use Rattle.live_simulation.specs.declared.refusal.Refusal.TheVariants.{NoSuch}
use Rattle.live_simulation.specs.Happened.{event, events}
use Rattle.live_simulation.specs.LaneReplies.{IsLaneReply}
use Rattle.live_simulation.specs.Cases.{filed}
use Rattle.live_simulation.specs.BoardReplies.{IsFileReply, IsBoardReply}
use Rattle.live_simulation.specs.Steps.Recordings.{State, Shows, Takes, after}
use Rattle.live_simulation.specs.Steps.KeptCases.{Log, log_of, CasesState, AreCases, TakesOn, Files}
use Rattle.live_simulation.specs.Steps.Worlds.{StepsTo, IsSealIn}
use Rattle.live_simulation.proofs.RunsRecorded.{events_more}
use Rattle.live_simulation.proofs.Logs.{log_after, log_more}
use Rattle.live_simulation.proofs.FiledFiles.{files_stay}
use Rattle.live_simulation.proofs.BoardChanges.{shows_refused}

-- steps of sessions and sealers, and those of workers and the desk's users
module _ {C R : Type 0} where
  abbrev pub IsOfLanes : StepOf C R → Type 0
  IsOfLanes (Begin s c) = Unit {0}
  IsOfLanes (End s r) = Unit {0}
  IsOfLanes (Start told) = Unit {0}
  IsOfLanes (Look z) = Unit {0}
  IsOfLanes (Show z) = Unit {0}
  IsOfLanes _ = ⊥

  abbrev pub IsOfCases : StepOf C R → Type 0
  IsOfCases (Begin s c) = ⊥
  IsOfCases (End s r) = ⊥
  IsOfCases (Start told) = ⊥
  IsOfCases (Look z) = ⊥
  IsOfCases (Show z) = ⊥
  IsOfCases _ = Unit {0}

module _ {C R : Type 0} (H : Type 0) where
  lane_log : (step : StepOf C R) (reply : ReplyOf H) → IsOfLanes step → (l : Log) → log_after step reply l ≡ l
  lane_log (Begin s c) reply is l = refl
  lane_log (End s r) reply is l = refl
  lane_log (Start told) reply is l = refl
  lane_log (Look z) reply is l = refl
  lane_log (Show z) reply is l = refl
  lane_log _ reply is l = absurd is

  lane_files : (step : StepOf C R) (reply : ReplyOf H) → IsOfLanes step → filed step reply ≡ None
  lane_files (Begin s c) reply is = refl
  lane_files (End s r) reply is = refl
  lane_files (Start told) reply is = refl
  lane_files (Look z) reply is = refl
  lane_files (Show z) reply is = refl
  lane_files _ reply is = absurd is

  case_event : (step : StepOf C R) (reply : ReplyOf H) → IsOfCases step → event step reply ≡ None
  case_event (Begin s c) reply is = absurd is
  case_event (End s r) reply is = absurd is
  case_event (Start told) reply is = absurd is
  case_event (Look z) reply is = absurd is
  case_event _ reply is = refl

module _ {S C R : Type 0} (fits : C → R → Bool) (answer : S → List C → C → R) (passes : HistoryValue S C R → Criterion → Pattern → Type 0) where
  module _ (start : S) (k : ℕ) (es : List (StepOf C R × ReplyOf (HistoryValue S C R))) where
    lane_board : (step : StepOf C R) (reply : ReplyOf (HistoryValue S C R)) → IsOfLanes step → IsBoardReply answer passes start k es step reply
    lane_board (Begin s c) reply is = tt
    lane_board (End s r) reply is = tt
    lane_board (Start told) reply is = tt
    lane_board (Look z) reply is = tt
    lane_board (Show z) reply is = tt
    lane_board _ reply is = absurd is

    case_lane : (step : StepOf C R) (reply : ReplyOf (HistoryValue S C R)) → IsOfCases step → IsLaneReply fits start k (events es) step reply
    case_lane (Begin s c) reply is = absurd is
    case_lane (End s r) reply is = absurd is
    case_lane (Start told) reply is = absurd is
    case_lane (Look z) reply is = absurd is
    case_lane (Show z) reply is = absurd is
    case_lane _ reply is = tt

    case_recording : (step : StepOf C R) (reply : ReplyOf (HistoryValue S C R)) → IsOfCases step → (w : State S C R) → Shows start k (events es) w → Shows start k (events (es ++ (step, reply) ∷ [])) w
    case_recording step reply is w shows =
        let same : events (es ++ (step, reply) ∷ []) ≡ events es = events_more es step reply ∙ ap (after (events es)) (case_event (HistoryValue S C R) step reply is) in
        subst (λ (evs : List (Event C R)). Shows start k evs w) (sym same) shows

  module _ (old : State S C R) (was : CasesState S C R) where
    -- a step of a session or a sealer
    pub lane_step : (step : StepOf C R) (reply : ReplyOf (HistoryValue S C R)) (new : State S C R) → IsOfLanes step → Takes fits step old reply new → StepsTo fits answer passes step old was reply new was
    lane_step step reply new is takes start k es shows =
        let t = takes start k (events es) shows.lanes in
        let now : Shows start k (events (es ++ (step, reply) ∷ [])) new = subst (λ (evs : List (Event C R)). Shows start k evs new) (sym (events_more es step reply)) t.1 in (
          (t.0, lane_board start k es step reply is),
          record {
            lanes = now;
            board = record {
              files = files_stay start k es was.files shows.board.files step reply (lane_files (HistoryValue S C R) step reply is) shows.lanes.recorded now.recorded;
              cases = subst (λ (l : Log). AreCases answer l was) (sym (log_more es step reply ∙ lane_log (HistoryValue S C R) step reply is (log_of es))) shows.board.cases;
            };
          },
        )

    -- a step of the cases
    pub case_step : (step : StepOf C R) (reply : ReplyOf (HistoryValue S C R)) (new : CasesState S C R) → IsOfCases step → TakesOn answer passes step was reply new → StepsTo fits answer passes step old was reply old new
    case_step step reply new is takes start k es shows =
        let t = takes start k es shows.board in
        ((case_lane start k es step reply is, t.0), record { lanes = case_recording start k es step reply is old shows.lanes; board = t.1 })

    -- the history of a sealer is filed
    pub file_step : (z : ℕ) (q : Criterion) (x : Option Certificate) (h : HistoryValue S C R) (reply : ReplyOf (HistoryValue S C R)) (new : CasesState S C R) → IsSealIn old z (Some h)
        → Files answer passes h q x was reply new → StepsTo fits answer passes (File z q x) old was reply old new
    file_step z q x h reply new sealed files start k es shows =
        let t = files start k es z shows.board (sealed start k (events es) shows.lanes) in
        ((tt, t.0), record { lanes = case_recording start k es (File z q x) reply tt old shows.lanes; board = t.1 })

    -- there is no history to file
    pub file_none : (z : ℕ) (q : Criterion) (x : Option Certificate) → IsSealIn old z None → StepsTo fits answer passes (File z q x) old was (Refused NoSuch) old was
    file_none z q x none start k es shows = (
      (tt, subst (λ (o : Option (HistoryValue S C R)). IsFileReply es q x o (Refused NoSuch)) (sym (none start k (events es) shows.lanes)) refl),
      record { lanes = case_recording start k es (File z q x) (Refused NoSuch) tt old shows.lanes; board = shows_refused answer start k es (File z q x) NoSuch was shows.board },
    )

    -- the same of a step that is one of these
    pub lane_taken : {E : Type 0} (step this : StepOf C R) (result : Result (ReplyOf (HistoryValue S C R)) E) (new : State S C R) → step ≡ this → IsOfLanes this → IfOk result (λ reply. Takes fits this old reply new)
        → IfOk result (λ reply. StepsTo fits answer passes step old was reply new was)
    lane_taken step this (Ok reply) new e is takes = subst (λ (x : StepOf C R). StepsTo fits answer passes x old was reply new was) (sym e) (lane_step this reply new is takes)
    lane_taken step this (Err x) new e is takes = tt

    pub case_taken_on : {E : Type 0} (step this : StepOf C R) (result : Result (ReplyOf (HistoryValue S C R)) E) (new : CasesState S C R) → step ≡ this → IsOfCases this → IfOk result (λ reply. TakesOn answer passes this was reply new)
        → IfOk result (λ reply. StepsTo fits answer passes step old was reply old new)
    case_taken_on step this (Ok reply) new e is takes = subst (λ (x : StepOf C R). StepsTo fits answer passes x old was reply old new) (sym e) (case_step this reply new is takes)
    case_taken_on step this (Err x) new e is takes = tt

    pub file_taken : {E : Type 0} (z : ℕ) (q : Criterion) (x y : Option Certificate) (h : HistoryValue S C R) (result : Result (ReplyOf (HistoryValue S C R)) E) (new : CasesState S C R) → y ≡ x → IsSealIn old z (Some h)
        → IfOk result (λ reply. Files answer passes h q y was reply new) → IfOk result (λ reply. StepsTo fits answer passes (File z q x) old was reply old new)
    file_taken z q x y h (Ok reply) new e sealed files = subst (λ (o : Option Certificate). StepsTo fits answer passes (File z q o) old was reply old new) e (file_step z q y h reply new sealed files)
    file_taken z q x y h (Err er) new e sealed files = tt

    pub stepped : {E : Type 0} (step this : StepOf C R) (result : Result (ReplyOf (HistoryValue S C R)) E) (new : State S C R) (now : CasesState S C R) → step ≡ this
        → IfOk result (λ reply. StepsTo fits answer passes this old was reply new now) → IfOk result (λ reply. StepsTo fits answer passes step old was reply new now)
    stepped step this (Ok reply) new now e takes = subst (λ (x : StepOf C R). StepsTo fits answer passes x old was reply new now) (sym e) takes
    stepped step this (Err x) new now e takes = tt

-- What happened in a run of the world is a run of sessions and sealers, in which each sealer follows its plan.
use Rattle.std.proofs.Common.{◌≡◌, ℕ, zero, suc, ◌<◌, ◌⊎◌, inl, inr, List, [], ◌∷◌, ◌++◌, length, take, take_all, refl, sym, ◌∙◌, ap, arith, subst}
use Rattle.std.specs.Prelude.{Bool, Option, Some, None, option_map, slice_get}
use Rattle.std.proofs.lemmas.Option.{slice_get_within}
use Rattle.std.proofs.lemmas.List.{take-take}
use Rattle.model_history.specs.History.{HistoryValue}
use Rattle.order_causal.specs.Orders.{op}
use Rattle.cert_check.specs.declared.criterion.Criterion.{Criterion}
use Rattle.pattern_check.specs.declared.pattern.Pattern.{Pattern}
use Rattle.live_cut_plan.specs.declared.cell.Cell.{Cell}
use Rattle.live_cut_plan.specs.Plans.{fresh_plan, after_looks, next_cell}
use Rattle.live_seals.specs.Runs.{Event, begun, ended, sealers, looks}
use Rattle.live_seals.specs.Runs.Event.{Began, Ended, Started, Looked}
use Rattle.live_seals.proofs.Filtered.{take-from}
use Rattle.live_seals.proofs.RunPlaces.{run_none}
use Rattle.live_simulation.specs.declared.refusal.Refusal.{Refusal}
use Rattle.live_simulation.specs.declared.refusal.Refusal.TheVariants.{NoSuch}
use Rattle.live_simulation.specs.declared.step.StepOf.{StepOf}
use Rattle.live_simulation.specs.declared.step.StepOf.TheVariants.{Begin, End, Start, Look}
use Rattle.live_simulation.specs.declared.reply.ReplyOf.{ReplyOf}
use Rattle.live_simulation.specs.declared.reply.ReplyOf.TheVariants.{Done, Sealer, Refused}
use Rattle.live_simulation.specs.Happened.{event, events, began, ended_with, started, looked}
use Rattle.live_simulation.specs.LaneReplies.{unless, begin_refusal, end_refusal, next_of, IsTellable, IsLookReply, IsLaneReply}
use Rattle.live_simulation.specs.Runs.{IsReply, IsRun}
use Rattle.live_simulation.specs.Steps.Recordings.{IsRecorded, after}
use Rattle.live_simulation.proofs.Picked.{picked_not, picked_too}
use Rattle.live_simulation.proofs.Recorded.{recorded_more}
use Rattle.live_simulation.proofs.Sessions.{begin_can, end_can}

-- nothing happened yet
pub recorded_none : {C R : Type 0} (k : ℕ) → IsRecorded {C = C} {R = R} k []
recorded_none k = record { run = run_none k 256; follows = λ z told at. absurd (none z told at) }
  where
    none : (z : ℕ) (told : List ℕ) → slice_get {X = List ℕ} [] z ≡ Some told → ⊥
    none zero told h = cc
    none (suc z) told h = cc

module _ {S C R : Type 0} (fits : C → R → Bool) (start : S) (k : ℕ) (es : List (Event C R)) (was : IsRecorded k es) (reply : ReplyOf (HistoryValue S C R)) where
  begin_recorded : (s : ℕ) (c : C) (o : Option Refusal) → begin_refusal k s (begun s es) (ended s es) ≡ o → reply ≡ unless o (Done (op s (length (begun s es)))) → IsRecorded k (after es (began c reply))
  begin_recorded s c None none e =
      subst (λ (r : ReplyOf (HistoryValue S C R)). IsRecorded k (after es (began c r))) (sym e)
      (recorded_more k es was (Began (op s (length (begun s es))) c) (begin_can k es was.run s c none) tt)
  begin_recorded s c (Some x) some e = subst (λ (r : ReplyOf (HistoryValue S C R)). IsRecorded k (after es (began c r))) (sym e) was

  end_recorded : (s : ℕ) (x : R) (o : Option Refusal) → end_refusal k s (begun s es) (ended s es) fits x ≡ o → reply ≡ unless o (Done (op s (length (ended s es)))) → IsRecorded k (after es (ended_with x reply))
  end_recorded s x None none e =
      subst (λ (r : ReplyOf (HistoryValue S C R)). IsRecorded k (after es (ended_with x r))) (sym e)
      (recorded_more k es was (Ended (op s (length (ended s es))) x) (end_can k es was.run s fits x none) tt)
  end_recorded s x (Some y) some e = subst (λ (r : ReplyOf (HistoryValue S C R)). IsRecorded k (after es (ended_with x r))) (sym e) was

  start_recorded : (told : List ℕ) → ((reply ≡ Sealer (length (sealers es))) × IsTellable k es told) ⊎ ((reply ≡ Refused NoSuch) × ¬ IsTellable k es told) → IsRecorded k (after es (started told reply))
  start_recorded told (inl h) =
      subst (λ (r : ReplyOf (HistoryValue S C R)). IsRecorded k (after es (started told r))) (sym h.0)
      (recorded_more k es was (Started (length (sealers es)) told) (refl, h.1.0, h.1.1) tt)
  start_recorded told (inr h) = subst (λ (r : ReplyOf (HistoryValue S C R)). IsRecorded k (after es (started told r))) (sym h.0) was

  look_refused : (z : ℕ) → reply ≡ Refused NoSuch → IsRecorded k (after es (looked z reply))
  look_refused z e = subst (λ (r : ReplyOf (HistoryValue S C R)). IsRecorded k (after es (looked z r))) (sym e) was

  look_at : (z : ℕ) (told : List ℕ) → slice_get (sealers es) z ≡ Some told → (next : Option Cell) → next_cell (after_looks (fresh_plan k 256 told) (looks z es)) ≡ next
      → IsLookReply es next reply → IsRecorded k (after es (looked z reply))
  look_at z told at None is h = look_refused z h
  look_at z told at (Some cell) is h =
      subst (λ (r : ReplyOf (HistoryValue S C R)). IsRecorded k (after es (looked z r))) (sym h.1)
      (recorded_more k es was (Looked z cell h.0) (slice_get_within (sealers es) z told at, h.2) (λ told' at'.
      let same : Some told ≡ Some told' = sym at ∙ at' in
      let is' : told ≡ told' = cc in
      subst (λ (ts : List ℕ). next_cell (after_looks (fresh_plan k 256 ts) (looks z es)) ≡ Some cell) is' is))

  look_recorded : (z : ℕ) (told : Option (List ℕ)) → slice_get (sealers es) z ≡ told → IsLookReply es (next_of (option_map (λ t. after_looks (fresh_plan k 256 t) (looks z es)) told)) reply
      → IsRecorded k (after es (looked z reply))
  look_recorded z None at h = look_refused z h
  look_recorded z (Some told) at h = look_at z told at (next_cell (after_looks (fresh_plan k 256 told) (looks z es))) refl h

  pub step_recorded : (step : StepOf C R) → IsLaneReply fits start k es step reply → IsRecorded k (after es (event step reply))
  step_recorded (Begin s c) h = begin_recorded s c (begin_refusal k s (begun s es) (ended s es)) refl h
  step_recorded (End s x) h = end_recorded s x (end_refusal k s (begun s es) (ended s es) fits x) refl h
  step_recorded (Start told) h = start_recorded told h
  step_recorded (Look z) h = look_recorded z (slice_get (sealers es) z) refl h
  step_recorded _ h = was

-- what happened with one step more
module _ {C R H : Type 0} where
  pub events_more : (es : List (StepOf C R × ReplyOf H)) (step : StepOf C R) (reply : ReplyOf H) → events (es ++ (step, reply) ∷ []) ≡ after (events es) (event step reply)
  events_more es step reply = by (event step reply) refl
    where
      by : (o : Option (Event C R)) → event step reply ≡ o → events (es ++ (step, reply) ∷ []) ≡ after (events es) o
      by None e = picked_not (λ (x : StepOf C R × ReplyOf H). event x.0 x.1) es (step, reply) e
      by (Some y) e = picked_too (λ (x : StepOf C R × ReplyOf H). event x.0 x.1) es (step, reply) y e

module _ {A : Type 0} where
  pub take_next : (xs : List A) (n : ℕ) (x : A) → slice_get xs n ≡ Some x → take (suc n) xs ≡ take n xs ++ x ∷ []
  take_next [] zero x e = absurd (cc)
  take_next [] (suc n) x e = absurd (cc)
  take_next (y ∷ xs) zero x e = let same : y ≡ x = cc in ap (λ (z : A). z ∷ []) same
  take_next (y ∷ xs) (suc n) x e = ap (λ (zs : List A). y ∷ zs) (take_next xs n x e)

  pub take_end : (xs : List A) (n : ℕ) → slice_get xs n ≡ None → take (suc n) xs ≡ take n xs
  take_end [] zero e = refl
  take_end [] (suc n) e = refl
  take_end (y ∷ xs) zero e = absurd (cc)
  take_end (y ∷ xs) (suc n) e = ap (λ (zs : List A). y ∷ zs) (take_end xs n e)

module _ {S C R : Type 0} (fits : C → R → Bool) (answer : S → List C → C → R) (passes : HistoryValue S C R → Criterion → Pattern → Type 0) (start : S) (k : ℕ) where
  -- a front of a run is a run
  pub run_front : (es : List (StepOf C R × ReplyOf (HistoryValue S C R))) (j : ℕ) → IsRun fits answer passes start k es → IsRun fits answer passes start k (take j es)
  run_front es j run i step reply at =
      let f = take-from j es i (step, reply) at in let l : i < j = f.0 in
      subst (λ (before : List (StepOf C R × ReplyOf (HistoryValue S C R))). IsReply fits answer passes start k before step reply) (sym (take-take i j es (omega arith))) (run i step reply f.1)

  module _ (es : List (StepOf C R × ReplyOf (HistoryValue S C R))) (run : IsRun fits answer passes start k es) where
    front_next : (n : ℕ) (o : Option (StepOf C R × ReplyOf (HistoryValue S C R))) → slice_get es n ≡ o → IsRecorded k (events (take n es)) → IsRecorded k (events (take (suc n) es))
    front_next n None at was = subst (λ (xs : List (StepOf C R × ReplyOf (HistoryValue S C R))). IsRecorded k (events xs)) (sym (take_end es n at)) was
    front_next n (Some e) at was =
        subst (λ (xs : List (StepOf C R × ReplyOf (HistoryValue S C R))). IsRecorded k (events xs)) (sym (take_next es n e at))
        (subst (λ (evs : List (Event C R)). IsRecorded k evs) (sym (events_more (take n es) e.0 e.1))
        (step_recorded fits start k (events (take n es)) was e.1 e.0 (run n e.0 e.1 at).0))

    front_recorded : (n : ℕ) → IsRecorded k (events (take n es))
    front_recorded zero = recorded_none k
    front_recorded (suc n) = front_next n (slice_get es n) refl (front_recorded n)

    pub run_recorded : IsRecorded k (events es)
    run_recorded = subst (λ (xs : List (StepOf C R × ReplyOf (HistoryValue S C R))). IsRecorded k (events xs)) (take_all (length es) es (omega arith)) (front_recorded (length es))

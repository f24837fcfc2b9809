-- The history of a sealer is shown.
use Rattle.std.proofs.Common.{◌≡◌, ℕ, zero, suc, ◌+◌, ◌<◌, ◌≤◌, List, ◌∷◌, length, take, refl, sym, ◌∙◌, ap, arith, subst}
use Rattle.std.specs.Prelude.{Bool, Option, Some, None, option_map, slice_get}
use Rattle.std.proofs.lemmas.Option.{slice_get_within}
use Rattle.model_history.specs.History.{HistoryValue}
use Rattle.live_cut_plan.specs.declared.cell.Cell.{Cell}
use Rattle.live_cut_plan.specs.Plans.{Look, Plan, fresh_plan, after_looks, next_cell, returns_found, calls_found}
use Rattle.live_cut_plan.specs.Walks.{Stands}
use Rattle.live_cut_plan.specs.Steps.PlanStates.{PlanState, state_next}
use Rattle.live_cut_plan.proofs.Standing.{next_is}
use Rattle.live_seals.specs.Runs.{Event, begun, ended, sealers, looks, operations, sealed, sealed_sessions}
use Rattle.live_seals.proofs.FoundPlaces.{looks_are}
use Rattle.live_seals.proofs.TableLemmas.{none_past}
use Rattle.live_simulation.specs.declared.step.StepOf.TheVariants.{Show}
use Rattle.live_simulation.specs.declared.reply.ReplyOf.{ReplyOf}
use Rattle.live_simulation.specs.declared.reply.ReplyOf.TheVariants.{Sealed, Refused}
use Rattle.live_simulation.specs.declared.refusal.Refusal.TheVariants.{NoSuch}
use Rattle.live_simulation.specs.LaneReplies.{seal, sealed_by, sealed_when, show_reply}
use Rattle.live_simulation.specs.Steps.Recordings.{State, Shows, Takes, lane_of, found_lanes, found_in, done_in, if_done}

-- a plan in which no cell is next
is_done : (st st' : PlanState) (o : Option Cell) → if_done st o ≡ Some st' → (st ≡ st') × (o ≡ None)
is_done st st' None e = (let same : st ≡ st' = cc in same, refl)
is_done st st' (Some cell) e = absurd (cc)

not_done : (st : PlanState) (o : Option Cell) → if_done st o ≡ None → (cell : Cell) × (o ≡ Some cell)
not_done st None e = absurd (cc)
not_done st (Some cell) e = (cell, refl)

module _ {S C R : Type 0} (start : S) (k : ℕ) (es : List (Event C R)) (w : State S C R) (shows : Shows start k es w) where
  -- what a plan found is the same of the state as of what happened
  lanes_found : (p : Plan) (s n : ℕ) → found_lanes w p s n ≡ sealed_sessions es p s n
  lanes_found p s zero = refl
  lanes_found p s (suc n) =
      let here : operations (take (calls_found p s) (lane_of w s).0) (take (returns_found p s) (lane_of w s).1) ≡ operations (take (calls_found p s) (begun s es)) (take (returns_found p s) (ended s es)) =
      ap (λ (l : List C × List R). operations (take (calls_found p s) l.0) (take (returns_found p s) l.1)) (shows.lanes s) in
      let behind = lanes_found p (s + 1) n in
      (λ i. here i ∷ behind i)

  planned_lanes : (told : List ℕ) (ls : List Look) → (after_looks (fresh_plan k 256 told) ls).lanes ≡ k
  planned_lanes told ls = ap (λ (p : Plan). p.lanes) (looks_are (fresh_plan k 256 told) ls)

  found_sealed : (p : Plan) → p.lanes ≡ k → found_in w p ≡ sealed start es p
  found_sealed p e =
      let many : length w.lanes ≡ p.lanes = shows.many ∙ sym e in
      let lanes : found_lanes w p 0 (length w.lanes) ≡ sealed_sessions es p 0 p.lanes = ap (λ (n : ℕ). found_lanes w p 0 n) many ∙ lanes_found p 0 p.lanes in
      (λ i. (shows.begins i, lanes i))

  seal_none : (z : ℕ) (a : Option PlanState) (b : Option (List ℕ)) → slice_get w.plans z ≡ a → slice_get (sealers es) z ≡ b → done_in a ≡ None
      → sealed_by start es (option_map (λ told. after_looks (fresh_plan k 256 told) (looks z es)) b) ≡ None
  seal_none z a None at start_at e = refl
  seal_none z None (Some told) at start_at e =
      let past : length w.plans ≤ z = none_past w.plans z at in
      let within : z < length (sealers es) = slice_get_within (sealers es) z told start_at in
      let many : length w.plans ≡ length (sealers es) = shows.as_many in absurd (omega arith)
  seal_none z (Some st) (Some told) at start_at e =
      let p : Plan = after_looks (fresh_plan k 256 told) (looks z es) in
      let n = not_done st (state_next st) e in
      let next : next_cell p ≡ Some n.0 = sym (next_is st p (shows.plans z st told at start_at)) ∙ n.1 in
      ap (sealed_when start es p) next

  seal_some : (z : ℕ) (st : PlanState) (h : HistoryValue S C R) (a : Option PlanState) (b : Option (List ℕ)) → slice_get w.plans z ≡ a → slice_get (sealers es) z ≡ b → done_in a ≡ Some st
      → ((p : Plan) → Stands st p → p.lanes ≡ length w.lanes → h ≡ found_in w p)
      → sealed_by start es (option_map (λ told. after_looks (fresh_plan k 256 told) (looks z es)) b) ≡ Some h
  seal_some z st h None b at start_at e found = absurd (cc)
  seal_some z st h (Some st') None at start_at e found =
      let past : length (sealers es) ≤ z = none_past (sealers es) z start_at in
      let within : z < length w.plans = slice_get_within w.plans z st' at in
      let many : length w.plans ≡ length (sealers es) = shows.as_many in absurd (omega arith)
  seal_some z st h (Some st') (Some told) at start_at e found =
      let p : Plan = after_looks (fresh_plan k 256 told) (looks z es) in
      let d = is_done st' st (state_next st') e in
      let stands : Stands st' p = shows.plans z st' told at start_at in
      let next : next_cell p ≡ None = sym (next_is st' p stands) ∙ d.1 in
      let lanes : p.lanes ≡ k = planned_lanes told (looks z es) in
      let is : h ≡ found_in w p = found p (subst (λ (x : PlanState). Stands x p) d.0 stands) (lanes ∙ sym shows.many) in
      ap (sealed_when start es p) next ∙ ap {B = Option (HistoryValue S C R)} (λ (x : HistoryValue S C R). Some x) (sym (is ∙ found_sealed p lanes))

  -- the seal of a sealer in whose plan no cell is next, and of another
  pub not_sealed : (z : ℕ) → done_in (slice_get w.plans z) ≡ None → seal start k es z ≡ None
  not_sealed z e = seal_none z (slice_get w.plans z) (slice_get (sealers es) z) refl refl e

  pub is_sealed : (z : ℕ) (st : PlanState) (h : HistoryValue S C R) → done_in (slice_get w.plans z) ≡ Some st → ((p : Plan) → Stands st p → p.lanes ≡ length w.lanes → h ≡ found_in w p) → seal start k es z ≡ Some h
  is_sealed z st h e found = seal_some z st h (slice_get w.plans z) (slice_get (sealers es) z) refl refl e found

module _ {S C R : Type 0} (fits : C → R → Bool) (w : State S C R) (z : ℕ) where
  pub show_refused : done_in (slice_get w.plans z) ≡ None → Takes fits (Show z) w (Refused NoSuch) w
  show_refused e start k es shows = (sym (ap {B = ReplyOf (HistoryValue S C R)} (λ (o : Option (HistoryValue S C R)). show_reply o) (not_sealed start k es w shows z e)), shows)

  pub show_done : (st : PlanState) (h : HistoryValue S C R) → done_in (slice_get w.plans z) ≡ Some st → ((p : Plan) → Stands st p → p.lanes ≡ length w.lanes → h ≡ found_in w p)
      → Takes fits (Show z) w (Sealed h) w
  show_done st h e found start k es shows = (sym (ap {B = ReplyOf (HistoryValue S C R)} (λ (o : Option (HistoryValue S C R)). show_reply o) (is_sealed start k es w shows z st h e found)), shows)

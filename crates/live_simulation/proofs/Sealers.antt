-- Sealers start and look: what the state shows behind these steps.
use Rattle.std.proofs.Common.{◌≡◌, ℕ, ◌+◌, ◌<◌, ◌≤◌, inl, inr, List, [], ◌∷◌, ◌++◌, length, refl, sym, ◌∙◌, ap, arith, subst, set, length-set}
use Rattle.std.specs.Prelude.{◌↔◌, Bool, true, Option, Some, None, option_map, slice_get, slice_index}
use Rattle.std.proofs.lemmas.Bool.{cases_eq, ltb-true, lt-ltb}
use Rattle.std.proofs.lemmas.List.{length-append}
use Rattle.std.proofs.lemmas.Option.{slice_get_within}
use Rattle.model_history.specs.History.{HistoryValue}
use Rattle.live_recorder.proofs.Telling.{get_push_cases}
use Rattle.live_cut_plan.specs.declared.cell.Cell.{Cell}
use Rattle.live_cut_plan.specs.declared.cell.Cell.TheVariants.{Return, Call}
use Rattle.live_cut_plan.specs.Plans.{Look, Plan, fresh_plan, after_looks, looked_at, next_cell}
use Rattle.live_cut_plan.specs.Walks.{Stands}
use Rattle.live_cut_plan.specs.Steps.PlanStates.{PlanState}
use Rattle.live_cut_plan.proofs.ListPlaces.{get_set_same, get_set_other}
use Rattle.live_cut_plan.proofs.Standing.{next_is}
use Rattle.live_seals.specs.Runs.{Event, call_of, return_of, counts_of, look_of, begun, ended, sealers, looks, IsFull}
use Rattle.live_seals.specs.Runs.Event.{Started, Looked}
use Rattle.live_seals.proofs.RunPlaces.{begun_counted, begun_there, ended_counted, ended_there}
use Rattle.live_seals.proofs.TableLemmas.{none_past}
use Rattle.live_simulation.specs.declared.step.StepOf.TheVariants.{Start, Look as Looking}
use Rattle.live_simulation.specs.declared.reply.ReplyOf.{ReplyOf}
use Rattle.live_simulation.specs.declared.reply.ReplyOf.TheVariants.{Sealer, Found, Refused}
use Rattle.live_simulation.specs.declared.refusal.Refusal.TheVariants.{NoSuch}
use Rattle.live_simulation.specs.LaneReplies.{IsTellable, IsLookReply, plan, next_of}
use Rattle.live_simulation.specs.Steps.Recordings.{State, Shows, Takes, Gave, IsTellableIn, lane_of, with_plan, with_look, is_full_in, next_in}
use Rattle.live_simulation.proofs.Picked.{picked_not, picked_too, looks_here, looks_elsewhere}
use Rattle.live_simulation.proofs.Recorded.{recorded_more, quiet, after_last}

same_some : {A : Type 0} (x : Option A) (a b : A) → x ≡ Some a → x ≡ Some b → a ≡ b
same_some x a b e f = let h : Some a ≡ Some b = sym e ∙ f in cc

module _ {S C R : Type 0} (start : S) (k : ℕ) (es : List (Event C R)) (w : State S C R) (shows : Shows start k es w) where
  -- behind an event of a sealer
  lanes_stay : (e : Event C R) → ((s : ℕ) → call_of s e ≡ None) → ((s : ℕ) → return_of s e ≡ None) → (s : ℕ) → lane_of w s ≡ (begun s (es ++ e ∷ []), ended s (es ++ e ∷ []))
  lanes_stay e no_call no_return s =
      let cs : begun s es ≡ begun s (es ++ e ∷ []) = sym (picked_not (call_of s) es e (no_call s)) in
      let rs : ended s es ≡ ended s (es ++ e ∷ []) = sym (picked_not (return_of s) es e (no_return s)) in
      shows.lanes s ∙ (λ i. (cs i, rs i))

  -- what may be told is the same of the state as of what happened
  tellable : (told : List ℕ) → IsTellableIn w told → IsTellable k es told
  tellable told t = (t.0 ∙ shows.many, λ s. subst (λ (l : List C × List R). slice_index told s ≤ length l.1) (shows.lanes s) (t.1 s))

  tellable_in : (told : List ℕ) → IsTellable k es told → IsTellableIn w told
  tellable_in told t = (t.0 ∙ sym shows.many, λ s. subst (λ (l : List C × List R). slice_index told s ≤ length l.1) (sym (shows.lanes s)) (t.1 s))

  start_shows : (told : List ℕ) (st : PlanState) → IsTellableIn w told → Stands st (fresh_plan (length w.lanes) 256 told)
      → Shows start k (es ++ Started (length (sealers es)) told ∷ []) (with_plan w st)
  start_shows told st t stands =
      let e : Event C R = Started (length (sealers es)) told in
      let more : sealers (es ++ Started (length (sealers es)) told ∷ []) ≡ sealers es ++ told ∷ [] = picked_too counts_of es (Started (length (sealers es)) told) told refl in
      let can = tellable told t in
      let many : length w.plans ≡ length (sealers es) = shows.as_many in
      record {
        begins = shows.begins;
        many = shows.many;
        lanes = lanes_stay (Started (length (sealers es)) told) (λ s. refl) (λ s. refl);
        recorded = recorded_more k es shows.recorded (Started (length (sealers es)) told) (refl, can.0, can.1) tt;
        as_many = length-append w.plans (st ∷ []) ∙ (ap (λ (n : ℕ). n + 1) many ∙ (sym (length-append (sealers es) (told ∷ [])) ∙ ap length (sym more)));
        plans = λ z st' told' at start_at.
            let at' : slice_get (sealers es ++ told ∷ []) z ≡ Some told' = subst (λ (ts : List (List ℕ)). slice_get ts z ≡ Some told') more start_at in
            let same : looks z (es ++ Started (length (sealers es)) told ∷ []) ≡ looks z es = picked_not (look_of z) es (Started (length (sealers es)) told) refl in
            subst (λ (ls : List Look). Stands st' (after_looks (fresh_plan k 256 told') ls)) (sym same)
            (elim (get_push_cases w.plans st z st' at) [
              | inl old ↦ elim (get_push_cases (sealers es) told z told' at') [
                | inl before ↦ shows.plans z st' told' old before
                | inr last ↦
                    let within : z < length w.plans = slice_get_within w.plans z st' old in
                    let end : z ≡ length (sealers es) = last.0 in absurd (omega arith)
              ]
              | inr new ↦ elim (get_push_cases (sealers es) told z told' at') [
                | inl before ↦
                    let within : z < length (sealers es) = slice_get_within (sealers es) z told' before in
                    let end : z ≡ length w.plans = new.0 in absurd (omega arith)
                | inr last ↦
                    let none : looks z es ≡ [] = quiet k es shows.recorded.run z (let end : z ≡ length (sealers es) = last.0 in omega arith) in
                    let fresh : Stands st (fresh_plan k 256 told) = subst (λ (n : ℕ). Stands st (fresh_plan n 256 told)) shows.many stands in
                    subst (λ (ls : List Look). Stands st' (after_looks (fresh_plan k 256 told') ls)) (sym none)
                    (subst (λ (x : PlanState). Stands x (fresh_plan k 256 told')) new.1 (subst (λ (ts : List ℕ). Stands st (fresh_plan k 256 ts)) last.1 fresh))
              ]
            ]);
      }

  -- the cell that is next is the same of the state as of what happened
  next_same : (z : ℕ) (a : Option PlanState) (b : Option (List ℕ)) → slice_get w.plans z ≡ a → slice_get (sealers es) z ≡ b
      → next_in a ≡ next_of (option_map (λ told. after_looks (fresh_plan k 256 told) (looks z es)) b)
  next_same z None None at start_at = refl
  next_same z None (Some told) at start_at =
      let past : length w.plans ≤ z = none_past w.plans z at in
      let within : z < length (sealers es) = slice_get_within (sealers es) z told start_at in
      let many : length w.plans ≡ length (sealers es) = shows.as_many in absurd (omega arith)
  next_same z (Some st) None at start_at =
      let past : length (sealers es) ≤ z = none_past (sealers es) z start_at in
      let within : z < length w.plans = slice_get_within w.plans z st at in
      let many : length w.plans ≡ length (sealers es) = shows.as_many in absurd (omega arith)
  next_same z (Some st) (Some told) at start_at = next_is st (after_looks (fresh_plan k 256 told) (looks z es)) (shows.plans z st told at start_at)

  pub next_planned : (z : ℕ) → next_in (slice_get w.plans z) ≡ next_of (plan k es z)
  next_planned z = next_same z (slice_get w.plans z) (slice_get (sealers es) z) refl refl

  -- a cell is full in the state exactly where it is full by what happened
  full_same : (cell : Cell) → (is_full_in w cell ≡ true) ↔ IsFull es cell
  full_same (Return o) =
      let many : length (lane_of w o.session).1 ≡ length (ended o.session es) = ap (λ (l : List C × List R). length l.1) (shows.lanes o.session) in (
        λ full. let less : o.index < length (lane_of w o.session).1 = ltb-true o.index (length (lane_of w o.session).1) full in
            ended_there k 256 es shows.recorded.run o.session o.index (omega arith),
        λ has. let less : o.index < length (ended o.session es) = ended_counted k 256 es shows.recorded.run o has in
            lt-ltb o.index (length (lane_of w o.session).1) (omega arith),
      )
  full_same (Call o) =
      let many : length (lane_of w o.session).0 ≡ length (begun o.session es) = ap (λ (l : List C × List R). length l.0) (shows.lanes o.session) in (
        λ full. let less : o.index < length (lane_of w o.session).0 = ltb-true o.index (length (lane_of w o.session).0) full in
            begun_there k 256 es shows.recorded.run o.session o.index (omega arith),
        λ has. let less : o.index < length (begun o.session es) = begun_counted k 256 es shows.recorded.run o has in
            lt-ltb o.index (length (lane_of w o.session).0) (omega arith),
      )

  look_shows : (z : ℕ) (st next : PlanState) (told : List ℕ) (cell : Cell) (full : Bool) → slice_get w.plans z ≡ Some st → slice_get (sealers es) z ≡ Some told
      → next_cell (after_looks (fresh_plan k 256 told) (looks z es)) ≡ Some cell → ((full ≡ true) ↔ IsFull es cell)
      → ((p : Plan) → Stands st p → Stands next (looked_at p (next_cell p) full)) → Shows start k (es ++ Looked z cell full ∷ []) (with_look w z next)
  look_shows z st next told cell full at start_at named true_look gave =
      let p : Plan = after_looks (fresh_plan k 256 told) (looks z es) in
      let same : sealers (es ++ Looked z cell full ∷ []) ≡ sealers es = picked_not counts_of es (Looked z cell full) refl in
      record {
        begins = shows.begins;
        many = shows.many;
        lanes = lanes_stay (Looked z cell full) (λ s. refl) (λ s. refl);
        recorded = recorded_more k es shows.recorded (Looked z cell full) (slice_get_within (sealers es) z told start_at, true_look)
            (λ told' at'. subst (λ (ts : List ℕ). next_cell (after_looks (fresh_plan k 256 ts) (looks z es)) ≡ Some cell) (same_some (slice_get (sealers es) z) told told' start_at at') named);
        as_many = length-set w.plans z next ∙ (shows.as_many ∙ ap length (sym same));
        plans = λ y st' told' at' start_at'.
            let before : slice_get (sealers es) y ≡ Some told' = subst (λ (ts : List (List ℕ)). slice_get ts y ≡ Some told') same start_at' in
            elim (cases_eq y z) [
              | inl e ↦
                  let ts : told ≡ told' = same_some (slice_get (sealers es) z) told told' start_at (subst (λ (x : ℕ). slice_get (sealers es) x ≡ Some told') e before) in
                  let is : next ≡ st' = same_some (slice_get (set w.plans z next) z) next st' (get_set_same w.plans z next st at) (subst (λ (x : ℕ). slice_get (set w.plans z next) x ≡ Some st') e at') in
                  let now : Stands next (looked_at p (Some cell) full) = subst (λ (x : Option Cell). Stands next (looked_at p x full)) named (gave p (shows.plans z st told at start_at)) in
                  let whole : looks y (es ++ Looked z cell full ∷ []) ≡ looks z es ++ (cell, full) ∷ [] = looks_here es z cell full y (sym e) ∙ ap (λ (x : ℕ). looks x es ++ (cell, full) ∷ []) e in
                  subst (λ (ls : List Look). Stands st' (after_looks (fresh_plan k 256 told') ls)) (sym whole)
                  (subst (λ (x : List ℕ). Stands st' (after_looks (fresh_plan k 256 x) (looks z es ++ (cell, full) ∷ []))) ts
                  (subst (λ (x : PlanState). Stands x (after_looks (fresh_plan k 256 told) (looks z es ++ (cell, full) ∷ []))) is
                  (subst (λ (q : Plan). Stands next q) (sym (after_last (fresh_plan k 256 told) (looks z es) (cell, full))) now)))
              | inr ne ↦
                  subst (λ (ls : List Look). Stands st' (after_looks (fresh_plan k 256 told') ls)) (sym (looks_elsewhere es z cell full y (λ e. ne (sym e))))
                  (shows.plans y st' told' (sym (get_set_other w.plans z y next ne) ∙ at') before)
            ];
      }

module _ {S C R : Type 0} (fits : C → R → Bool) (w : State S C R) where
  pub start_refused : (told : List ℕ) → ¬ IsTellableIn w told → Takes fits (Start told) w (Refused NoSuch) w
  start_refused told not_told start k es shows = (inr (refl, λ t. not_told (tellable_in start k es w shows told t)), shows)

  pub start_done : (told : List ℕ) (st : PlanState) (v : State S C R) → IsTellableIn w told → Stands st (fresh_plan (length w.lanes) 256 told) → v ≡ with_plan w st
      → Takes fits (Start told) w (Sealer (length w.plans)) v
  start_done told st v t stands is start k es shows =
      let many : length w.plans ≡ length (sealers es) = shows.as_many in (
        inl (ap {B = ReplyOf (HistoryValue S C R)} (λ (n : ℕ). Sealer n) many, tellable start k es w shows told t),
        subst (λ (u : State S C R). Shows start k (es ++ Started (length w.plans) told ∷ []) u) (sym is)
            (subst (λ (n : ℕ). Shows start k (es ++ Started n told ∷ []) (with_plan w st)) (sym many) (start_shows start k es w shows told st t stands)),
      )

  pub look_refused : (z : ℕ) → next_in (slice_get w.plans z) ≡ None → Takes fits (Looking z) w (Refused NoSuch) w
  look_refused z none start k es shows =
      let same : None ≡ next_of (plan k es z) = sym none ∙ next_planned start k es w shows z in
      (subst (λ (o : Option Cell). IsLookReply {H = HistoryValue S C R} es o (Refused NoSuch)) same refl, shows)

  pub look_there : (z : ℕ) (cell : Cell) → next_in (slice_get w.plans z) ≡ Some cell → z < length w.plans
  look_there z cell e = by (slice_get w.plans z) refl e
    where
      by : (o : Option PlanState) → slice_get w.plans z ≡ o → next_in o ≡ Some cell → z < length w.plans
      by None at h = absurd (cc)
      by (Some st) at h = slice_get_within w.plans z st at

  pub look_done : (z : ℕ) (cell : Cell) (full : Bool) (v : State S C R) → next_in (slice_get w.plans z) ≡ Some cell → full ≡ is_full_in w cell → Gave w z full v
      → Takes fits (Looking z) w (Found cell full) v
  look_done z cell full v next is gave start k es shows = by (slice_get w.plans z) (slice_get (sealers es) z) refl refl next
    where
      true_look : (full ≡ true) ↔ IsFull es cell
      true_look = let same = full_same start k es w shows cell in (λ e. same.0 (sym is ∙ e), λ h. is ∙ same.1 h)

      by : (a : Option PlanState) (b : Option (List ℕ)) → slice_get w.plans z ≡ a → slice_get (sealers es) z ≡ b → next_in a ≡ Some cell
          → IsLookReply {H = HistoryValue S C R} es (next_of (plan k es z)) (Found cell full) × Shows start k (es ++ Looked z cell full ∷ []) v
      by None b at start_at h = absurd (cc)
      by (Some st) None at start_at h =
          let past : length (sealers es) ≤ z = none_past (sealers es) z start_at in
          let within : z < length w.plans = slice_get_within w.plans z st at in
          let many : length w.plans ≡ length (sealers es) = shows.as_many in absurd (omega arith)
      by (Some st) (Some told) at start_at h =
          let planned : next_in (Some st) ≡ next_cell (after_looks (fresh_plan k 256 told) (looks z es)) = next_same start k es w shows z (Some st) (Some told) at start_at in
          let named : next_cell (after_looks (fresh_plan k 256 told) (looks z es)) ≡ Some cell = sym planned ∙ h in
          let whole : Some cell ≡ next_of (plan k es z) = sym next ∙ next_planned start k es w shows z in
          let g = gave st at in (
            subst (λ (o : Option Cell). IsLookReply {H = HistoryValue S C R} es o (Found cell full)) whole (full, refl, true_look),
            subst (λ (u : State S C R). Shows start k (es ++ Looked z cell full ∷ []) u) (sym g.1) (look_shows start k es w shows z st g.0 told cell full at start_at named true_look g.2),
          )

  pub start_at : (told counts : List ℕ) (n : ℕ) (v : State S C R) → counts ≡ told → n ≡ length w.plans → IsTellableIn w counts
      → ((st : PlanState) × (v ≡ with_plan w st) × Stands st (fresh_plan (length w.lanes) 256 counts)) → Takes fits (Start told) w (Sealer n) v
  start_at told counts n v same many t p =
      subst (λ (x : ℕ). Takes fits (Start told) w (Sealer x) v) (sym many)
      (start_done told p.0 v (subst (λ (ts : List ℕ). IsTellableIn w ts) same t) (subst (λ (ts : List ℕ). Stands p.0 (fresh_plan (length w.lanes) 256 ts)) same p.2) p.1)

-- What a sealer found whose looks followed its plan to the end is a consistent cut of the run.
use Rattle.std.proofs.Common.{◌≡◌, ℕ, ◌-◌, ◌<◌, ◌≤◌, inl, inr, List, [], ◌∷◌, ◌++◌, ◌+◌, zero, suc, length, take, drop, refl, sym, ◌∙◌, ap, subst, arith, take-append-drop, length-take-le}
use Rattle.std.specs.Prelude.{Bool, true, false, Option, Some, None, map, slice_get, slice_index}
use Rattle.std.specs.List.{filter_map}
use Rattle.std.proofs.lemmas.Bool.{cases_lt}
use Rattle.std.proofs.lemmas.List.{take-append-le}
use Rattle.std.proofs.lemmas.Option.{slice_get_within}
use Rattle.model_history.specs.declared.op_id.OpId.{OpId}
use Rattle.model_history.specs.History.{HistoryValue, IsOp, session}
use Rattle.live_recorder.specs.Sessions.{session_operation}
use Rattle.live_cut_plan.specs.declared.cell.Cell.TheVariants.{Call}
use Rattle.live_cut_plan.specs.Plans.{Look, Plan, seen_at, was_full, return_cell, call_cell, returns_found, calls_found, next_return, next_call, next_cell, fresh_plan, after_looks, Follows, IsFinished}
use Rattle.live_cut_plan.specs.Walks.{Stands, WalksToTheEnd}
use Rattle.live_cut_plan.specs.Steps.PlanStates.{PlanState}
use Rattle.live_seals.specs.Runs.{Event, call_of, return_of, look_of, begun, ended, looks, IsAt, IsRun, HasSealed, operations, sealed, sealed_session, sealed_sessions}
use Rattle.live_seals.specs.Runs.Event.{Ended, Started, Looked}
use Rattle.live_seals.specs.Seals.{known_returns}
use Rattle.live_seals.specs.Cuts.{HasReturn, IsConsistentCut}
use Rattle.live_seals.proofs.Filtered.{take-from, take-stands, picked_more, picked_whole, picked_front}
use Rattle.live_seals.proofs.FoundPlaces.{first_from, first_below, full_is, looks_are, returns_over, calls_over, returns_over_at, return_behind, call_behind, returns_stay}
use Rattle.live_seals.proofs.RunPlaces.{run_front, has_place, ended_there, ended_begun, ended_fewer, begun_fits, seen_given, looks_later, empty_return, empty_call, full_return, full_call, begun_by, ended_by, followed_at}
use Rattle.live_seals.proofs.SealedSessions.{operations_calls, operations_many, operations_returns, operations_return, operations_returned, session_at, session_past}

-- the plan of a sealer with these looks
abbrev plan_with : ℕ → ℕ → List ℕ → List Look → Plan
plan_with k cap told ls = record { lanes = k; cap = cap; told = told; looks = ls }

-- what a sealer found by the end of a run
module _ {C R : Type 0} (k cap : ℕ) (es : List (Event C R)) (run : IsRun k cap es) (z b : ℕ) (told : List ℕ) (started : IsAt es b (Started z told)) where
  pub told_ended : (s : ℕ) → slice_index told s ≤ length (ended s es)
  told_ended s =
      let t : slice_index told s ≤ length (ended s (take b es)) = (run b (Started z told) started).2 s in
      let w : length (ended s (take b es)) ≤ length (ended s es) = picked_whole (return_of s) es b in
      omega arith

  -- no more than there is
  pub found_returns : (s : ℕ) → returns_found (plan_with k cap told (looks z es)) s ≤ length (ended s es)
  found_returns s = elim (cases_lt (length (ended s es)) (returns_found (plan_with k cap told (looks z es)) s)) [
    | inl l ↦
        let full = first_below (λ i. was_full (seen_at (looks z es) (return_cell s i))) (cap - slice_index told s) (slice_index told s) (length (ended s es)) (told_ended s) l in
        let g = seen_given k cap es run z (return_cell s (length (ended s es))) true (full_is (seen_at (looks z es) (return_cell s (length (ended s es)))) full) in
        let m : length (ended s es) < length (ended s (take g.0 es)) = full_return k cap es run z g.0 s (length (ended s es)) g.1 in
        let w : length (ended s (take g.0 es)) ≤ length (ended s es) = picked_whole (return_of s) es g.0 in
        absurd (omega arith)
    | inr l ↦ l
  ]

  pub found_calls : (s : ℕ) → calls_found (plan_with k cap told (looks z es)) s ≤ length (begun s es)
  found_calls s = elim (cases_lt (length (begun s es)) (calls_found (plan_with k cap told (looks z es)) s)) [
    | inl l ↦
        let f : returns_found (plan_with k cap told (looks z es)) s ≤ length (ended s es) = found_returns s in let e : length (ended s es) ≤ length (begun s es) = ended_fewer k cap es run s in
        let full = first_below (λ i. was_full (seen_at (looks z es) (call_cell s i))) (cap - returns_found (plan_with k cap told (looks z es)) s) (returns_found (plan_with k cap told (looks z es)) s) (length (begun s es)) (omega arith) l in
        let g = seen_given k cap es run z (call_cell s (length (begun s es))) true (full_is (seen_at (looks z es) (call_cell s (length (begun s es)))) full) in
        let m : length (begun s es) < length (begun s (take g.0 es)) = full_call k cap es run z g.0 s (length (begun s es)) g.1 in
        let w : length (begun s (take g.0 es)) ≤ length (begun s es) = picked_whole (call_of s) es g.0 in
        absurd (omega arith)
    | inr l ↦ l
  ]

module _ {C R : Type 0} (k cap : ℕ) (es : List (Event C R)) (run : IsRun k cap es) (z b : ℕ) (told : List ℕ) (started : IsAt es b (Started z told)) where
  abbrev plan : Plan
  plan = plan_with k cap told (looks z es)

  told_fits : (s : ℕ) → slice_index told s ≤ cap
  told_fits s =
      let t : slice_index told s ≤ length (ended s es) = told_ended k cap es run z b told started s in
      let e : length (ended s es) ≤ length (begun s es) = ended_fewer k cap es run s in let f : length (begun s es) ≤ cap = begun_fits k cap es run s in
      omega arith

  returns_fit : (s : ℕ) → returns_found plan s ≤ cap
  returns_fit s =
      let t : returns_found plan s ≤ length (ended s es) = found_returns k cap es run z b told started s in
      let e : length (ended s es) ≤ length (begun s es) = ended_fewer k cap es run s in let f : length (begun s es) ≤ cap = begun_fits k cap es run s in
      omega arith

  -- at a place before each look that found the cell empty that is behind what was found, no more has been done than was found
  reached_returns : (s j : ℕ) → next_return plan s ≡ None → ((i : ℕ) → IsAt es i (Looked z (return_cell s (returns_found plan s)) false) → j ≤ i) → length (ended s (take j es)) ≤ returns_found plan s
  reached_returns s j over later = elim (cases_lt (returns_found plan s) (length (ended s (take j es)))) [
    | inr l ↦ l
    | inl l ↦
        let l' : returns_found plan s < length (ended s (take j es)) = l in
        let w : length (ended s (take j es)) ≤ length (ended s es) = picked_whole (return_of s) es j in
        let e : length (ended s es) ≤ length (begun s es) = ended_fewer k cap es run s in let f : length (begun s es) ≤ cap = begun_fits k cap es run s in
        let g = seen_given k cap es run z (return_cell s (returns_found plan s)) false (return_behind plan s over (told_fits s) (omega arith)) in
        let m : length (ended s (take g.0 es)) ≤ returns_found plan s = empty_return k cap es run z g.0 s (returns_found plan s) g.1 in
        let n : length (ended s (take j es)) ≤ length (ended s (take g.0 es)) = picked_more (return_of s) es j g.0 (later g.0 g.1) in
        absurd (omega arith)
  ]

  reached_calls : (s j : ℕ) → next_call plan s ≡ None → ((i : ℕ) → IsAt es i (Looked z (call_cell s (calls_found plan s)) false) → j ≤ i) → length (begun s (take j es)) ≤ calls_found plan s
  reached_calls s j over later = elim (cases_lt (calls_found plan s) (length (begun s (take j es)))) [
    | inr l ↦ l
    | inl l ↦
        let l' : calls_found plan s < length (begun s (take j es)) = l in
        let w : length (begun s (take j es)) ≤ length (begun s es) = picked_whole (call_of s) es j in
        let f : length (begun s es) ≤ cap = begun_fits k cap es run s in
        let g = seen_given k cap es run z (call_cell s (calls_found plan s)) false (call_behind plan s over (returns_fit s) (omega arith)) in
        let m : length (begun s (take g.0 es)) ≤ calls_found plan s = empty_call k cap es run z g.0 s (calls_found plan s) g.1 in
        let n : length (begun s (take j es)) ≤ length (begun s (take g.0 es)) = picked_more (call_of s) es j g.0 (later g.0 g.1) in
        absurd (omega arith)
  ]

  -- a look at a call cell comes when all returns that the sealer finds have been given
  returns_given : Follows (fresh_plan k cap told) (looks z es) → (i : ℕ) (o : OpId) (full : Bool) (s : ℕ) → s < k → IsAt es i (Looked z (Call o) full) → returns_found plan s ≤ length (ended s (take i es))
  returns_given follows i o full s l look =
      let before : b < i = looks_later k cap es run z i b told (Call o) full started look in
      let next = followed_at es z (fresh_plan k cap told) follows i (Call o) full look in
      let next' : next_cell (plan_with k cap told (looks z (take i es))) ≡ Some (Call o) = subst (λ (p : Plan). next_cell p ≡ Some (Call o)) (looks_are (fresh_plan k cap told) (looks z (take i es))) next in
      let over = returns_over_at (plan_with k cap told (looks z (take i es))) o next' s l in
      let stay = returns_stay (plan_with k cap told (looks z (take i es))) (looks z (drop i es)) s over (told_fits s) in
      let stay' : returns_found plan s ≤ returns_found (plan_with k cap told (looks z (take i es))) s =
      subst (λ (ls : List Look). returns_found (plan_with k cap told ls) s ≤ returns_found (plan_with k cap told (looks z (take i es))) s) (picked_front (look_of z) es i) stay in
      let found : returns_found (plan_with k cap told (looks z (take i es))) s ≤ length (ended s (take i es)) =
      found_returns k cap (take i es) (run_front k cap es i run) z b told (take-stands i es b (Started z told) before started) s in
      omega arith

  module _ {S : Type 0} (start : S) where
    abbrev history : HistoryValue S C R
    history = sealed start es plan

    here : (s : ℕ) → s < k → session history s ≡ sealed_session es plan s
    here s l = session_at es plan k s l

    past : (s : ℕ) → k ≤ s → session history s ≡ []
    past s l = session_past es plan k 0 s l

    calls_many : (s : ℕ) → length (take (calls_found plan s) (begun s es)) ≡ calls_found plan s
    calls_many s = length-take-le (calls_found plan s) (begun s es) (found_calls k cap es run z b told started s)

    returns_many : (s : ℕ) → length (take (returns_found plan s) (ended s es)) ≡ returns_found plan s
    returns_many s = length-take-le (returns_found plan s) (ended s es) (found_returns k cap es run z b told started s)

    returns_within : (s : ℕ) → length (take (returns_found plan s) (ended s es)) ≤ length (take (calls_found plan s) (begun s es))
    returns_within s =
        let c = calls_many s in let r = returns_many s in
        let f : returns_found plan s ≤ calls_found plan s = first_from (λ i. was_full (seen_at (looks z es) (call_cell s i))) (cap - returns_found plan s) (returns_found plan s) in
        omega arith

    -- the operations of the history, and those that it holds with a return
    has_call : (o : OpId) → o.session < k → o.index < calls_found plan o.session → IsOp history o
    has_call o l m =
        let n : length (session history o.session) ≡ length (take (calls_found plan o.session) (begun o.session es)) =
        ap length (here o.session l) ∙ operations_many (take (calls_found plan o.session) (begun o.session es)) (take (returns_found plan o.session) (ended o.session es)) in
        let c = calls_many o.session in
        omega arith

    has_return : (o : OpId) → o.session < k → o.index < returns_found plan o.session → HasReturn history o
    has_return o l m =
        let r = returns_many o.session in
        let f = operations_return (take (calls_found plan o.session) (begun o.session es)) (take (returns_found plan o.session) (ended o.session es)) o.index (returns_within o.session) (omega arith) in
        (f.0, f.1, ap (λ (l : List (C × Option R)). slice_get l o.index) (here o.session l) ∙ f.2)

    return_found : (o : OpId) → HasReturn history o → (o.session < k) × (o.index < returns_found plan o.session)
    return_found o h = elim (cases_lt o.session k) [
      | inl l ↦
          let at : slice_get (sealed_session es plan o.session) o.index ≡ Some (h.0, Some h.1) = ap (λ (l : List (C × Option R)). slice_get l o.index) (sym (here o.session l)) ∙ h.2 in
          let m : o.index < length (take (returns_found plan o.session) (ended o.session es)) = operations_returned (take (calls_found plan o.session) (begun o.session es)) (take (returns_found plan o.session) (ended o.session es)) o.index h.0 h.1 at in
          let r = returns_many o.session in
          (l, omega arith)
      | inr l ↦
          let at : slice_get {X = C × Option R} [] o.index ≡ Some (h.0, Some h.1) = ap (λ (l : List (C × Option R)). slice_get l o.index) (sym (past o.session l)) ∙ h.2 in
          let w : o.index < 0 = slice_get_within {A = C × Option R} [] o.index (h.0, Some h.1) at in
          absurd (omega arith)
    ]

    -- of each session it holds as many returns and as many operations as were found
    pub holds_found : (s : ℕ) → s < k → (known_returns history s ≡ returns_found plan s) × (length (session history s) ≡ calls_found plan s)
    holds_found s l =
        let cs : List C = take (calls_found plan s) (begun s es) in let rs : List R = take (returns_found plan s) (ended s es) in (
          ap (λ (os : List (C × Option R)). length (filter_map (λ (e : C × Option R). e.1) os)) (here s l) ∙ (ap length (operations_returns cs rs (returns_within s)) ∙ returns_many s),
          ap length (here s l) ∙ (operations_many cs rs ∙ calls_many s),
        )

    pub cut : Follows (fresh_plan k cap told) (looks z es) → IsFinished plan → IsConsistentCut es z history
    cut follows finished = record {
      calls = λ s. elim (cases_lt s k) [
        | inl l ↦ (
          drop (calls_found plan s) (begun s es),
          ap (λ (cs : List C). cs ++ drop (calls_found plan s) (begun s es)) (ap (map (λ (e : C × Option R). e.0)) (here s l) ∙ operations_calls (take (calls_found plan s) (begun s es)) (take (returns_found plan s) (ended s es)))
              ∙ take-append-drop (calls_found plan s) (begun s es),
        )
        | inr l ↦ (begun s es, ap (λ (es' : List (C × Option R)). map (λ (e : C × Option R). e.0) es' ++ begun s es) (past s l))
      ];
      returns = λ s. elim (cases_lt s k) [
        | inl l ↦ (
          drop (returns_found plan s) (ended s es),
          ap (λ (rs : List R). rs ++ drop (returns_found plan s) (ended s es)) (ap (filter_map (λ (e : C × Option R). e.1)) (here s l) ∙ operations_returns (take (calls_found plan s) (begun s es)) (take (returns_found plan s) (ended s es)) (returns_within s))
              ∙ take-append-drop (returns_found plan s) (ended s es),
        )
        | inr l ↦ (ended s es, ap (λ (es' : List (C × Option R)). filter_map (λ (e : C × Option R). e.1) es' ++ ended s es) (past s l))
      ];
      returns_first = λ a o before h.
          let f = return_found o h in let same : a.session ≡ o.session = before.0 in let less : a.index < o.index = before.1 in
          let l : o.session < k = f.0 in let m : o.index < returns_found plan o.session = f.1 in
          has_return a (omega arith) (subst (λ (t : ℕ). a.index < returns_found plan t) (sym same) (omega arith));
      before_return = λ i j a o c r less at_a at_o h.
          let f = return_found o h in let m : o.index < returns_found plan o.session = f.1 in
          let n : length (ended o.session (take j es)) ≡ o.index = (run j (Ended o r) at_o).1 in
          let begun_there : a.index < length (begun a.session (take j es)) = begun_by k cap es run i j a c less at_a in
          let w : length (begun a.session (take j es)) ≤ length (begun a.session es) = picked_whole (call_of a.session) es j in
          let place = has_place k cap es run a.session a.index (omega arith) in
          let reached : length (begun a.session (take j es)) ≤ calls_found plan a.session = reached_calls a.session j (calls_over plan finished a.session place.0) (λ q look.
          elim (cases_lt q j) [
            | inl earlier ↦
                let given : returns_found plan o.session ≤ length (ended o.session (take q es)) = returns_given follows q (session_operation a.session (calls_found plan a.session)) false o.session f.0 look in
                let more : length (ended o.session (take q es)) ≤ length (ended o.session (take j es)) = picked_more (return_of o.session) es q j (let e : q < j = earlier in omega arith) in
                absurd (omega arith)
            | inr later ↦ later
          ]) in
          has_call a place.0 (omega arith);
      calls_before_start = λ i j a c told' less at_a at_z.
          let begun_there : a.index < length (begun a.session (take j es)) = begun_by k cap es run i j a c less at_a in
          let w : length (begun a.session (take j es)) ≤ length (begun a.session es) = picked_whole (call_of a.session) es j in
          let place = has_place k cap es run a.session a.index (omega arith) in
          let reached : length (begun a.session (take j es)) ≤ calls_found plan a.session = reached_calls a.session j (calls_over plan finished a.session place.0)
          (λ q look. let e : j < q = looks_later k cap es run z q j told' (call_cell a.session (calls_found plan a.session)) false at_z look in omega arith) in
          has_call a place.0 (omega arith);
      returns_before_start = λ i j a r told' less at_a at_z.
          let ended_there : a.index < length (ended a.session (take j es)) = ended_by k cap es run i j a r less at_a in
          let w : length (ended a.session (take j es)) ≤ length (ended a.session es) = picked_whole (return_of a.session) es j in
          let place = has_place k cap es run a.session a.index (ended_begun k cap es run a.session a.index (omega arith)) in
          let reached : length (ended a.session (take j es)) ≤ returns_found plan a.session = reached_returns a.session j (returns_over plan finished a.session place.0)
          (λ q look. let e : j < q = looks_later k cap es run z q j told' (return_cell a.session (returns_found plan a.session)) false at_z look in omega arith) in
          has_return a place.0 (omega arith);
    }

-- every finished seal is a consistent cut
pub seals_are_cuts : {S C R : Type 0} (k cap : ℕ) (es : List (Event C R)) (z : ℕ) (p : Plan) (start : S) → IsRun k cap es → HasSealed k cap es z p → IsConsistentCut es z (sealed start es p)
seals_are_cuts k cap es z p start run h =
    let is : p ≡ plan_with k cap h.told (looks z es) = h.planned ∙ looks_are (fresh_plan k cap h.told) (looks z es) in
    subst (λ (q : Plan). IsConsistentCut es z (sealed start es q)) (sym is)
    (cut k cap es run z h.start h.told h.started start h.follows (subst (λ (q : Plan). IsFinished q) is h.finished))

-- and holds as much as was found
pub found_are_held : {S C R : Type 0} (k cap : ℕ) (es : List (Event C R)) (z : ℕ) (p : Plan) (start : S) → IsRun k cap es → HasSealed k cap es z p
    → (s : ℕ) → s < k → (known_returns (sealed start es p) s ≡ returns_found p s) × (length (session (sealed start es p) s) ≡ calls_found p s)
found_are_held k cap es z p start run h s l =
    let is : p ≡ plan_with k cap h.told (looks z es) = h.planned ∙ looks_are (fresh_plan k cap h.told) (looks z es) in
    subst (λ (q : Plan). (known_returns (sealed start es q) s ≡ returns_found q s) × (length (session (sealed start es q) s) ≡ calls_found q s)) (sym is)
    (holds_found k cap es run z h.start h.told h.started start s l)

-- and holds, with its return, each operation that its sealer was told of
pub told_are_held : {S C R : Type 0} (k cap : ℕ) (es : List (Event C R)) (z : ℕ) (p : Plan) (start : S) → IsRun k cap es → HasSealed k cap es z p
    → (j : ℕ) (told : List ℕ) → IsAt es j (Started z told) → (s n : ℕ) → n < slice_index told s → HasReturn (sealed start es p) (session_operation s n)
told_are_held k cap es z p start run h j told at s n l =
    let t : slice_index told s ≤ length (ended s (take j es)) = (run j (Started z told) at).2 s in
    let e = ended_there k cap (take j es) (run_front k cap es j run) s n (omega arith) in
    let f = take-from j es e.0 (Ended (session_operation s n) e.1) e.2 in
    (seals_are_cuts k cap es z p start run h).returns_before_start e.0 j (session_operation s n) e.1 told f.0 f.1 at

-- what was found at some place of a run stays the same behind it
module _ {C R : Type 0} (k cap : ℕ) (es : List (Event C R)) (run : IsRun k cap es) (z j : ℕ) (p : Plan) (h : HasSealed k cap (take j es) z p) where
  planned_is : p ≡ plan_with k cap h.told (looks z (take j es))
  planned_is = h.planned ∙ looks_are (fresh_plan k cap h.told) (looks z (take j es))

  found_by : (s : ℕ) → (returns_found p s ≤ length (ended s (take j es))) × (calls_found p s ≤ length (begun s (take j es)))
  found_by s = subst (λ (q : Plan). (returns_found q s ≤ length (ended s (take j es))) × (calls_found q s ≤ length (begun s (take j es)))) (sym planned_is)
      (found_returns k cap (take j es) (run_front k cap es j run) z h.start h.told h.started s, found_calls k cap (take j es) (run_front k cap es j run) z h.start h.told h.started s)

  session_stays : (s : ℕ) → sealed_session es p s ≡ sealed_session (take j es) p s
  session_stays s =
      let f = found_by s in
      let cs : take (calls_found p s) (begun s es) ≡ take (calls_found p s) (begun s (take j es)) =
      ap (take (calls_found p s)) (sym (picked_front (call_of s) es j)) ∙ take-append-le (calls_found p s) (begun s (take j es)) (begun s (drop j es)) f.1 in
      let rs : take (returns_found p s) (ended s es) ≡ take (returns_found p s) (ended s (take j es)) =
      ap (take (returns_found p s)) (sym (picked_front (return_of s) es j)) ∙ take-append-le (returns_found p s) (ended s (take j es)) (ended s (drop j es)) f.0 in
      (λ i. operations (cs i) (rs i))

  sessions_stay : (s n : ℕ) → sealed_sessions es p s n ≡ sealed_sessions (take j es) p s n
  sessions_stay s zero = refl
  sessions_stay s (suc n) = let here = session_stays s in let behind = sessions_stay (s + 1) n in (λ i. here i ∷ behind i)

  pub seal_stays : {S : Type 0} (start : S) → sealed start es p ≡ sealed start (take j es) p
  seal_stays start = let all = sessions_stay 0 p.lanes in (λ i. (start, all i))

-- a walk of a fresh plan is one that follows it to the end
pub walks_seal : {C R : Type 0} (k cap : ℕ) (es : List (Event C R)) (z j : ℕ) (told : List ℕ) (st st' : PlanState) → IsAt es j (Started z told) → Stands st (fresh_plan k cap told) → WalksToTheEnd st [] st' (looks z es)
    → HasSealed k cap es z (after_looks (fresh_plan k cap told) (looks z es))
walks_seal k cap es z j told st st' at stands w =
    let is : w.0 ≡ looks z es = sym w.1 in let r = w.2 (fresh_plan k cap told) stands in
    record {
      start = j;
      told = told;
      started = at;
      follows = subst (λ (ls : List Look). Follows (fresh_plan k cap told) ls) is r.0;
      planned = refl;
      finished = subst (λ (ls : List Look). IsFinished (after_looks (fresh_plan k cap told) ls)) is r.2;
    }

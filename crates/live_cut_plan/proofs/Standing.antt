-- What represents a plan: the cell that is next, and the state after one more look.
use Rattle.std.proofs.Common.{◌≡◌, ◌≢◌, ℕ, suc, zero, ◌+◌, ◌<◌, ◌≤◌, ◌⊎◌, List, [], ◌∷◌, ◌++◌, length, inl, inr, refl, sym, ◌∙◌, ap, subst, arith, get_or, set, length-set, drop, ◌==◌, ◌&&◌}
use Rattle.std.proofs.Math.Seq.{drop-cons}
use Rattle.std.specs.Prelude.{Bool, false, Option, Some, None, slice_get}
use Rattle.std.proofs.lemmas.Bool.{cases_eq}
use Rattle.std.proofs.lemmas.Option.{slice_get_within, get_or_from_slice_get}
use Rattle.model_history.specs.declared.op_id.OpId.{OpId}
use Rattle.live_cut_plan.specs.declared.cell.Cell.{Cell}
use Rattle.live_cut_plan.specs.declared.cell.Cell.TheVariants.{Return, Call}
use Rattle.live_cut_plan.specs.declared.lane_plan.LanePlan.{LanePlan}
use Rattle.live_cut_plan.specs.Plans.{Plan, seen_at, return_cell, call_cell, same_cell, named_at, or_else, first_named, told_of, next_return, next_call, next_cell, looked_at, fresh_plan}
use Rattle.live_cut_plan.specs.Walks.{IsLanePlan, Stands}
use Rattle.live_cut_plan.specs.Steps.PlanStates.{PlanState, return_place, call_place, return_of, call_of, first_of, state_next, after_return, after_call, fresh_lane, lane_left, left_of, looks_left}
use Rattle.live_cut_plan.proofs.Seen.{seen_other, seen_new, same_op_itself, other_index, other_session}
use Rattle.live_cut_plan.proofs.ListPlaces.{get_set_same, get_set_other}
use Rattle.live_cut_plan.proofs.LanePlans.{lane_same, lane_returned, lane_called, return_named, call_named, lane_fresh, fewer_returned, fewer_called, call_some, returns_ended, return_unread, call_unread}

-- the first cell that is named, of lanes that name the same
firsts_same : (f : ℕ → LanePlan → Option Cell) (g : ℕ → Option Cell) (s : ℕ) (ls : List LanePlan) → ((j : ℕ) (l : LanePlan) → slice_get ls j ≡ Some l → f (s + j) l ≡ g (s + j)) → first_of f s ls ≡ first_named g s (length ls)
firsts_same f g s [] e = refl
firsts_same f g s (l ∷ ls) e =
    let here : f s l ≡ g s = subst (λ (x : ℕ). f x l ≡ g x) (let x : s + 0 ≡ s = omega arith in x) (e 0 l refl) in
    ap (λ (x : Option Cell). or_else x (first_of f (s + 1) ls)) here
    ∙ ap (or_else (g s)) (firsts_same f g (s + 1) ls (λ j m h. subst (λ (x : ℕ). f x m ≡ g x) (let x : s + suc j ≡ s + 1 + j = omega arith in x) (e (suc j) m h)))

module _ (st : PlanState) (p : Plan) (stands : Stands st p) where
  names_return : (s : ℕ) (l : LanePlan) → slice_get st.lanes s ≡ Some l → return_of p.cap s l ≡ next_return p s
  names_return s l e = return_named p.cap (told_of p s) (λ i. seen_at p.looks (return_cell s i)) (λ i. seen_at p.looks (call_cell s i)) l (stands.lanes s l e) (return_cell s)

  names_call : (s : ℕ) (l : LanePlan) → slice_get st.lanes s ≡ Some l → call_of p.cap s l ≡ next_call p s
  names_call s l e = call_named p.cap (told_of p s) (λ i. seen_at p.looks (return_cell s i)) (λ i. seen_at p.looks (call_cell s i)) l (stands.lanes s l e) (call_cell s)

  at_zero : (f : ℕ → LanePlan → Option Cell) (g : ℕ → Option Cell) → ((s : ℕ) (l : LanePlan) → slice_get st.lanes s ≡ Some l → f s l ≡ g s) → first_of f 0 st.lanes ≡ first_named g 0 p.lanes
  at_zero f g e = firsts_same f g 0 st.lanes (λ j l h. subst (λ (x : ℕ). f x l ≡ g x) (let x : j ≡ 0 + j = omega arith in x) (e j l h)) ∙ ap (first_named g 0) stands.many

  -- the cell that the state names is the one that the plan names
  pub next_is : state_next st ≡ next_cell p
  next_is = ap (λ (c : ℕ). or_else (first_of (return_of c) 0 st.lanes) (first_of (call_of c) 0 st.lanes)) stands.cap
      ∙ (ap (λ (x : Option Cell). or_else x (first_of (call_of p.cap) 0 st.lanes)) (at_zero (return_of p.cap) (next_return p) names_return) ∙ ap (or_else (first_named (next_return p) 0 p.lanes)) (at_zero (call_of p.cap) (next_call p) names_call))

-- which lane names the cell that is next
named_some : (cell : ℕ → Cell) (x : Option ℕ) (c : Cell) → named_at cell x ≡ Some c → (i : ℕ) × (x ≡ Some i) × (cell i ≡ c)
named_some cell None c e = absurd (cc)
named_some cell (Some i) c e = (i, refl, cc)

named_none : (cell : ℕ → Cell) (x : Option ℕ) → named_at cell x ≡ None → x ≡ None
named_none cell None e = refl
named_none cell (Some i) e = absurd (cc)

or_cases : (x y : Option Cell) (c : Cell) → or_else x y ≡ Some c → (x ≡ Some c) ⊎ ((x ≡ None) × (y ≡ Some c))
or_cases None y c e = inr (refl, e)
or_cases (Some d) y c e = inl e

or_none : (x y : Option Cell) → or_else x y ≡ None → (x ≡ None) × (y ≡ None)
or_none None y e = (refl, e)
or_none (Some d) y e = absurd (cc)

module _ (f : ℕ → LanePlan → Option Cell) (c : Cell) where
  pub first_found : (s : ℕ) (ls : List LanePlan) → first_of f s ls ≡ Some c → (j : ℕ) × (l : LanePlan) × (slice_get ls j ≡ Some l) × (f (s + j) l ≡ Some c)
  first_found s [] e = absurd (cc)
  first_found s (l ∷ ls) e = elim (or_cases (f s l) (first_of f (s + 1) ls) c e) [
    | inl h ↦ (0, l, refl, subst (λ (x : ℕ). f x l ≡ Some c) (let x : s ≡ s + 0 = omega arith in x) h)
    | inr h ↦ let r = first_found (s + 1) ls h.1 in (suc r.0, r.1, r.2, subst (λ (x : ℕ). f x r.1 ≡ Some c) (let x : s + 1 + r.0 ≡ s + suc r.0 = omega arith in x) r.3)
  ]

first_none : (f : ℕ → LanePlan → Option Cell) (s : ℕ) (ls : List LanePlan) → first_of f s ls ≡ None → (j : ℕ) (l : LanePlan) → slice_get ls j ≡ Some l → f (s + j) l ≡ None
first_none f s [] e zero l h = absurd (cc)
first_none f s [] e (suc j) l h = absurd (cc)
first_none f s (m ∷ ls) e zero l h = let same : m ≡ l = cc in subst (λ (x : ℕ). f x l ≡ None) (let x : s ≡ s + 0 = omega arith in x) (subst (λ (x : LanePlan). f s x ≡ None) same (or_none (f s m) (first_of f (s + 1) ls) e).0)
first_none f s (m ∷ ls) e (suc j) l h = subst (λ (x : ℕ). f x l ≡ None) (let x : s + 1 + j ≡ s + suc j = omega arith in x) (first_none f (s + 1) ls (or_none (f s m) (first_of f (s + 1) ls) e).1 j l h)

abbrev op_of : Cell → OpId
op_of (Return o) = o
op_of (Call o) = o

module _ (st : PlanState) (o : OpId) where
  returns_named : first_of (return_of st.cap) 0 st.lanes ≡ Some (Return o) → (l : LanePlan) × (slice_get st.lanes o.session ≡ Some l) × (return_place st.cap l ≡ Some o.index)
  returns_named e =
      let r = first_found (return_of st.cap) (Return o) 0 st.lanes e in let n = named_some (return_cell (0 + r.0)) (return_place st.cap r.1) (Return o) r.3 in
      let lane : 0 + r.0 ≡ o.session = ap (λ (d : Cell). (op_of d).session) n.2 in let at : n.0 ≡ o.index = ap (λ (d : Cell). (op_of d).index) n.2 in
      (r.1, subst (λ (x : ℕ). slice_get st.lanes x ≡ Some r.1) (let x : r.0 ≡ o.session = omega (arith, lane) in x) r.2, n.1 ∙ ap Some at)

  no_return : first_of (call_of st.cap) 0 st.lanes ≡ Some (Return o) → ⊥
  no_return e = let r = first_found (call_of st.cap) (Return o) 0 st.lanes e in let n = named_some (call_cell (0 + r.0)) (call_place st.cap r.1) (Return o) r.3 in let x : Call (record { session = 0 + r.0; index = n.0 }) ≡ Return o = n.2 in cc

  no_call : first_of (return_of st.cap) 0 st.lanes ≡ Some (Call o) → ⊥
  no_call e = let r = first_found (return_of st.cap) (Call o) 0 st.lanes e in let n = named_some (return_cell (0 + r.0)) (return_place st.cap r.1) (Call o) r.3 in let x : Return (record { session = 0 + r.0; index = n.0 }) ≡ Call o = n.2 in cc

  pub next_returns : state_next st ≡ Some (Return o) → (l : LanePlan) × (slice_get st.lanes o.session ≡ Some l) × (return_place st.cap l ≡ Some o.index)
  next_returns e = elim (or_cases (first_of (return_of st.cap) 0 st.lanes) (first_of (call_of st.cap) 0 st.lanes) (Return o) e) [ inl h ↦ returns_named h | inr h ↦ absurd (no_return h.1) ]

  calls_named : first_of (return_of st.cap) 0 st.lanes ≡ None → first_of (call_of st.cap) 0 st.lanes ≡ Some (Call o) → (l : LanePlan) × (slice_get st.lanes o.session ≡ Some l) × (call_place st.cap l ≡ Some o.index) × (return_place st.cap l ≡ None)
  calls_named none e =
      let r = first_found (call_of st.cap) (Call o) 0 st.lanes e in let n = named_some (call_cell (0 + r.0)) (call_place st.cap r.1) (Call o) r.3 in
      let lane : 0 + r.0 ≡ o.session = ap (λ (d : Cell). (op_of d).session) n.2 in let at : n.0 ≡ o.index = ap (λ (d : Cell). (op_of d).index) n.2 in (
        r.1,
        subst (λ (x : ℕ). slice_get st.lanes x ≡ Some r.1) (let x : r.0 ≡ o.session = omega (arith, lane) in x) r.2,
        n.1 ∙ ap Some at,
        named_none (return_cell (0 + r.0)) (return_place st.cap r.1) (first_none (return_of st.cap) 0 st.lanes none r.0 r.1 r.2),
      )

  pub next_calls : state_next st ≡ Some (Call o) → (l : LanePlan) × (slice_get st.lanes o.session ≡ Some l) × (call_place st.cap l ≡ Some o.index) × (return_place st.cap l ≡ None)
  next_calls e = elim (or_cases (first_of (return_of st.cap) 0 st.lanes) (first_of (call_of st.cap) 0 st.lanes) (Call o) e) [ inl h ↦ absurd (no_call h) | inr h ↦ calls_named h.0 h.1 ]

fewer_set : (cap : ℕ) (l new : LanePlan) → lane_left cap new < lane_left cap l → (ls : List LanePlan) (s : ℕ) → slice_get ls s ≡ Some l → left_of cap (set ls s new) < left_of cap ls
fewer_set cap l new h [] zero e = absurd (cc)
fewer_set cap l new h [] (suc s) e = absurd (cc)
fewer_set cap l new h (m ∷ ls) zero e = let same : m ≡ l = cc in subst (λ (x : LanePlan). lane_left cap new + left_of cap ls < lane_left cap x + left_of cap ls) (sym same) (let h' : lane_left cap new < lane_left cap l = h in omega arith)
fewer_set cap l new h (m ∷ ls) (suc s) e = let g : left_of cap (set ls s new) < left_of cap ls = fewer_set cap l new h ls s e in omega arith

-- a lane that a look does not concern is as it was
module _ (p : Plan) (c : Cell) (full : Bool) (s : ℕ) (l : LanePlan) where
  pub lane_stays : ((i : ℕ) → same_cell c (return_cell s i) ≡ false) → ((i : ℕ) → same_cell c (call_cell s i) ≡ false)
      → IsLanePlan p.cap (told_of p s) (λ i. seen_at p.looks (return_cell s i)) (λ i. seen_at p.looks (call_cell s i)) l
      → IsLanePlan p.cap (told_of p s) (λ i. seen_at (p.looks ++ (c, full) ∷ []) (return_cell s i)) (λ i. seen_at (p.looks ++ (c, full) ∷ []) (call_cell s i)) l
  lane_stays e f lane =
      lane_same p.cap (told_of p s) (λ i. seen_at p.looks (return_cell s i)) (λ i. seen_at (p.looks ++ (c, full) ∷ []) (return_cell s i)) (λ i. seen_at p.looks (call_cell s i)) (λ i. seen_at (p.looks ++ (c, full) ∷ []) (call_cell s i)) l lane
      (λ i. seen_other p.looks c (return_cell s i) full (e i)) (λ i. seen_other p.looks c (call_cell s i) full (f i))

module _ (st st' : PlanState) (o : OpId) (full : Bool) (l : LanePlan) (at : slice_get st.lanes o.session ≡ Some l) (cap : st'.cap ≡ st.cap) where
  is_lane : (m n : LanePlan) → slice_get st.lanes o.session ≡ Some m → m ≡ l
  is_lane m n e = let x : Some m ≡ Some l = sym e ∙ at in cc

  module _ (c : Cell) (new : LanePlan) (lanes : st'.lanes ≡ set st.lanes o.session new) (p : Plan) (stands : Stands st p) where
    stands_with : ((s i : ℕ) → s ≢ o.session → (same_cell c (return_cell s i) ≡ false) × (same_cell c (call_cell s i) ≡ false))
        → IsLanePlan p.cap (told_of p o.session) (λ i. seen_at (p.looks ++ (c, full) ∷ []) (return_cell o.session i)) (λ i. seen_at (p.looks ++ (c, full) ∷ []) (call_cell o.session i)) new
        → Stands st' (looked_at p (Some c) full)
    stands_with apart here = record {
      many = ap length lanes ∙ (length-set st.lanes o.session new ∙ stands.many);
      cap = cap ∙ stands.cap;
      lanes = λ s m e. elim (cases_eq s o.session) [
        | inl h ↦ let same : Some new ≡ Some m = sym (get_set_same st.lanes o.session new l at) ∙ (subst (λ (x : ℕ). slice_get (set st.lanes o.session new) x ≡ Some m) h (subst (λ (ls : List LanePlan). slice_get ls s ≡ Some m) lanes e)) in
            let is : new ≡ m = cc in
            subst (λ (x : ℕ). IsLanePlan p.cap (told_of p x) (λ i. seen_at (p.looks ++ (c, full) ∷ []) (return_cell x i)) (λ i. seen_at (p.looks ++ (c, full) ∷ []) (call_cell x i)) m) (sym h)
            (subst (λ (x : LanePlan). IsLanePlan p.cap (told_of p o.session) (λ i. seen_at (p.looks ++ (c, full) ∷ []) (return_cell o.session i)) (λ i. seen_at (p.looks ++ (c, full) ∷ []) (call_cell o.session i)) x) is here)
        | inr h ↦ lane_stays p c full s m (λ i. (apart s i h).0) (λ i. (apart s i h).1) (stands.lanes s m (sym (get_set_other st.lanes o.session s new h) ∙ subst (λ (ls : List LanePlan). slice_get ls s ≡ Some m) lanes e))
      ];
    }

  module _ (p : Plan) (stands : Stands st p) where
    lane_at : IsLanePlan p.cap (told_of p o.session) (λ i. seen_at p.looks (return_cell o.session i)) (λ i. seen_at p.looks (call_cell o.session i)) l
    lane_at = stands.lanes o.session l at

    other_op : (s i : ℕ) → s ≢ o.session → (o.session == s) && (o.index == i) ≡ false
    other_op s i h = other_session o.session s o.index i (λ e. h (sym e))

    place_of : (place : ℕ → LanePlan → Option ℕ) → place st.cap l ≡ Some o.index → place p.cap l ≡ Some o.index
    place_of place e = subst (λ (x : ℕ). place x l ≡ Some o.index) stands.cap e

    -- the state after a look at a return cell
    returned : return_place st.cap l ≡ Some o.index → st'.lanes ≡ set st.lanes o.session (after_return full l) → Stands st' (looked_at p (Some (Return o)) full)
    returned e lanes = stands_with (Return o) (after_return full l) lanes p stands (λ s i h. (other_op s i h, refl))
        (lane_returned p.cap (told_of p o.session) (λ i. seen_at p.looks (return_cell o.session i)) (λ i. seen_at (p.looks ++ (Return o, full) ∷ []) (return_cell o.session i)) (λ i. seen_at p.looks (call_cell o.session i)) (λ i. seen_at (p.looks ++ (Return o, full) ∷ []) (call_cell o.session i)) l lane_at full o.index
        (λ j h. seen_other p.looks (Return o) (return_cell o.session j) full (other_index o.session o.index j (λ g. h (sym g))))
        (λ j. seen_other p.looks (Return o) (call_cell o.session j) full refl)
        (seen_new p.looks (Return o) full (same_op_itself o) (return_unread p.cap (told_of p o.session) (λ i. seen_at p.looks (return_cell o.session i)) (λ i. seen_at p.looks (call_cell o.session i)) l lane_at o.index (place_of return_place e)))
        (place_of return_place e))

    -- and after a look at a call cell
    called : call_place st.cap l ≡ Some o.index → return_place st.cap l ≡ None → st'.lanes ≡ set st.lanes o.session (after_call full l) → Stands st' (looked_at p (Some (Call o)) full)
    called e none lanes =
        let at' = call_some p.cap o.index l (place_of call_place e) in
        stands_with (Call o) (after_call full l) lanes p stands (λ s i h. (refl, other_op s i h))
        (lane_called p.cap (told_of p o.session) (λ i. seen_at p.looks (return_cell o.session i)) (λ i. seen_at (p.looks ++ (Call o, full) ∷ []) (return_cell o.session i)) (λ i. seen_at p.looks (call_cell o.session i)) (λ i. seen_at (p.looks ++ (Call o, full) ∷ []) (call_cell o.session i)) l lane_at full o.index
        (λ j. seen_other p.looks (Call o) (return_cell o.session j) full refl)
        (λ j h. seen_other p.looks (Call o) (call_cell o.session j) full (other_index o.session o.index j (λ g. h (sym g))))
        (seen_new p.looks (Call o) full (same_op_itself o) (call_unread p.cap (told_of p o.session) (λ i. seen_at p.looks (return_cell o.session i)) (λ i. seen_at p.looks (call_cell o.session i)) l lane_at o.index (place_of call_place e)))
        (returns_ended p.cap l.unread l.returns l.returns_over at'.0 (subst (λ (x : ℕ). return_place x l ≡ None) stands.cap none)) at'.3 at'.1 at'.2)

  -- what gives
  pub given_return : state_next st ≡ Some (Return o) → st'.lanes ≡ set st.lanes o.session (after_return full l) → (p : Plan) → Stands st p → Stands st' (looked_at p (next_cell p) full)
  given_return e lanes p stands =
      let n = next_returns st o e in
      subst (λ (x : Option Cell). Stands st' (looked_at p x full)) (sym e ∙ next_is st p stands) (returned p stands (subst (λ (m : LanePlan). return_place st.cap m ≡ Some o.index) (is_lane n.0 l n.1) n.2) lanes)

  pub given_call : state_next st ≡ Some (Call o) → st'.lanes ≡ set st.lanes o.session (after_call full l) → (p : Plan) → Stands st p → Stands st' (looked_at p (next_cell p) full)
  given_call e lanes p stands =
      let n = next_calls st o e in
      subst (λ (x : Option Cell). Stands st' (looked_at p x full)) (sym e ∙ next_is st p stands)
      (called p stands (subst (λ (m : LanePlan). call_place st.cap m ≡ Some o.index) (is_lane n.0 l n.1) n.2) (subst (λ (m : LanePlan). return_place st.cap m ≡ None) (is_lane n.0 l n.1) n.3) lanes)

  fewer_with : (new : LanePlan) → lane_left st.cap new < lane_left st.cap l → st'.lanes ≡ set st.lanes o.session new → looks_left st' < looks_left st
  fewer_with new h lanes = subst (λ (x : ℕ). x < looks_left st) (sym (ap (λ (c : ℕ). left_of c st'.lanes) cap ∙ ap (left_of st.cap) lanes)) (fewer_set st.cap l new h st.lanes o.session at)

  pub fewer_return : state_next st ≡ Some (Return o) → st'.lanes ≡ set st.lanes o.session (after_return full l) → looks_left st' < looks_left st
  fewer_return e lanes = let n = next_returns st o e in fewer_with (after_return full l) (fewer_returned st.cap l full o.index (subst (λ (m : LanePlan). return_place st.cap m ≡ Some o.index) (is_lane n.0 l n.1) n.2)) lanes

  pub fewer_call : state_next st ≡ Some (Call o) → st'.lanes ≡ set st.lanes o.session (after_call full l) → looks_left st' < looks_left st
  fewer_call e lanes = let n = next_calls st o e in fewer_with (after_call full l) (fewer_called st.cap l full o.index (subst (λ (m : LanePlan). call_place st.cap m ≡ Some o.index) (is_lane n.0 l n.1) n.2)) lanes

-- the first lane that names a cell, from the rest of the lanes
module _ (f : ℕ → LanePlan → Option Cell) (ls : List LanePlan) (s : ℕ) (l : LanePlan) (at : slice_get ls s ≡ Some l) where
  pub rest_is : first_of f s (drop s ls) ≡ or_else (f s l) (first_of f (s + 1) (drop (s + 1) ls))
  rest_is = ap (first_of f s) (drop-cons ls s l (slice_get_within ls s l at)) ∙ ((λ i. or_else (f s (get_or_from_slice_get ls s l l at i)) (first_of f (s + 1) (drop (suc s) ls))) ∙ ap (λ (n : ℕ). or_else (f s l) (first_of f (s + 1) (drop n ls))) (let x : suc s ≡ s + 1 = omega arith in x))

-- a plan of which nothing was looked at
pub stands_fresh : (k cap : ℕ) (told : List ℕ) (st : PlanState) → ((s : ℕ) → get_or told s 0 ≤ cap) → st.cap ≡ cap → length st.lanes ≡ k → ((s : ℕ) (l : LanePlan) → slice_get st.lanes s ≡ Some l → l ≡ fresh_lane (get_or told s 0)) → Stands st (fresh_plan k cap told)
stands_fresh k cap told st within c many each = record {
  many = many;
  cap = c;
  lanes = λ s l e. subst (λ (m : LanePlan). IsLanePlan cap (get_or told s 0) (λ i. None) (λ i. None) m) (sym (each s l e)) (lane_fresh cap (get_or told s 0) (λ i. None) (λ i. None) (within s) (λ i. refl) (λ i. refl));
}

-- the cell that is next, by its two parts
module _ (st : PlanState) (p : Plan) (stands : Stands st p) where
  pub first_rule : (c : Cell) → Some c ≡ first_of (return_of st.cap) 0 st.lanes → Some c ≡ next_cell p
  first_rule c e = ap (λ (y : Option Cell). or_else y (first_of (call_of st.cap) 0 st.lanes)) e ∙ next_is st p stands

  pub second_rule : (r : Option Cell) → None ≡ first_of (return_of st.cap) 0 st.lanes → r ≡ first_of (call_of st.cap) 0 st.lanes → r ≡ next_cell p
  second_rule r e f = f ∙ (ap (λ (y : Option Cell). or_else y (first_of (call_of st.cap) 0 st.lanes)) e ∙ next_is st p stands)

-- a lane that was read at a place is the one that stands there
pub same_lane : (ls : List LanePlan) (s : ℕ) (l m : LanePlan) → slice_get ls s ≡ Some l → m ≡ get_or ls s m → l ≡ m
same_lane ls s l m e f = sym (f ∙ get_or_from_slice_get ls s l m e)

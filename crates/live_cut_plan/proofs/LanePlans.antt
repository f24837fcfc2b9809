-- What a lane keeps, after one more look at it, and which cells it names.
use Rattle.std.proofs.Common.{◌≡◌, ◌≢◌, ℕ, suc, zero, ◌+◌, ◌-◌, ◌<◌, ◌≤◌, inl, inr, refl, sym, ◌∙◌, ap, subst, arith}
use Rattle.std.specs.Prelude.{Bool, true, false, not, ◌&&◌, Option, Some, None, nat_lt, if◌then◌else◌}
use Rattle.std.proofs.lemmas.Bool.{cases_eq, lt-ltb, le-ltb, ltb-true, ltb-false}
use Rattle.live_cut_plan.specs.declared.cell.Cell.{Cell}
use Rattle.live_cut_plan.specs.declared.lane_plan.LanePlan.{LanePlan}
use Rattle.live_cut_plan.specs.Plans.{was_read, was_full, first_failing, last_failing, named_at, or_else}
use Rattle.live_cut_plan.specs.Walks.{IsColumn, IsLanePlan}
use Rattle.live_cut_plan.specs.Steps.PlanStates.{place_behind, unread_or, return_place, call_place, after_unread, after_return, after_call, fresh_lane, lane_left, if_not}
use Rattle.live_cut_plan.proofs.Columns.{column_same, column_full, column_empty, column_fresh, last_is, last_is_none, found_is, behind_is}

pub behind_some : (cap found i : ℕ) (over : Bool) → place_behind cap found over ≡ Some i → (found < cap) × (over ≡ false) × (i ≡ found)
behind_some cap found i over e = by (nat_lt found cap) over refl e
  where
    by : (t o : Bool) → nat_lt found cap ≡ t → (if t && not o then Some found else None) ≡ Some i → (found < cap) × (o ≡ false) × (i ≡ found)
    by true true f e = absurd (cc)
    by true false f e = (ltb-true found cap f, refl, let g : found ≡ i = cc in sym g)
    by false o f e = absurd (cc)

pub behind_none : (cap found : ℕ) (over : Bool) → found < cap → place_behind cap found over ≡ None → over ≡ true
behind_none cap found over l e = by over (ap (λ (t : Bool). if t && not over then Some found else None) (sym (lt-ltb found cap l)) ∙ e)
  where
    by : (o : Bool) → (if true && not o then Some found else None) ≡ None → o ≡ true
    by true e = refl
    by false e = absurd (cc)

pub call_some : (cap i : ℕ) (l : LanePlan) → call_place cap l ≡ Some i → (l.returns < cap) × (l.returns + l.calls < cap) × (l.calls_over ≡ false) × (i ≡ l.returns + l.calls)
call_some cap i l e = by (nat_lt l.returns cap) refl e
  where
    by : (t : Bool) → nat_lt l.returns cap ≡ t → (if t then place_behind cap (l.returns + l.calls) l.calls_over else None) ≡ Some i → (l.returns < cap) × (l.returns + l.calls < cap) × (l.calls_over ≡ false) × (i ≡ l.returns + l.calls)
    by true f e = let b = behind_some cap (l.returns + l.calls) i l.calls_over e in (ltb-true l.returns cap f, b.0, b.1, b.2)
    by false f e = absurd (cc)

-- where no return cell is next, and the lane has places left, it was found empty
pub returns_ended : (cap u returns : ℕ) (over : Bool) → returns < cap → unread_or u (place_behind cap returns over) ≡ None → over ≡ true
returns_ended cap zero returns over l e = behind_none cap returns over l e
returns_ended cap (suc u) returns over l e = absurd (cc)

module _ (cap told : ℕ) (r r' c c' : ℕ → Option Bool) (l : LanePlan) (lane : IsLanePlan cap told r c l) where
  pub lane_same : ((i : ℕ) → r' i ≡ r i) → ((i : ℕ) → c' i ≡ c i) → IsLanePlan cap told r' c' l
  lane_same e f = record {
    told_of = lane.told_of;
    left = lane.left;
    unread = λ i h. ap was_read (e i) ∙ lane.unread i h;
    read = λ i h k. ap was_read (e i) ∙ lane.read i h k;
    within = lane.within;
    returned = column_same r r' told l.returns l.returns_over (λ i h. e i) lane.returned;
    called = column_same c c' l.returns (l.returns + l.calls) l.calls_over (λ i h. f i) lane.called;
    quiet = λ h. let q = lane.quiet h in (q.0, q.1, λ i. f i ∙ q.2 i);
  }

  module _ (full : Bool) (i : ℕ) where
    module _ (e : (j : ℕ) → j ≢ i → r' j ≡ r j) (f : (j : ℕ) → c' j ≡ c j) (now : r' i ≡ Some full) where
      gave_unread : (n : ℕ) → l.unread ≡ suc n → n ≡ i → IsLanePlan cap told r' c' (record l { unread = n })
      gave_unread n u m =
          let u' : l.unread ≡ suc n = u in let m' : n ≡ i = m in let t : l.unread ≤ told = lane.left in
          record {
            told_of = lane.told_of;
            left = omega arith;
            unread = λ j h. let h' : j < n = h in ap was_read (e j (λ k. let k' : j ≡ i = k in omega arith)) ∙ lane.unread j (omega arith);
            read = λ j h k. elim (cases_eq j i) [
              | inl g ↦ ap was_read (subst (λ (x : ℕ). r' x ≡ Some full) (sym g) now)
              | inr g ↦ ap was_read (e j g) ∙ lane.read j (let g' : j ≢ i = g in let h' : n ≤ j = h in omega arith) k
            ];
            within = lane.within;
            returned = column_same r r' told l.returns l.returns_over (λ j h. e j (λ k. let k' : j ≡ i = k in let h' : told ≤ j = h in omega arith)) lane.returned;
            called = column_same c c' l.returns (l.returns + l.calls) l.calls_over (λ j h. f j) lane.called;
            quiet = λ h. let q = lane.quiet h in (q.0, q.1, λ j. f j ∙ q.2 j);
          }

      module _ (at : i ≡ l.returns) (room : l.returns < cap) (on : l.returns_over ≡ false) where
        from_told : told ≤ l.returns
        from_told = lane.returned.from_on

        open_column : IsColumn r told l.returns false
        open_column = subst (λ (o : Bool). IsColumn r told l.returns o) on lane.returned

        others : (j : ℕ) → told ≤ j → j ≢ l.returns → r' j ≡ r j
        others j h k = e j (λ m. k (m ∙ at))

        below : (j : ℕ) → j < told → r' j ≡ r j
        below j h = e j (λ m. let m' : j ≡ i = m in let h' : j < told = h in let a : i ≡ l.returns = at in let t : told ≤ l.returns = from_told in omega arith)

        gave_full : full ≡ true → IsLanePlan cap told r' c' (record l { returns = l.returns + 1 })
        gave_full b =
            let q = lane.quiet on in
            record {
              told_of = lane.told_of;
              left = lane.left;
              unread = λ j h. ap was_read (below j (let h' : j < l.unread = h in let t : l.unread ≤ told = lane.left in omega arith)) ∙ lane.unread j h;
              read = λ j h k. ap was_read (below j k) ∙ lane.read j h k;
              within = let w : l.returns < cap = room in let z : l.calls ≡ 0 = q.0 in omega arith;
              returned = subst (λ (o : Bool). IsColumn r' told (l.returns + 1) o) (sym on) (column_full r r' told l.returns others open_column (subst (λ (x : ℕ). r' x ≡ Some true) at (now ∙ ap Some b)));
              called = subst (λ (o : Bool). IsColumn c' (l.returns + 1) (l.returns + 1 + l.calls) o) (sym q.1) (column_fresh c' (l.returns + 1) l.calls (λ j. f j ∙ q.2 j) q.0);
              quiet = λ h. (q.0, q.1, λ j. f j ∙ q.2 j);
            }

        gave_empty : full ≡ false → IsLanePlan cap told r' c' (record l { returns_over = true })
        gave_empty b = record {
          told_of = lane.told_of;
          left = lane.left;
          unread = λ j h. ap was_read (below j (let h' : j < l.unread = h in let t : l.unread ≤ told = lane.left in omega arith)) ∙ lane.unread j h;
          read = λ j h k. ap was_read (below j k) ∙ lane.read j h k;
          within = lane.within;
          returned = column_empty r r' told l.returns others open_column (subst (λ (x : ℕ). r' x ≡ Some false) at (now ∙ ap Some b));
          called = column_same c c' l.returns (l.returns + l.calls) l.calls_over (λ j h. f j) lane.called;
          quiet = λ h. absurd (cc);
        }

      gave_at : (u : ℕ) (b : Bool) → l.unread ≡ u → full ≡ b → unread_or u (place_behind cap l.returns l.returns_over) ≡ Some i → IsLanePlan cap told r' c' (after_unread u b l)
      gave_at (suc n) b u g p = gave_unread n u (cc)
      gave_at zero true u g p = let s = behind_some cap l.returns i l.returns_over p in gave_full s.2 s.0 s.1 g
      gave_at zero false u g p = let s = behind_some cap l.returns i l.returns_over p in gave_empty s.2 s.0 s.1 g

      -- after a look at its next return cell
      pub lane_returned : return_place cap l ≡ Some i → IsLanePlan cap told r' c' (after_return full l)
      lane_returned p = gave_at l.unread full refl refl p

    -- after a look at its next call cell
    module _ (e : (j : ℕ) → r' j ≡ r j) (f : (j : ℕ) → j ≢ i → c' j ≡ c j) (now : c' i ≡ Some full) (ended : l.returns_over ≡ true) (at : i ≡ l.returns + l.calls) (room : l.returns + l.calls < cap) (on : l.calls_over ≡ false) where
      calls_open : IsColumn c l.returns (l.returns + l.calls) false
      calls_open = subst (λ (o : Bool). IsColumn c l.returns (l.returns + l.calls) o) on lane.called

      call_others : (j : ℕ) → l.returns ≤ j → j ≢ l.returns + l.calls → c' j ≡ c j
      call_others j h k = f j (λ m. k (m ∙ at))

      not_quiet : {X : Type 0} → l.returns_over ≡ false → X
      not_quiet h = let x : true ≡ false = sym ended ∙ h in absurd (cc)

      call_full : full ≡ true → IsLanePlan cap told r' c' (record l { calls = l.calls + 1 })
      call_full b = record {
        told_of = lane.told_of;
        left = lane.left;
        unread = λ j h. ap was_read (e j) ∙ lane.unread j h;
        read = λ j h k. ap was_read (e j) ∙ lane.read j h k;
        within = let w : l.returns + l.calls < cap = room in omega arith;
        returned = column_same r r' told l.returns l.returns_over (λ j h. e j) lane.returned;
        called = subst (λ (o : Bool). IsColumn c' l.returns (l.returns + (l.calls + 1)) o) (sym on)
            (subst (λ (x : ℕ). IsColumn c' l.returns x false) (let x : l.returns + l.calls + 1 ≡ l.returns + (l.calls + 1) = omega arith in x)
            (column_full c c' l.returns (l.returns + l.calls) call_others calls_open (subst (λ (x : ℕ). c' x ≡ Some true) at (now ∙ ap Some b))));
        quiet = not_quiet;
      }

      call_empty : full ≡ false → IsLanePlan cap told r' c' (record l { calls_over = true })
      call_empty b = record {
        told_of = lane.told_of;
        left = lane.left;
        unread = λ j h. ap was_read (e j) ∙ lane.unread j h;
        read = λ j h k. ap was_read (e j) ∙ lane.read j h k;
        within = lane.within;
        returned = column_same r r' told l.returns l.returns_over (λ j h. e j) lane.returned;
        called = column_empty c c' l.returns (l.returns + l.calls) call_others calls_open (subst (λ (x : ℕ). c' x ≡ Some false) at (now ∙ ap Some b));
        quiet = not_quiet;
      }

      call_at : (b : Bool) → full ≡ b → IsLanePlan cap told r' c' (after_call b l)
      call_at true g = call_full g
      call_at false g = call_empty g

      pub lane_called : IsLanePlan cap told r' c' (after_call full l)
      lane_called = call_at full refl

-- the cells that a lane names
module _ (cap told : ℕ) (r c : ℕ → Option Bool) (l : LanePlan) (lane : IsLanePlan cap told r c l) where
  last_unread : (u : ℕ) → l.unread ≡ u → (b : Option ℕ) (cell : ℕ → Cell) (next : Option Cell) → named_at cell b ≡ next
      → named_at cell (unread_or u b) ≡ or_else (named_at cell (last_failing (λ i. was_read (r i)) told)) next
  last_unread zero u b cell next e = e ∙ sym (ap (λ (x : Option ℕ). or_else (named_at cell x) next) (last_is_none (λ i. was_read (r i)) told (λ x h. lane.read x (let u' : l.unread ≡ 0 = u in omega arith) h)))
  last_unread (suc n) u b cell next e =
      let u' : l.unread ≡ suc n = u in let t : l.unread ≤ told = lane.left in
      sym (ap (λ (x : Option ℕ). or_else (named_at cell x) next) (last_is (λ i. was_read (r i)) told n (omega arith) (lane.unread n (omega arith)) (λ x h k. lane.read x (let h' : n < x = h in omega arith) k)))

  returns_within : l.returns ≤ cap
  returns_within = let w : l.returns + l.calls ≤ cap = lane.within in omega arith

  pub returns_are : first_failing (λ i. was_full (r i)) told (cap - told) ≡ l.returns
  returns_are = found_is r cap told l.returns l.returns_over returns_within lane.returned

  pub calls_are : (n : ℕ) → n ≡ l.returns → first_failing (λ i. was_full (c i)) n (cap - n) ≡ l.returns + l.calls
  calls_are n e = ap (λ (m : ℕ). first_failing (λ i. was_full (c i)) m (cap - m)) e ∙ found_is c cap l.returns (l.returns + l.calls) l.calls_over lane.within lane.called

  pub return_named : (cell : ℕ → Cell) → named_at cell (return_place cap l)
      ≡ or_else (named_at cell (last_failing (λ i. was_read (r i)) told)) (let n = first_failing (λ i. was_full (r i)) told (cap - told) in if nat_lt n cap && not (was_read (r n)) then Some (cell n) else None)
  return_named cell = last_unread l.unread refl (place_behind cap l.returns l.returns_over) cell (let n = first_failing (λ i. was_full (r i)) told (cap - told) in if nat_lt n cap && not (was_read (r n)) then Some (cell n) else None)
      (sym (ap (λ (n : ℕ). if nat_lt n cap && not (was_read (r n)) then Some (cell n) else None) returns_are ∙ behind_is cell r cap told l.returns l.returns_over lane.returned))

  call_behind : (t : Bool) → nat_lt l.returns cap ≡ t → place_behind cap (l.returns + l.calls) l.calls_over ≡ (if t then place_behind cap (l.returns + l.calls) l.calls_over else None)
  call_behind true e = refl
  call_behind false e =
      let w : l.returns + l.calls ≤ cap = lane.within in let f : cap ≤ l.returns = ltb-false l.returns cap e in
      ap (λ (t : Bool). if t && not l.calls_over then Some (l.returns + l.calls) else None) (le-ltb (l.returns + l.calls) cap (omega arith))

  pub call_named : (cell : ℕ → Cell) → named_at cell (call_place cap l)
      ≡ (let m = first_failing (λ i. was_full (r i)) told (cap - told) in let n = first_failing (λ i. was_full (c i)) m (cap - m) in if nat_lt n cap && not (was_read (c n)) then Some (cell n) else None)
  call_named cell = sym (ap (λ (n : ℕ). if nat_lt n cap && not (was_read (c n)) then Some (cell n) else None) (calls_are (first_failing (λ i. was_full (r i)) told (cap - told)) returns_are) ∙ (behind_is cell c cap l.returns (l.returns + l.calls) l.calls_over lane.called ∙ ap (named_at cell) (call_behind (nat_lt l.returns cap) refl)))

unread_none : (x : Option Bool) → was_read x ≡ false → x ≡ None
unread_none None e = refl
unread_none (Some b) e = absurd (cc)

-- what is next was not looked at
module _ (cap told : ℕ) (r c : ℕ → Option Bool) (l : LanePlan) (lane : IsLanePlan cap told r c l) (i : ℕ) where
  none_returned : (u : ℕ) → l.unread ≡ u → unread_or u (place_behind cap l.returns l.returns_over) ≡ Some i → r i ≡ None
  none_returned zero u p = let s = behind_some cap l.returns i l.returns_over p in subst (λ (x : ℕ). r x ≡ None) (sym s.2) (lane.returned.goes_on s.1)
  none_returned (suc n) u p =
      let same : n ≡ i = cc in let u' : l.unread ≡ suc n = u in
      unread_none (r i) (lane.unread i (omega (arith, same)))

  pub return_unread : return_place cap l ≡ Some i → r i ≡ None
  return_unread p = none_returned l.unread refl p

  pub call_unread : call_place cap l ≡ Some i → c i ≡ None
  call_unread p = let s = call_some cap i l p in subst (λ (x : ℕ). c x ≡ None) (sym s.3) (lane.called.goes_on s.2)

-- a lane of which nothing was looked at
pub lane_fresh : (cap told : ℕ) (r c : ℕ → Option Bool) → told ≤ cap → ((i : ℕ) → r i ≡ None) → ((i : ℕ) → c i ≡ None) → IsLanePlan cap told r c (fresh_lane told)
lane_fresh cap told r c t e f = record {
  told_of = t;
  left = omega arith;
  unread = λ i h. ap was_read (e i);
  read = λ i h k. absurd (let h' : told ≤ i = h in let k' : i < told = k in omega arith);
  within = let t' : told ≤ cap = t in omega arith;
  returned = subst (λ (x : ℕ). IsColumn r told x false) (let x : told + 0 ≡ told = omega arith in x) (column_fresh r told 0 e refl);
  called = column_fresh c told 0 f refl;
  quiet = λ h. (refl, refl, f);
}

-- each look takes one of the looks that are left
module _ (cap : ℕ) (l : LanePlan) where
  fewer_returns : (u : ℕ) (full : Bool) (i : ℕ) → l.unread ≡ u → unread_or u (place_behind cap l.returns l.returns_over) ≡ Some i → lane_left cap (after_unread u full l) < lane_left cap l
  fewer_returns (suc n) full i u p = let u' : l.unread ≡ suc n = u in omega arith
  fewer_returns zero true i u p =
      let s = behind_some cap l.returns i l.returns_over p in let w : l.returns < cap = s.0 in
      let b = ap (λ (o : Bool). if_not o (1 + (cap - l.returns))) s.1 in let d = ap (λ (o : Bool). if_not o (1 + (cap - (l.returns + 1)))) s.1 in
      let m : if_not l.calls_over (1 + (cap - (l.returns + 1 + l.calls))) ≤ if_not l.calls_over (1 + (cap - (l.returns + l.calls))) = no_more l.calls_over in
      omega (arith, b, d, m)
    where
      no_more : (o : Bool) → if_not o (1 + (cap - (l.returns + 1 + l.calls))) ≤ if_not o (1 + (cap - (l.returns + l.calls)))
      no_more true = omega arith
      no_more false = omega arith
  fewer_returns zero false i u p =
      let s = behind_some cap l.returns i l.returns_over p in
      let b = ap (λ (o : Bool). if_not o (1 + (cap - l.returns))) s.1 in omega (arith, b)

  pub fewer_returned : (full : Bool) (i : ℕ) → return_place cap l ≡ Some i → lane_left cap (after_return full l) < lane_left cap l
  fewer_returned full i p = fewer_returns l.unread full i refl p

  pub fewer_called : (full : Bool) (i : ℕ) → call_place cap l ≡ Some i → lane_left cap (after_call full l) < lane_left cap l
  fewer_called true i p =
      let s = call_some cap i l p in let w : l.returns + l.calls < cap = s.1 in
      let b = ap (λ (o : Bool). if_not o (1 + (cap - (l.returns + l.calls)))) s.2 in let d = ap (λ (o : Bool). if_not o (1 + (cap - (l.returns + (l.calls + 1))))) s.2 in omega (arith, b, d)
  fewer_called false i p =
      let s = call_some cap i l p in let b = ap (λ (o : Bool). if_not o (1 + (cap - (l.returns + l.calls)))) s.2 in omega (arith, b)

-- a lane with nothing unread that names a return cell has a place for it
pub return_room : (cap i : ℕ) (l : LanePlan) → return_place cap l ≡ Some i → l.unread ≡ 0 → l.returns < cap
return_room cap i l e z = (behind_some cap l.returns i l.returns_over (ap (λ (u : ℕ). unread_or u (place_behind cap l.returns l.returns_over)) (sym z) ∙ e)).0

pub call_room : (cap i : ℕ) (l : LanePlan) → call_place cap l ≡ Some i → l.calls < cap
call_room cap i l e = let s : l.returns + l.calls < cap = (call_some cap i l e).1 in omega arith

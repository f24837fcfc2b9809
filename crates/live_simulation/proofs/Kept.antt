-- What a state keeps: its sessions stay sessions, and what is found of them are sessions of a history.
use Rattle.std.proofs.Common.{◌≡◌, ℕ, zero, suc, ◌+◌, ◌<◌, ◌≤◌, ◌⊎◌, inl, inr, List, [], ◌∷◌, ◌++◌, length, take, refl, sym, ◌∙◌, ap, arith, subst, set, get_or, length-set}
use Rattle.std.specs.Prelude.{Bool, true, Option, Some, None, Result, Ok, Err, OnOk, OnErr, slice_get}
use Rattle.std.proofs.lemmas.Bool.{cases_eq}
use Rattle.std.proofs.lemmas.Grind.{get_or-set_at}
use Rattle.std.proofs.lemmas.List.{get_or-set_other, length-append, length-take-le}
use Rattle.std.proofs.lemmas.Option.{slice_get_within, slice_get-get_or, get_or_from_slice_get}
use Rattle.model_history.specs.History.{IsSession}
use Rattle.live_recorder.proofs.Telling.{get_push_cases}
use Rattle.live_cut_plan.specs.Plans.{Plan, returns_found, calls_found}
use Rattle.live_seals.specs.Runs.{operations}
use Rattle.live_seals.proofs.Filtered.{take-from}
use Rattle.live_seals.proofs.SealedSessions.{operations_many}
use Rattle.live_seals.proofs.TableLemmas.{none_past}
use Rattle.live_simulation.specs.LaneReplies.{begin_refusal, end_refusal}
use Rattle.live_simulation.specs.Steps.Recordings.{State, IsLane, IsState, lane_of, with_lane, with_call, with_return, found_lane, found_lanes}
use Rattle.live_simulation.proofs.RunsRecorded.{take_next}
use Rattle.live_simulation.proofs.Sessions.{begin_ok, end_ok}

same_some : {A : Type 0} (x : Option A) (a b : A) → x ≡ Some a → x ≡ Some b → a ≡ b
same_some x a b e f = let h : Some a ≡ Some b = sym e ∙ f in cc

module _ {C R : Type 0} (fits : C → R → Bool) where
  pub empty_lane : IsLane fits ([], [])
  empty_lane = record { short = omega arith; ended_once = omega arith; fitting = λ i c r at. absurd (none i c at) }
    where
      none : (i : ℕ) (c : C) → slice_get {X = C} [] i ≡ Some c → ⊥
      none zero c h = cc
      none (suc i) c h = cc

  call_lane : (cs : List C) (rs : List R) (c : C) → IsLane fits (cs, rs) → length cs < 256 → IsLane fits (cs ++ c ∷ [], rs)
  call_lane cs rs c lane few = record {
    short = let l : length (cs ++ c ∷ []) ≡ length cs + 1 = length-append cs (c ∷ []) in let f : length cs < 256 = few in omega arith;
    ended_once = let l : length (cs ++ c ∷ []) ≡ length cs + 1 = length-append cs (c ∷ []) in let e : length rs ≤ length cs = lane.ended_once in omega arith;
    fitting = λ i d r at ret. elim (get_push_cases cs c i d at) [
      | inl old ↦ lane.fitting i d r old ret
      | inr last ↦
          let within : i < length rs = slice_get_within rs i r ret in
          let end : i ≡ length cs = last.0 in let e : length rs ≤ length cs = lane.ended_once in absurd (omega arith)
    ];
  }

  return_lane : (cs : List C) (rs : List R) (c : C) (r : R) → IsLane fits (cs, rs) → slice_get cs (length rs) ≡ Some c → fits c r ≡ true → IsLane fits (cs, rs ++ r ∷ [])
  return_lane cs rs c r lane at fit = record {
    short = lane.short;
    ended_once = let l : length (rs ++ r ∷ []) ≡ length rs + 1 = length-append rs (r ∷ []) in let w : length rs < length cs = slice_get_within cs (length rs) c at in omega arith;
    fitting = λ i d x call ret. elim (get_push_cases rs r i x ret) [
      | inl old ↦ lane.fitting i d x call old
      | inr last ↦
          let same : c ≡ d = same_some (slice_get cs i) c d (subst (λ (n : ℕ). slice_get cs n ≡ Some c) (sym last.0) at) call in
          subst (λ (y : R). fits d y ≡ true) last.1 (subst (λ (y : C). fits y r ≡ true) same fit)
    ];
  }

module _ {S C R : Type 0} (is_start : S → Type 0) (fits : C → R → Bool) (w : State S C R) (is : IsState is_start fits w) (s : ℕ) where
  lane_kept : (lane : List C × List R) → s < length w.lanes → IsLane fits lane → IsState is_start fits (with_lane w s lane)
  lane_kept lane there good = record {
    start = is.start;
    few = let n : length (set w.lanes s lane) ≡ length w.lanes = length-set w.lanes s lane in let f : length w.lanes ≤ 16 = is.few in omega arith;
    each = λ t. elim (cases_eq t s) [
      | inl same ↦ subst (λ (l : List C × List R). IsLane fits l) (sym (get_or-set_at w.lanes s t lane ([], []) same there)) good
      | inr other ↦ subst (λ (l : List C × List R). IsLane fits l) (sym (get_or-set_other w.lanes s t lane ([], []) other)) (is.each t)
    ];
  }

  pub call_kept : (c : C) → begin_refusal (length w.lanes) s (lane_of w s).0 (lane_of w s).1 ≡ None → IsState is_start fits (with_call w s c)
  call_kept c none =
      let ok = begin_ok (length w.lanes) s (lane_of w s).0 (lane_of w s).1 none in
      lane_kept ((lane_of w s).0 ++ c ∷ [], (lane_of w s).1) ok.0 (call_lane fits (lane_of w s).0 (lane_of w s).1 c (is.each s) ok.2)

  pub return_kept : (r : R) → end_refusal (length w.lanes) s (lane_of w s).0 (lane_of w s).1 fits r ≡ None → IsState is_start fits (with_return w s r)
  return_kept r none =
      let ok = end_ok (length w.lanes) s (lane_of w s).0 (lane_of w s).1 fits r none in
      lane_kept ((lane_of w s).0, (lane_of w s).1 ++ r ∷ []) ok.0 (return_lane fits (lane_of w s).0 (lane_of w s).1 ok.1.0 r (is.each s) ok.1.1 ok.1.2)

  pub same_lane : (old : List C × List R) → s < length w.lanes → old ≡ get_or w.lanes s old → old ≡ lane_of w s
  same_lane old there e = e ∙ get_or_from_slice_get w.lanes s (lane_of w s) old (slice_get-get_or w.lanes s ([], []) there)

  -- a session that was pushed to, or was not
  pub call_closed : (c : C) (old new : List C × List R) → begin_refusal (length w.lanes) s (lane_of w s).0 (lane_of w s).1 ≡ None → old ≡ get_or w.lanes s old
      → (new ≡ (old.0 ++ c ∷ [], old.1)) ⊎ (new ≡ old) → IsState is_start fits (with_lane w s new)
  call_closed c old new none value (inl e) =
      let same : old ≡ lane_of w s = same_lane old (begin_ok (length w.lanes) s (lane_of w s).0 (lane_of w s).1 none).0 value in
      let whole : ((lane_of w s).0 ++ c ∷ [], (lane_of w s).1) ≡ new = sym (e ∙ ap {B = List C × List R} (λ (l : List C × List R). (l.0 ++ c ∷ [], l.1)) same) in
      subst (λ (l : List C × List R). IsState is_start fits (with_lane w s l)) whole (call_kept c none)
  call_closed c old new none value (inr e) =
      let there : s < length w.lanes = (begin_ok (length w.lanes) s (lane_of w s).0 (lane_of w s).1 none).0 in
      subst (λ (l : List C × List R). IsState is_start fits (with_lane w s l)) (sym (e ∙ same_lane old there value)) (lane_kept (lane_of w s) there (is.each s))

  pub return_closed : (r : R) (old new : List C × List R) → end_refusal (length w.lanes) s (lane_of w s).0 (lane_of w s).1 fits r ≡ None → old ≡ get_or w.lanes s old
      → (new ≡ (old.0, old.1 ++ r ∷ [])) ⊎ (new ≡ old) → IsState is_start fits (with_lane w s new)
  return_closed r old new none value (inl e) =
      let same : old ≡ lane_of w s = same_lane old (end_ok (length w.lanes) s (lane_of w s).0 (lane_of w s).1 fits r none).0 value in
      let whole : ((lane_of w s).0, (lane_of w s).1 ++ r ∷ []) ≡ new = sym (e ∙ ap {B = List C × List R} (λ (l : List C × List R). (l.0, l.1 ++ r ∷ [])) same) in
      subst (λ (l : List C × List R). IsState is_start fits (with_lane w s l)) whole (return_kept r none)
  return_closed r old new none value (inr e) =
      let there : s < length w.lanes = (end_ok (length w.lanes) s (lane_of w s).0 (lane_of w s).1 fits r none).0 in
      subst (λ (l : List C × List R). IsState is_start fits (with_lane w s l)) (sym (e ∙ same_lane old there value)) (lane_kept (lane_of w s) there (is.each s))

before_some : {R : Type 0} (rs : List R) (i j : ℕ) (r : R) → i < j → slice_get rs i ≡ None → slice_get rs j ≡ Some r → ⊥
before_some rs i j r l none at =
    let past : length rs ≤ i = none_past rs i none in let within : j < length rs = slice_get_within rs j r at in omega arith

-- calls with returns, place by place
module _ {C R : Type 0} where
  pub operations_push : (cs : List C) (rs : List R) (c : C) → operations (cs ++ c ∷ []) rs ≡ operations cs rs ++ (c, slice_get rs (length cs)) ∷ []
  operations_push [] [] c = refl
  operations_push [] (r ∷ rs) c = refl
  operations_push (d ∷ cs) [] c =
      let rest = operations_push cs [] c in
      (λ i. (d, None) ∷ rest i) ∙ ap {B = List (C × Option R)} (λ (o : Option R). (d, None) ∷ (operations cs [] ++ (c, o) ∷ [])) (none_there (length cs))
    where
      none_there : (n : ℕ) → slice_get {X = R} [] n ≡ slice_get {X = R} [] (suc n)
      none_there zero = refl
      none_there (suc n) = refl
  operations_push (d ∷ cs) (r ∷ rs) c = let rest = operations_push cs rs c in (λ i. (d, Some r) ∷ rest i)

  -- one operation more
  pub operations_next : (cs : List C) (rs : List R) (i : ℕ) (c : C) → slice_get cs i ≡ Some c → operations (take (i + 1) cs) rs ≡ operations (take i cs) rs ++ (c, slice_get rs i) ∷ []
  operations_next cs rs i c at =
      let within : i < length cs = slice_get_within cs i c at in
      let one : i + 1 ≡ suc i = omega arith in
      let next : take (i + 1) cs ≡ take i cs ++ c ∷ [] = ap (λ (n : ℕ). take n cs) one ∙ take_next cs i c at in
      let many : length (take i cs) ≡ i = length-take-le i cs (omega arith) in
      ap (λ (xs : List C). operations xs rs) next
      ∙ (operations_push (take i cs) rs c ∙ ap {B = List (C × Option R)} (λ (n : ℕ). operations (take i cs) rs ++ (c, slice_get rs n) ∷ []) many)

  pub operations_pushed : (cs : List C) (rs : List R) (i : ℕ) (c : C) (o : Option R) (ops new : List (C × Option R)) → slice_get cs i ≡ Some c → o ≡ slice_get rs i → ops ≡ operations (take i cs) rs
      → new ≡ ops ++ (c, o) ∷ [] → new ≡ operations (take (i + 1) cs) rs
  operations_pushed cs rs i c o ops new at o_is ops_is new_is = new_is ∙ ((λ j. ops_is j ++ (c, o_is j) ∷ []) ∙ sym (operations_next cs rs i c at))

  abbrev first : Option (C × Option R) → Option C
  first None = None
  first (Some x) = Some x.0

  abbrev second : Option (C × Option R) → Option (Option R)
  second None = None
  second (Some x) = Some x.1

  operations_at : (cs : List C) (rs : List R) (i : ℕ) (c : C) (o : Option R) → slice_get (operations cs rs) i ≡ Some (c, o) → (slice_get cs i ≡ Some c) × (slice_get rs i ≡ o)
  operations_at [] rs zero c o e = absurd (cc)
  operations_at [] rs (suc i) c o e = absurd (cc)
  operations_at (d ∷ cs) [] zero c o e = let p : ◌≡◌ {A = Option (C × Option R)} (Some (d, None)) (Some (c, o)) = e in (let same : Some d ≡ Some c = ap first p in same, let same : Some None ≡ Some o = ap second p in cc)
  operations_at (d ∷ cs) [] (suc i) c o e = let r = operations_at cs [] i c o e in (r.0, none_there i ∙ r.1)
    where
      none_there : (n : ℕ) → slice_get {X = R} [] (suc n) ≡ slice_get {X = R} [] n
      none_there zero = refl
      none_there (suc n) = refl
  operations_at (d ∷ cs) (r ∷ rs) zero c o e = let p : ◌≡◌ {A = Option (C × Option R)} (Some (d, Some r)) (Some (c, o)) = e in (let same : Some d ≡ Some c = ap first p in same, let same : Some (Some r) ≡ Some o = ap second p in cc)
  operations_at (d ∷ cs) (r ∷ rs) (suc i) c o e = operations_at cs rs i c o e

  -- the first calls with the first returns of a session are a session of a history
  pub found_session : (fits : C → R → Bool) (lane : List C × List R) (n m : ℕ) → IsLane fits lane → IsSession fits (operations (take n lane.0) (take m lane.1))
  found_session fits lane n m is = record {
    short = let many : length (operations (take n lane.0) (take m lane.1)) ≡ length (take n lane.0) = operations_many (take n lane.0) (take m lane.1) in
        let few : length (take n lane.0) ≤ length lane.0 = take_few n lane.0 in let s : length lane.0 ≤ 256 = is.short in omega arith;
    fitting = λ i c r at. let p = operations_at (take n lane.0) (take m lane.1) i c (Some r) at in
        is.fitting i c r (take-from n lane.0 i c p.0).1 (take-from m lane.1 i r p.1).1;
    known_first = λ i j c d r l at at'.
        before_some (take m lane.1) i j r l (operations_at (take n lane.0) (take m lane.1) i c None at).1 (operations_at (take n lane.0) (take m lane.1) j d (Some r) at').1;
  }
    where
      take_few : {A : Type 0} (n : ℕ) (xs : List A) → length (take n xs) ≤ length xs
      take_few zero xs = omega arith
      take_few (suc n) [] = omega arith
      take_few (suc n) (x ∷ xs) = let l : length (take n xs) ≤ length xs = take_few n xs in omega arith

-- one session more
module _ {S C R : Type 0} (w : State S C R) (p : Plan) where
  found_suc : (s n : ℕ) → found_lanes w p s (suc n) ≡ found_lanes w p s n ++ found_lane w p (s + n) ∷ []
  found_suc s zero = ap (λ (t : ℕ). found_lane w p t ∷ []) (let e : s ≡ s + 0 = omega arith in e)
  found_suc s (suc n) =
      ap (λ (ls : List (List (C × Option R))). found_lane w p s ∷ ls) (found_suc (s + 1) n ∙ ap (λ (t : ℕ). found_lanes w p (s + 1) n ++ found_lane w p t ∷ []) (let e : s + 1 + n ≡ s + suc n = omega arith in e))

  pub found_next : (n : ℕ) → found_lanes w p 0 (n + 1) ≡ found_lanes w p 0 n ++ found_lane w p n ∷ []
  found_next n =
      ap (found_lanes w p 0) (let e : n + 1 ≡ suc n = omega arith in e)
      ∙ (found_suc 0 n ∙ ap (λ (t : ℕ). found_lanes w p 0 n ++ found_lane w p t ∷ []) (let e : 0 + n ≡ n = omega arith in e))

  pub found_here : (s n m : ℕ) (lane : List C × List R) (ops : List (C × Option R)) → ops ≡ operations (take n lane.0) (take m lane.1) → lane ≡ lane_of w s → n ≡ calls_found p s → m ≡ returns_found p s → ops ≡ found_lane w p s
  found_here s n m lane ops is lane_is calls_is returns_is = is ∙ (λ j. operations (take (calls_is j) (lane_is j).0) (take (returns_is j) (lane_is j).1))

  pub found_pushed : (n : ℕ) (old new : List (List (C × Option R))) (ops : List (C × Option R)) → new ≡ old ++ ops ∷ [] → ops ≡ found_lane w p n → old ≡ found_lanes w p 0 n → new ≡ found_lanes w p 0 (n + 1)
  found_pushed n old new ops new_is ops_is old_is = new_is ∙ ((λ j. old_is j ++ ops_is j ∷ []) ∙ sym (found_next n))

-- one more that is as the others
module _ {A : Type 0} (P : A → Type 0) (y d : A) (py : P y) where
  each_with : (zs : List A) → ((u : ℕ) → P (get_or zs u d)) → (u : ℕ) → P (get_or (zs ++ y ∷ []) u d)
  each_with [] f zero = py
  each_with [] f (suc u) = f u
  each_with (z ∷ zs) f zero = f zero
  each_with (z ∷ zs) f (suc u) = each_with zs (λ v. f (suc v)) u

  pub each_more : (xs new : List A) → new ≡ xs ++ y ∷ [] → ((t : ℕ) → P (get_or xs t d)) → (t : ℕ) → P (get_or new t d)
  each_more xs new is e t = subst (λ (ys : List A). P (get_or ys t d)) (sym is) (each_with xs e t)

-- what a call did: as it says of Ok, or as it says of Err
pub either : {X E A B : Type 0} (r : Result X E) → OnOk r A → OnErr r B → A ⊎ B
either (Ok x) a b = inl a
either (Err e) a b = inr b

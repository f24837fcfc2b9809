-- The history that is sealed, and what it holds of receipts.
use Rattle.std.proofs.Common.{◌≡◌, ◌≢◌, ℕ, zero, suc, ◌+◌, ◌-◌, ◌<◌, ◌≤◌, ◌⊎◌, List, [], ◌∷◌, ◌++◌, length, inl, inr, refl, sym, ◌∙◌, ap, subst, arith, get_or}
use Rattle.std.specs.Prelude.{Bool, true, Option, Some, None, option_map, slice_get, map}
use Rattle.std.specs.List.{filter_map}
use Rattle.std.proofs.lemmas.Bool.{cases_lt, cases_eq}
use Rattle.std.proofs.lemmas.Option.{slice_get_within, get_or_from_slice_get}
use Rattle.model_history.specs.History.{IsHistory, IsSession, session}
use Rattle.model_history.specs.declared.advice.Advice.{Advice}
use Rattle.live_recorder.specs.Lanes.{Cells, IsLane, Returned}
use Rattle.live_recorder.specs.Sessions.{ReceiptState, LanesState}
use Rattle.live_recorder.proofs.Telling.{get_map, get_push_cases}
use Rattle.live_cut_plan.specs.Plans.{Look, Plan, seen_at, was_full, return_cell, call_cell, first_failing, after_looks, fresh_plan, returns_found, calls_found, Follows}
use Rattle.live_seals.specs.declared.longest.LongestReceipt.{LongestReceipt}
use Rattle.live_seals.specs.Seals.{AdvisesAll, AreReceiptsOf, HoldsAll, HoldsFound, IsSealOf}
use Rattle.live_seals.specs.Steps.Tables.{SealedNotes, TableState, IsSealedSession, IsTable, IsLongest, RunsTo, TellsLooks, advised, names, was_found}
use Rattle.live_seals.specs.Steps.Sealing.{AreSealedSessions, AreLanesFound, IsLaneFound, IsLaneSealed, IsOfTable, AreLanesSealed, IsShown, IsToldBy}
use Rattle.live_seals.specs.Steps.Comparing.{ReturnAgrees, SharesCells}
use Rattle.live_seals.proofs.TableLemmas.{none_past, pointwise_length}
use Rattle.live_seals.proofs.FoundLooks.{after_is, found_is_full, runs_first, runs_on, runs_same}
use Rattle.live_seals.proofs.Advising.{advised_at, lane_advised}
use Rattle.live_seals.proofs.Meetings.{get_in, knowns_are, return_at, read_from}

some_is : {A : Type 0} (x y : A) → Some x ≡ Some y → x ≡ y
some_is x y e = cc

none_there : {A : Type 0} {x : A} (i : ℕ) → slice_get {X = A} [] i ≡ Some x → ⊥
none_there zero e = cc
none_there (suc i) e = cc

get_or_past : {A : Type 0} (xs : List A) (i : ℕ) (d : A) → length xs ≤ i → get_or xs i d ≡ d
get_or_past [] zero d h = refl
get_or_past [] (suc i) d h = refl
get_or_past (x ∷ xs) zero d h = absurd (let h' : suc (length xs) ≤ 0 = h in omega arith)
get_or_past (x ∷ xs) (suc i) d h = get_or_past xs i d (let h' : suc (length xs) ≤ suc i = h in omega arith)

module _ {C R : Type 0} (fits : C → R → Bool) where
  session_none : IsSession {C = C} {R = R} fits []
  session_none = record { short = omega arith; fitting = λ i c r e. absurd (none_there i e); known_first = λ i j c d r l e f. absurd (none_there i e) }

  module _ (es : List (C × Option R)) (l : SealedNotes C R) (is : IsSealedSession fits es l) where
    -- an entry is one of the first, with its return, or one behind them, without
    entry_cases : (i : ℕ) (e : C × Option R) → slice_get es i ≡ Some e → ((i < length l.returns) × ((r : R) × (e.1 ≡ Some r) × (fits e.0 r ≡ true))) ⊎ ((length l.returns ≤ i) × (e.1 ≡ None))
    entry_cases i e at = elim (cases_lt i (length l.returns)) [
      | inl h ↦ let n = get_in l.returns i h in let s = is.returned i n.0 n.1 in
          let same : (s.0, Some s.1) ≡ e = some_is (s.0, Some s.1) e (sym s.3 ∙ at) in
          inl (h, (s.1, sym (ap (λ (x : C × Option R). x.1) same), subst (λ (c : C). fits c s.1 ≡ true) (ap (λ (x : C × Option R). x.0) same) s.4))
      | inr h ↦ inr (h, behind h)
    ]
      where
        behind : length l.returns ≤ i → e.1 ≡ None
        behind h =
            let w : i < length es = slice_get_within es i e at in let m : length es ≡ length l.returns + length l.calls = is.many in
            let n = get_in l.calls (i - length l.returns) (omega arith) in let s = is.called (i - length l.returns) n.0 n.1 in
            let x : length l.returns + (i - length l.returns) ≡ i = omega arith in
            let same : (s.0, None) ≡ e = some_is (s.0, None) e (sym (subst (λ (y : ℕ). slice_get es y ≡ Some (s.0, None)) x s.2) ∙ at) in
            sym (ap (λ (x : C × Option R). x.1) same)

    pub session_is : length es ≤ 256 → IsSession fits es
    session_is short = record {
      short = short;
      fitting = λ i c r e. elim (entry_cases i (c, Some r) e) [
        | inl h ↦ let same : Some r ≡ Some h.1.0 = h.1.1 in subst (λ (x : R). fits c x ≡ true) (sym (some_is r h.1.0 same)) h.1.2
        | inr h ↦ let bad : Some r ≡ None = h.1 in absurd (cc)
      ];
      known_first = λ i j c d r less e f. elim (entry_cases i (c, None) e) [
        | inl h ↦ let bad : None ≡ Some h.1.0 = h.1.1 in absurd (cc)
        | inr h ↦ elim (entry_cases j (d, Some r) f) [
          | inl k ↦ absurd (let x : j < length l.returns = k.0 in let y : length l.returns ≤ i = h.0 in let z : i < j = less in omega arith)
          | inr k ↦ let bad : Some r ≡ None = k.1 in absurd (cc)
        ]
      ];
    }

  module _ {S : Type 0} (lanes : LanesState S) (rs : List (ReceiptState C R)) (ess : List (List (C × Option R))) (ls : List (SealedNotes C R)) (a : AreLanesSealed fits lanes.cells rs ess ls) where
    lane_at : (s : ℕ) (es : List (C × Option R)) → slice_get ess s ≡ Some es → (l : SealedNotes C R) × (lane : Cells) × (slice_get ls s ≡ Some l) × (slice_get lanes.cells s ≡ Some lane)
    lane_at s es e =
        let w : s < length ess = slice_get_within ess s es e in let m : length ess ≡ length lanes.cells = a.sessions in let n : length ls ≡ length lanes.cells = a.lanes in
        let l = get_in ls s (omega arith) in let lane = get_in lanes.cells s (omega arith) in (l.0, lane.0, l.1, lane.1)

    session_at : (start : S) (s : ℕ) (es : List (C × Option R)) → slice_get ess s ≡ Some es → session (start, ess) s ≡ es
    session_at start s es e = get_or_from_slice_get ess s es [] e

    each_session : (start : S) (s : ℕ) (x : Option (List (C × Option R))) → slice_get ess s ≡ x → IsSession fits (session (start, ess) s)
    each_session start s None e = subst (λ (y : List (C × Option R)). IsSession fits y) (sym (get_or_past ess s [] (none_past ess s e))) session_none
    each_session start s (Some es) e =
        let at = lane_at s es e in let is = a.each s es at.0 at.1 e at.2 at.3 in
        subst (λ (y : List (C × Option R)). IsSession fits y) (sym (session_at start s es e)) (session_is es at.0 is.session is.short)

    pub history_is : (is_start : S → Type 0) (start : S) → is_start start → length lanes.cells ≤ 16 → IsHistory is_start fits (start, ess)
    history_is is_start start ok few = record {
      start = ok;
      few = let m : length ess ≡ length lanes.cells = a.sessions in let f : length lanes.cells ≤ 16 = few in omega arith;
      each = λ s. each_session start s (slice_get ess s) refl;
    }

    pub sessions_are : (start : S) → AreSealedSessions fits (start, ess) ls
    sessions_are start = record {
      many = a.lanes ∙ sym a.sessions;
      each = λ s l e.
          let w : s < length ls = slice_get_within ls s l e in let m : length ess ≡ length lanes.cells = a.sessions in let n : length ls ≡ length lanes.cells = a.lanes in
          let es = get_in ess s (omega arith) in let lane = get_in lanes.cells s (omega arith) in
          subst (λ (y : List (C × Option R)). IsSealedSession fits y l) (sym (session_at start s es.0 es.1)) (a.each s es.0 l lane.0 es.1 e lane.1).session;
    }

    pub seal_is : (start : S) → start ≡ lanes.start → IsSealOf lanes (record { history = (start, ess); cells = map names ls; advice = map advised ls })
    seal_is start same = record {
      start = same;
      many = a.sessions;
      each = λ s lane e.
          let w : s < length lanes.cells = slice_get_within lanes.cells s lane e in let m : length ess ≡ length lanes.cells = a.sessions in let n : length ls ≡ length lanes.cells = a.lanes in
          let es = get_in ess s (omega arith) in let l = get_in ls s (omega arith) in
          (names l.0, get_map names ls s ∙ ap (option_map names) l.1, read_from lane l.0 (a.each s es.0 l.0 lane es.1 l.1 e).notes);
    }

    -- the history holds what looks found, if they follow a plan
    module _ (start : S) (looks : List Look) (told : List ℕ) (cap : ℕ) (found : AreLanesFound looks told cap ess ls) (f : Follows (fresh_plan (length lanes.cells) cap told) looks) where
      abbrev found_plan : Plan
      found_plan = after_looks (fresh_plan (length lanes.cells) cap told) looks

      plan_is : found_plan ≡ record { lanes = length lanes.cells; cap = cap; told = told; looks = looks }
      plan_is = after_is (fresh_plan (length lanes.cells) cap told) looks

      lane_of : (s : ℕ) → s < found_plan.lanes → (es : List (C × Option R)) × (l : SealedNotes C R) × (slice_get ess s ≡ Some es) × (length (filter_map (λ (e : C × Option R). e.1) es) ≡ length l.returns) × IsLaneFound looks s (get_or told s 0) cap es l
      lane_of s h =
          let w : s < length lanes.cells = subst (λ (p : Plan). s < p.lanes) plan_is h in let m : length ess ≡ length lanes.cells = a.sessions in
          let es = get_in ess s (omega arith) in let at = lane_at s es.0 es.1 in
          (es.0, at.0, es.1, knowns_are fits es.0 at.0 (a.each s es.0 at.0 at.1 es.1 at.2 at.3).session, found s es.0 at.0 es.1 at.2)

      returns_are : (s : ℕ) (es : List (C × Option R)) (l : SealedNotes C R) → IsLaneFound looks s (get_or told s 0) cap es l → returns_found found_plan s ≡ length l.returns
      returns_are s es l r =
          let T : ℕ → Bool = λ i. was_full (seen_at found_plan.looks (return_cell s i)) in
          ap (λ (p : Plan). first_failing T (get_or p.told s 0) (p.cap - get_or p.told s 0)) plan_is
          ∙ runs_first T (get_or told s 0) (length l.returns) cap (runs_same (λ i. was_found looks (return_cell s i)) T (get_or told s 0) (length l.returns) cap (λ i. found_is_full (fresh_plan (length lanes.cells) cap told) looks f refl (return_cell s i)) r.returns)

      calls_are : (s : ℕ) (es : List (C × Option R)) (l : SealedNotes C R) → IsLaneFound looks s (get_or told s 0) cap es l → calls_found found_plan s ≡ length es
      calls_are s es l r =
          let T : ℕ → Bool = λ i. was_full (seen_at found_plan.looks (call_cell s i)) in
          ap (λ (n : ℕ). first_failing T n (found_plan.cap - n)) (returns_are s es l r)
          ∙ (ap (λ (p : Plan). first_failing T (length l.returns) (p.cap - length l.returns)) plan_is
          ∙ runs_first T (length l.returns) (length es) cap (runs_same (λ i. was_found looks (call_cell s i)) T (length l.returns) (length es) cap (λ i. found_is_full (fresh_plan (length lanes.cells) cap told) looks f refl (call_cell s i)) r.calls))

      pub holds_found : HoldsFound found_plan (start, ess)
      holds_found = record {
        returns = λ s h. let l = lane_of s h in ap (λ (es : List (C × Option R)). length (filter_map (λ (e : C × Option R). e.1) es)) (session_at start s l.0 l.2) ∙ (l.3 ∙ sym (returns_are s l.0 l.1 l.4));
        operations = λ s h. let l = lane_of s h in ap length (session_at start s l.0 l.2) ∙ sym (calls_are s l.0 l.1 l.4);
      }

    module _ (of : AreReceiptsOf lanes rs) where
      -- the cells of a receipt are those of the notes of its lane
      pub shared_are : (j : ℕ) (r : ReceiptState C R) → slice_get rs j ≡ Some r → (l : SealedNotes C R) × (slice_get ls r.lane ≡ Some l) × SharesCells r l
      shared_are j r e =
          let o = of j r e in let w : r.lane < length lanes.cells = slice_get_within lanes.cells r.lane o.0 o.1 in
          let m : length ess ≡ length lanes.cells = a.sessions in let n : length ls ≡ length lanes.cells = a.lanes in
          let es = get_in ess r.lane (omega arith) in let l = get_in ls r.lane (omega arith) in let is = a.each r.lane es.0 l.0 o.0 es.1 l.1 o.1 in
          (l.0, l.1, (is.told j r e refl, λ i x h g k q. let s = is.session.returned i k q in (ap Some (some_is x k.0 (sym (o.2 i x g) ∙ is.notes.returns i k q)), ((s.0, s.1, s.2.0), s.2.1))))

      pub holds_all : (start : S) → ((j : ℕ) (r : ReceiptState C R) → slice_get rs j ≡ Some r → IsShown ls r) → HoldsAll (start, ess) rs
      holds_all start show j r e i c x d at =
          let o = of j r e in let w : r.lane < length lanes.cells = slice_get_within lanes.cells r.lane o.0 o.1 in
          let m : length ess ≡ length lanes.cells = a.sessions in let n : length ls ≡ length lanes.cells = a.lanes in
          let es = get_in ess r.lane (omega arith) in let l = get_in ls r.lane (omega arith) in let is = a.each r.lane es.0 l.0 o.0 es.1 l.1 o.1 in
          let less : i < length r.operations = slice_get_within r.operations i (c, x, d) at in let t : length r.operations ≤ length l.0.returns = is.told j r e refl in
          ap (λ (y : List (C × Option R)). slice_get y i) (session_at start r.lane es.0 es.1) ∙ (return_at fits es.0 l.0 is.session i (slice_get r.operations i) (omega arith) (show j r e l.0 l.1 i less) ∙ ap (option_map (λ (y : Returned C R). (y.0, Some y.1))) at)

      pub advises_all : (start : S) → ((j : ℕ) (r : ReceiptState C R) → slice_get rs j ≡ Some r → IsShown ls r) → AdvisesAll (record { history = (start, ess); cells = map names ls; advice = map advised ls }) rs
      advises_all start show j r e i c x d at =
          let o = of j r e in let w : r.lane < length lanes.cells = slice_get_within lanes.cells r.lane o.0 o.1 in
          let m : length ess ≡ length lanes.cells = a.sessions in let n : length ls ≡ length lanes.cells = a.lanes in
          let es = get_in ess r.lane (omega arith) in let l = get_in ls r.lane (omega arith) in let is = a.each r.lane es.0 l.0 o.0 es.1 l.1 o.1 in
          let less : i < length r.operations = slice_get_within r.operations i (c, x, d) at in let t : length r.operations ≤ length l.0.returns = is.told j r e refl in
          ap (λ (y : List (Option Advice)). slice_get y i) (lane_advised ls r.lane l.0 l.1) ∙ advised_at l.0 i (slice_get r.operations i) (omega arith) (show j r e l.0 l.1 i less) (c, x, d) at

  -- the longest receipt of a lane is of its cells
  pub told_by : {S : Type 0} (lanes : LanesState S) (rs : List (ReceiptState C R)) (s n : ℕ) (best : LongestReceipt) (lane : Cells) → AreReceiptsOf lanes rs → IsLongest rs s n best → slice_get lanes.cells s ≡ Some lane → IsToldBy rs lane best
  told_by lanes rs s n best lane of b at h =
      let r = b.reached h in let o = of best.at r.0 r.1 in
      let same : o.0 ≡ lane = some_is o.0 lane (sym o.1 ∙ (ap (slice_get lanes.cells) r.2 ∙ at)) in
      (r.0, r.1, r.3, λ i x e. subst (λ (y : Cells). slice_get y.returns i ≡ Some x) same (o.2 i x e))

  pub count_in : {S : Type 0} (lanes : LanesState S) (rs : List (ReceiptState C R)) (s n : ℕ) (best : LongestReceipt) (lane : Cells) → AreReceiptsOf lanes rs → IsLongest rs s n best → slice_get lanes.cells s ≡ Some lane → best.count ≤ length lane.returns
  count_in lanes rs s n best lane of b at = elim (cases_lt 0 best.count) [
    | inl h ↦ let r = b.reached h in let o = of best.at r.0 r.1 in
        let same : o.0 ≡ lane = some_is o.0 lane (sym o.1 ∙ (ap (slice_get lanes.cells) r.2 ∙ at)) in
        let w : length r.0.cells ≤ length lane.returns = pointwise_length r.0.cells lane.returns (λ i x e. subst (λ (y : Cells). slice_get y.returns i ≡ Some x) same (o.2 i x e)) in
        let m : length r.0.cells ≡ best.count = r.4 in omega arith
    | inr h ↦ let z : best.count ≤ 0 = h in omega arith
  ]

  -- one more lane that was sealed
  pub lanes_more : (cells : List Cells) (rs : List (ReceiptState C R)) (ess ess' : List (List (C × Option R))) (ls ls' : List (SealedNotes C R)) (k : ℕ) (es' : List (C × Option R)) (l' : SealedNotes C R) (lane' : Cells) → length ess ≡ k → length ls ≡ k → slice_get cells k ≡ Some lane'
      → ess' ≡ ess ++ es' ∷ [] → ls' ≡ ls ++ l' ∷ [] → IsLaneSealed fits lane' rs k es' l'
      → ((s : ℕ) (es : List (C × Option R)) (l : SealedNotes C R) (lane : Cells) → slice_get ess s ≡ Some es → slice_get ls s ≡ Some l → slice_get cells s ≡ Some lane → IsLaneSealed fits lane rs s es l)
      → ((s : ℕ) (es : List (C × Option R)) (l : SealedNotes C R) (lane : Cells) → slice_get ess' s ≡ Some es → slice_get ls' s ≡ Some l → slice_get cells s ≡ Some lane → IsLaneSealed fits lane rs s es l)
  lanes_more cells rs ess ess' ls ls' k es' l' lane' me ml at pe pl new each s es l lane e f g =
      elim (get_push_cases ess es' s es (subst (λ (x : List (List (C × Option R))). slice_get x s ≡ Some es) pe e)) [
        | inl h ↦ elim (get_push_cases ls l' s l (subst (λ (x : List (SealedNotes C R)). slice_get x s ≡ Some l) pl f)) [
          | inl q ↦ each s es l lane h q g
          | inr q ↦ absurd (let w : s < length ess = slice_get_within ess s es h in let z : s ≡ length ls = q.0 in let x : length ess ≡ k = me in let y : length ls ≡ k = ml in omega arith)
        ]
        | inr h ↦ elim (get_push_cases ls l' s l (subst (λ (x : List (SealedNotes C R)). slice_get x s ≡ Some l) pl f)) [
          | inl q ↦ absurd (let w : s < length ls = slice_get_within ls s l q in let z : s ≡ length ess = h.0 in let x : length ess ≡ k = me in let y : length ls ≡ k = ml in omega arith)
          | inr q ↦
              let same : lane' ≡ lane = some_is lane' lane (sym at ∙ (ap (slice_get cells) (sym (h.0 ∙ me)) ∙ g)) in
              subst (λ (y : ℕ). IsLaneSealed fits lane rs y es l) (sym (h.0 ∙ me)) (subst (λ (y : Cells). IsLaneSealed fits y rs k es l) same (subst (λ (y : List (C × Option R)). IsLaneSealed fits lane' rs k y l) h.1 (subst (λ (y : SealedNotes C R). IsLaneSealed fits lane' rs k es' y) q.1 new)))
        ]
      ]

-- one more receipt whose operations are shown
module _ {C R : Type 0} (rs : List (ReceiptState C R)) (ls : List (SealedNotes C R)) (k : ℕ) (r : ReceiptState C R) (l : SealedNotes C R) (at : slice_get rs k ≡ Some r) (lane : slice_get ls r.lane ≡ Some l) where
  pub shown_more : ((i : ℕ) → i < length r.operations → ReturnAgrees l.returns i (slice_get r.operations i)) → ((j : ℕ) (q : ReceiptState C R) → j < k → slice_get rs j ≡ Some q → IsShown ls q)
      → (j : ℕ) (q : ReceiptState C R) → j < k + 1 → slice_get rs j ≡ Some q → IsShown ls q
  shown_more agree old j q h e = elim (cases_eq j k) [
    | inl c ↦ subst (λ (x : ReceiptState C R). IsShown ls x) (some_is r q (sym at ∙ (ap (slice_get rs) (sym c) ∙ e))) (λ m f i less. subst (λ (x : SealedNotes C R). ReturnAgrees x.returns i (slice_get r.operations i)) (some_is l m (sym lane ∙ f)) (agree i less))
    | inr c ↦ old j q (let h' : j < k + 1 = h in let c' : j ≢ k = c in omega arith) e
  ]

-- what looks found of lanes
module _ {C R : Type 0} where
  -- what was read of a lane by its table is what looks found
  pub lane_found : (looks : List Look) (s told cap count : ℕ) (lane : Cells) (t : TableState C R) (es : List (C × Option R)) (l : SealedNotes C R) → TellsLooks looks s t → count ≡ told → IsTable lane t → IsLane lane → length lane.calls ≤ cap → IsOfTable t count es l → IsLaneFound looks s told cap es l
  lane_found looks s told cap count lane t es l tells same table even most r =
      let c : length t.calls ≡ length lane.calls = table.call_places in let d : length t.returns ≡ length lane.returns = table.return_places in
      let e : length lane.returns ≡ length lane.calls = even.even in let m : length lane.calls ≤ cap = most in
      record {
        returns = subst (λ (n : ℕ). RunsTo (λ i. was_found looks (return_cell s i)) n (length l.returns) cap) same (runs_on t.returns (λ i. was_found looks (return_cell s i)) count (length l.returns) cap tells.returns (omega arith) r.returns);
        calls = runs_on t.calls (λ i. was_found looks (call_cell s i)) (length l.returns) (length es) cap tells.calls (omega arith) r.calls;
      }

  pub lanes_found_more : (looks : List Look) (told : List ℕ) (cap : ℕ) (ess ess' : List (List (C × Option R))) (ls ls' : List (SealedNotes C R)) (k : ℕ) (es' : List (C × Option R)) (l' : SealedNotes C R) → length ess ≡ k → length ls ≡ k
      → ess' ≡ ess ++ es' ∷ [] → ls' ≡ ls ++ l' ∷ [] → IsLaneFound looks k (get_or told k 0) cap es' l' → AreLanesFound looks told cap ess ls → AreLanesFound looks told cap ess' ls'
  lanes_found_more looks told cap ess ess' ls ls' k es' l' me ml pe pl new each s es l e f =
      elim (get_push_cases ess es' s es (subst (λ (x : List (List (C × Option R))). slice_get x s ≡ Some es) pe e)) [
        | inl h ↦ elim (get_push_cases ls l' s l (subst (λ (x : List (SealedNotes C R)). slice_get x s ≡ Some l) pl f)) [
          | inl q ↦ each s es l h q
          | inr q ↦ absurd (let w : s < length ess = slice_get_within ess s es h in let z : s ≡ length ls = q.0 in let x : length ess ≡ k = me in let y : length ls ≡ k = ml in omega arith)
        ]
        | inr h ↦ elim (get_push_cases ls l' s l (subst (λ (x : List (SealedNotes C R)). slice_get x s ≡ Some l) pl f)) [
          | inl q ↦ absurd (let w : s < length ls = slice_get_within ls s l q in let z : s ≡ length ess = h.0 in let x : length ess ≡ k = me in let y : length ls ≡ k = ml in omega arith)
          | inr q ↦ subst (λ (y : ℕ). IsLaneFound looks y (get_or told y 0) cap es l) (sym (h.0 ∙ me)) (subst (λ (y : List (C × Option R)). IsLaneFound looks k (get_or told k 0) cap y l) h.1 (subst (λ (y : SealedNotes C R). IsLaneFound looks k (get_or told k 0) cap es' y) q.1 new))
        ]
      ]

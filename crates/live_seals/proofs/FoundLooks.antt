-- What looks found: with one more look, by looks that follow a plan, and in the tables of a looker.
use Rattle.std.proofs.Common.{◌≡◌, ◌≢◌, ℕ, suc, zero, ◌+◌, ◌-◌, ◌<◌, ◌≤◌, List, [], ◌∷◌, ◌++◌, length, inl, inr, refl, sym, ◌∙◌, ap, subst, arith, get_or, set, append_assoc, ◌==◌}
use Rattle.std.specs.Prelude.{Bool, true, false, not, ◌&&◌, ◌||◌, Option, Some, None, slice_get, if◌then◌else◌}
use Rattle.std.proofs.lemmas.Bool.{cases_Bool, cases_eq, cases_lt, and_from, and_left, and_parts, and_right, or_from, or_left, or_right, eqb-true}
use Rattle.std.proofs.lemmas.List.{append-nil}
use Rattle.std.proofs.lemmas.Option.{slice_get_past, slice_get_within, slice_get-get_or}
use Rattle.model_history.specs.declared.op_id.OpId.{OpId}
use Rattle.live_recorder.specs.Lanes.{Entry}
use Rattle.live_recorder.specs.Sessions.{LanesState, ReceiptState}
use Rattle.live_cut_plan.specs.declared.cell.Cell.{Cell}
use Rattle.live_cut_plan.specs.declared.cell.Cell.TheVariants.{Return, Call}
use Rattle.live_cut_plan.specs.Plans.{Look, Plan, seen_at, was_read, was_full, same_op, same_cell, return_cell, call_cell, first_failing, last_failing, first_named, named_at, or_else, next_return, next_call, next_cell, looked_at, after_looks, told_of, Follows}
use Rattle.live_cut_plan.proofs.Seen.{seen_other, seen_new, same_op_itself, other_index, other_session}
use Rattle.live_cut_plan.proofs.Columns.{first_is}
use Rattle.live_cut_plan.proofs.ListPlaces.{get_set_same, get_set_other}
use Rattle.live_seals.specs.declared.longest.LongestReceipt.{LongestReceipt}
use Rattle.live_seals.specs.Seals.{AreToldBy}
use Rattle.live_seals.specs.Steps.Tables.{TableState, IsLongest, RunsTo, TellsLooks, was_found, is_note, has_note}

-- one more look
found_empty : (ls : List Look) (c d : Cell) → was_found (ls ++ (c, false) ∷ []) d ≡ was_found ls d
found_empty [] c d = or_from (same_cell c d && false) false (and_right (same_cell c d) false refl) refl
found_empty (l ∷ ls) c d = ap (λ (x : Bool). (same_cell l.0 d && l.1) || x) (found_empty ls c d)

found_other : (ls : List Look) (c d : Cell) (b : Bool) → same_cell c d ≡ false → was_found (ls ++ (c, b) ∷ []) d ≡ was_found ls d
found_other [] c d b e = or_from (same_cell c d && b) false (and_left (same_cell c d) b e) refl
found_other (l ∷ ls) c d b e = ap (λ (x : Bool). (same_cell l.0 d && l.1) || x) (found_other ls c d b e)

found_here : (ls : List Look) (c d : Cell) → same_cell c d ≡ true → was_found (ls ++ (c, true) ∷ []) d ≡ true
found_here [] c d e = or_left (same_cell c d && true) false (and_from (same_cell c d) true e refl)
found_here (l ∷ ls) c d e = or_right (same_cell l.0 d && l.1) (was_found (ls ++ (c, true) ∷ []) d) (found_here ls c d e)

same_op_is : (a b : OpId) → same_op a b ≡ true → a ≡ b
same_op_is a b e =
    let p = and_parts (a.session == b.session) (a.index == b.index) e in let s = eqb-true a.session b.session p.0 in let i = eqb-true a.index b.index p.1 in
    ap (λ (x : ℕ). record { session = x; index = a.index }) s ∙ ap (λ (x : ℕ). record { session = b.session; index = x }) i

same_is : (c d : Cell) → same_cell c d ≡ true → c ≡ d
same_is (Return a) (Return b) e = ap Return (same_op_is a b e)
same_is (Return a) (Call b) e = absurd (cc)
same_is (Call a) (Return b) e = absurd (cc)
same_is (Call a) (Call b) e = ap Call (same_op_is a b e)

-- the cell that is next was not looked at
read_none : (x : Option Bool) → was_read x ≡ false → x ≡ None
read_none None e = refl
read_none (Some b) e = absurd (cc)

last_fails : (test : ℕ → Bool) (n j : ℕ) → last_failing test n ≡ Some j → test j ≡ false
last_fails test zero j e = absurd (cc)
last_fails test (suc n) j e = elim (cases_Bool (test n)) [
  | inl t ↦ last_fails test n j (sym (ap (λ (b : Bool). if b then last_failing test n else Some n) t) ∙ e)
  | inr f ↦ let here : Some n ≡ Some j = sym (ap (λ (b : Bool). if b then last_failing test n else Some n) f) ∙ e in let is : n ≡ j = cc in subst (λ (x : ℕ). test x ≡ false) is f
]

module _ (p : Plan) (c : Cell) where
  unread_fails : (cell : ℕ → Cell) (i : ℕ) (t : Bool) → (if t && not (was_read (seen_at p.looks (cell i))) then Some (cell i) else None) ≡ Some c → seen_at p.looks c ≡ None
  unread_fails cell i false e = absurd (cc)
  unread_fails cell i true e = elim (cases_Bool (was_read (seen_at p.looks (cell i)))) [
    | inl t ↦ let bad : None ≡ Some c = sym (ap (λ (b : Bool). if true && not b then Some (cell i) else None) t) ∙ e in absurd (cc)
    | inr f ↦ let here : Some (cell i) ≡ Some c = sym (ap (λ (b : Bool). if true && not b then Some (cell i) else None) f) ∙ e in let is : cell i ≡ c = cc in subst (λ (x : Cell). seen_at p.looks x ≡ None) is (read_none (seen_at p.looks (cell i)) f)
  ]

  named_fails : (s : ℕ) (x : Option ℕ) → ((j : ℕ) → x ≡ Some j → was_read (seen_at p.looks (return_cell s j)) ≡ false) → named_at (return_cell s) x ≡ Some c → seen_at p.looks c ≡ None
  named_fails s None f e = absurd (cc)
  named_fails s (Some j) f e = let is : return_cell s j ≡ c = cc in subst (λ (x : Cell). seen_at p.looks x ≡ None) is (read_none (seen_at p.looks (return_cell s j)) (f j refl))

  either : {X : Type 0} (a b : Option Cell) → (a ≡ Some c → X) → (b ≡ Some c → X) → or_else a b ≡ Some c → X
  either None b f g e = g e
  either (Some d) b f g e = f e

  first_named_is : {X : Type 0} (f : ℕ → Option Cell) (s n : ℕ) → ((j : ℕ) → f j ≡ Some c → X) → first_named f s n ≡ Some c → X
  first_named_is f s zero g e = absurd (cc)
  first_named_is f s (suc n) g e = either (f s) (first_named f (s + 1) n) (g s) (first_named_is f (s + 1) n g) e

  next_unread : next_cell p ≡ Some c → seen_at p.looks c ≡ None
  next_unread e = either (first_named (next_return p) 0 p.lanes) (first_named (next_call p) 0 p.lanes)
      (first_named_is (next_return p) 0 p.lanes (λ s h. either (named_at (return_cell s) (last_failing (λ i. was_read (seen_at p.looks (return_cell s i))) (told_of p s))) _
      (named_fails s (last_failing (λ i. was_read (seen_at p.looks (return_cell s i))) (told_of p s)) (last_fails (λ i. was_read (seen_at p.looks (return_cell s i))) (told_of p s)))
      (unread_fails (return_cell s) _ _) h))
      (first_named_is (next_call p) 0 p.lanes (λ s h. unread_fails (call_cell s) _ _ h)) e

-- looks of which each is at a cell that was not looked at before find what was seen
abbrev Agree : List Look → Type 0
Agree ls = (d : Cell) → was_found ls d ≡ was_full (seen_at ls d)

same_itself : (c : Cell) → same_cell c c ≡ true
same_itself (Return o) = same_op_itself o
same_itself (Call o) = same_op_itself o

agree_here : (ls : List Look) (c : Cell) (b : Bool) → seen_at ls c ≡ None → Agree ls → was_found (ls ++ (c, b) ∷ []) c ≡ was_full (seen_at (ls ++ (c, b) ∷ []) c)
agree_here ls c true none a = found_here ls c c (same_itself c) ∙ sym (ap was_full (seen_new ls c true (same_itself c) none))
agree_here ls c false none a = found_empty ls c c ∙ (a c ∙ (ap was_full none ∙ sym (ap was_full (seen_new ls c false (same_itself c) none))))

agree_more : (ls : List Look) (c : Cell) (b : Bool) → seen_at ls c ≡ None → Agree ls → Agree (ls ++ (c, b) ∷ [])
agree_more ls c b none a d = elim (cases_Bool (same_cell c d)) [
  | inl t ↦ subst (λ (x : Cell). was_found (ls ++ (c, b) ∷ []) x ≡ was_full (seen_at (ls ++ (c, b) ∷ []) x)) (same_is c d t) (agree_here ls c b none a)
  | inr f ↦ found_other ls c d b f ∙ (a d ∙ sym (ap was_full (seen_other ls c d b f)))
]

agree_after : (p : Plan) (ls : List Look) → Follows p ls → Agree p.looks → Agree (after_looks p ls).looks
agree_after p [] f a = a
agree_after p (l ∷ ls) f a = agree_after (looked_at p (Some l.0) l.1) ls f.1 (agree_more p.looks l.0 l.1 (next_unread p l.0 f.0) a)

-- a plan after looks has these behind its own
pub after_is : (p : Plan) (ls : List Look) → after_looks p ls ≡ record { lanes = p.lanes; cap = p.cap; told = p.told; looks = p.looks ++ ls }
after_is p [] = ap (λ (x : List Look). record { lanes = p.lanes; cap = p.cap; told = p.told; looks = x }) (sym (append-nil p.looks))
after_is p (l ∷ ls) = after_is (looked_at p (Some l.0) l.1) ls ∙ ap (λ (x : List Look). record { lanes = p.lanes; cap = p.cap; told = p.told; looks = x }) (append_assoc p.looks (l ∷ []) ls)

pub found_is_full : (p : Plan) (ls : List Look) → Follows p ls → p.looks ≡ [] → (d : Cell) → was_found ls d ≡ was_full (seen_at (after_looks p ls).looks d)
found_is_full p ls f none d =
    let all : (after_looks p ls).looks ≡ ls = ap (λ (q : Plan). q.looks) (after_is p ls) ∙ ap (λ (x : List Look). x ++ ls) none in
    sym (ap (λ (x : List Look). was_found x d) all) ∙ agree_after p ls f (λ e. subst (λ (x : List Look). was_found x e ≡ was_full (seen_at x e)) (sym none) refl) d

-- notes of cells, with one more
module _ {A : Type 0} where
  pub no_note_past : (xs : List (Option A)) (i : ℕ) → length xs ≤ i → has_note xs i ≡ false
  no_note_past xs i h = ap is_note (slice_get_past xs i h)

  note_here : (xs : List (Option A)) (i : ℕ) (n : A) → i < length xs → has_note (set xs i (Some n)) i ≡ true
  note_here xs i n h = ap is_note (get_set_same xs i (Some n) (get_or xs i None) (slice_get-get_or xs i None h))

  note_other : (xs : List (Option A)) (i j : ℕ) (n : A) → j ≢ i → has_note (set xs i (Some n)) j ≡ has_note xs j
  note_other xs i j n ne = ap is_note (get_set_other xs i j (Some n) ne)

-- a table with no notes, before the first look
pub tells_none : {C R : Type 0} (s : ℕ) (t : TableState C R) → ((i : ℕ) (x : Option (ℕ × Option (Entry C R))) → slice_get t.returns i ≡ Some x → x ≡ None) → ((i : ℕ) (x : Option (ℕ × Option C)) → slice_get t.calls i ≡ Some x → x ≡ None) → TellsLooks [] s t
tells_none s t f g = record { returns = λ i. empty t.returns f i; calls = λ i. empty t.calls g i }
  where
    empty : {A : Type 0} (xs : List (Option A)) → ((i : ℕ) (x : Option A) → slice_get xs i ≡ Some x → x ≡ None) → (i : ℕ) → has_note xs i ≡ false
    empty {A} xs h i = by (slice_get xs i) refl
      where
        by : (y : Option (Option A)) → slice_get xs i ≡ y → is_note y ≡ false
        by None e = refl
        by (Some x) e = subst (λ (z : Option A). is_note (Some z) ≡ false) (sym (h i x e)) refl

module _ {C R : Type 0} (looks looks' : List Look) where
  pub tells_empty : (c : Cell) → looks' ≡ looks ++ (c, false) ∷ [] → (s : ℕ) (t : TableState C R) → TellsLooks looks s t → TellsLooks looks' s t
  tells_empty c e s t a = record {
    returns = λ i. a.returns i ∙ sym (ap (λ (x : List Look). was_found x (return_cell s i)) e ∙ found_empty looks c (return_cell s i));
    calls = λ i. a.calls i ∙ sym (ap (λ (x : List Look). was_found x (call_cell s i)) e ∙ found_empty looks c (call_cell s i));
  }

  -- a table that a look does not concern
  tells_apart : (c : Cell) → looks' ≡ looks ++ (c, true) ∷ [] → (s : ℕ) (t : TableState C R) → ((i : ℕ) → same_cell c (return_cell s i) ≡ false) → ((i : ℕ) → same_cell c (call_cell s i) ≡ false) → TellsLooks looks s t → TellsLooks looks' s t
  tells_apart c e s t f g a = record {
    returns = λ i. a.returns i ∙ sym (ap (λ (x : List Look). was_found x (return_cell s i)) e ∙ found_other looks c (return_cell s i) true (f i));
    calls = λ i. a.calls i ∙ sym (ap (λ (x : List Look). was_found x (call_cell s i)) e ∙ found_other looks c (call_cell s i) true (g i));
  }

  module _ (s i : ℕ) (t t' : TableState C R) (a : TellsLooks looks s t) where
    tells_returned : (f : ℕ × Option _) → looks' ≡ looks ++ (return_cell s i, true) ∷ [] → i < length t.returns → t'.returns ≡ set t.returns i (Some f) → t'.calls ≡ t.calls → TellsLooks looks' s t'
    tells_returned f e h r c = record {
      returns = λ j. ap (λ (x : List (Option (ℕ × Option _))). has_note x j) r ∙ elim (cases_eq j i) [
        | inl q ↦ subst (λ (x : ℕ). has_note (set t.returns i (Some f)) x ≡ was_found looks' (return_cell s x)) (sym q)
            (note_here t.returns i f h ∙ sym (ap (λ (x : List Look). was_found x (return_cell s i)) e ∙ found_here looks (return_cell s i) (return_cell s i) (same_itself (return_cell s i))))
        | inr q ↦ note_other t.returns i j f q ∙ (a.returns j ∙ sym (ap (λ (x : List Look). was_found x (return_cell s j)) e ∙ found_other looks (return_cell s i) (return_cell s j) true (other_index s i j (λ k. q (sym k)))))
      ];
      calls = λ j. ap (λ (x : List (Option (ℕ × Option _))). has_note x j) c ∙ (a.calls j ∙ sym (ap (λ (x : List Look). was_found x (call_cell s j)) e ∙ found_other looks (return_cell s i) (call_cell s j) true refl));
    }

    tells_called : (f : ℕ × Option _) → looks' ≡ looks ++ (call_cell s i, true) ∷ [] → i < length t.calls → t'.calls ≡ set t.calls i (Some f) → t'.returns ≡ t.returns → TellsLooks looks' s t'
    tells_called f e h c r = record {
      calls = λ j. ap (λ (x : List (Option (ℕ × Option _))). has_note x j) c ∙ elim (cases_eq j i) [
        | inl q ↦ subst (λ (x : ℕ). has_note (set t.calls i (Some f)) x ≡ was_found looks' (call_cell s x)) (sym q)
            (note_here t.calls i f h ∙ sym (ap (λ (x : List Look). was_found x (call_cell s i)) e ∙ found_here looks (call_cell s i) (call_cell s i) (same_itself (call_cell s i))))
        | inr q ↦ note_other t.calls i j f q ∙ (a.calls j ∙ sym (ap (λ (x : List Look). was_found x (call_cell s j)) e ∙ found_other looks (call_cell s i) (call_cell s j) true (other_index s i j (λ k. q (sym k)))))
      ];
      returns = λ j. ap (λ (x : List (Option (ℕ × Option _))). has_note x j) r ∙ (a.returns j ∙ sym (ap (λ (x : List Look). was_found x (return_cell s j)) e ∙ found_other looks (call_cell s i) (return_cell s j) true refl));
    }

  -- all tables, where the one of a session is another now
  module _ (s i : ℕ) (ts : List (TableState C R)) (t t' : TableState C R) (at : slice_get ts s ≡ Some t) (each : (z : ℕ) (u : TableState C R) → slice_get ts z ≡ Some u → TellsLooks looks z u) where
    tells_set : (c : Cell) → looks' ≡ looks ++ (c, true) ∷ [] → ((z j : ℕ) → z ≢ s → (same_cell c (return_cell z j) ≡ false) × (same_cell c (call_cell z j) ≡ false)) → TellsLooks looks' s t' → (z : ℕ) (u : TableState C R) → slice_get (set ts s t') z ≡ Some u → TellsLooks looks' z u
    tells_set c e apart new z u f = elim (cases_eq z s) [
      | inl h ↦ let same : Some t' ≡ Some u = sym (get_set_same ts s t' t at) ∙ subst (λ (x : ℕ). slice_get (set ts s t') x ≡ Some u) h f in let is : t' ≡ u = cc in
          subst (λ (x : ℕ). TellsLooks looks' x u) (sym h) (subst (λ (x : TableState C R). TellsLooks looks' s x) is new)
      | inr h ↦ tells_apart c e z u (λ j. (apart z j h).0) (λ j. (apart z j h).1) (each z u (sym (get_set_other ts s z t' h) ∙ f))
    ]

    pub tells_return : (f : ℕ × Option _) → looks' ≡ looks ++ (return_cell s i, true) ∷ [] → i < length t.returns → t'.returns ≡ set t.returns i (Some f) → t'.calls ≡ t.calls → (z : ℕ) (u : TableState C R) → slice_get (set ts s t') z ≡ Some u → TellsLooks looks' z u
    tells_return f e h r c = tells_set (return_cell s i) e (λ z j ne. (other_session s z i j (λ k. ne (sym k)), refl)) (tells_returned s i t t' (each s t at) f e h r c)

    pub tells_call : (f : ℕ × Option _) → looks' ≡ looks ++ (call_cell s i, true) ∷ [] → i < length t.calls → t'.calls ≡ set t.calls i (Some f) → t'.returns ≡ t.returns → (z : ℕ) (u : TableState C R) → slice_get (set ts s t') z ≡ Some u → TellsLooks looks' z u
    tells_call f e h c r = tells_set (call_cell s i) e (λ z j ne. (refl, other_session s z i j (λ k. ne (sym k)))) (tells_called s i t t' (each s t at) f e h c r)

-- one more place that passes a test
pub one_more : (test : ℕ → Bool) (from n : ℕ) → ((i : ℕ) → from ≤ i → i < n → test i ≡ true) → (from ≤ n → test n ≡ true) → (i : ℕ) → from ≤ i → i < n + 1 → test i ≡ true
one_more test from n old new i h k = elim (cases_eq i n) [
  | inl e ↦ subst (λ (x : ℕ). test x ≡ true) (sym e) (new (let h' : from ≤ i = h in let e' : i ≡ n = e in omega arith))
  | inr e ↦ old i h (let k' : i < n + 1 = k in let e' : i ≢ n = e in omega arith)
]

-- where runs end
pub runs_same : (test test' : ℕ → Bool) (from to end : ℕ) → ((i : ℕ) → test i ≡ test' i) → RunsTo test from to end → RunsTo test' from to end
runs_same test test' from to end e r = record {
  from_on = r.from_on;
  within = r.within;
  full = λ i h k. sym (e i) ∙ r.full i h k;
  stops = λ h. sym (e to) ∙ r.stops h;
}

pub runs_on : {A : Type 0} (xs : List (Option A)) (test : ℕ → Bool) (from to cap : ℕ) → ((i : ℕ) → has_note xs i ≡ test i) → length xs ≤ cap → RunsTo (has_note xs) from to (length xs) → RunsTo test from to cap
runs_on xs test from to cap e few r = runs_same (has_note xs) test from to cap e record {
  from_on = r.from_on;
  within = let w : to ≤ length xs = r.within in let f : length xs ≤ cap = few in omega arith;
  full = r.full;
  stops = λ h. elim (cases_lt to (length xs)) [ inl l ↦ r.stops l | inr l ↦ no_note_past xs to l ];
}

pub runs_first : (test : ℕ → Bool) (from to end : ℕ) → RunsTo test from to end → first_failing test from (end - from) ≡ to
runs_first test from to end r =
    let a : from ≤ to = r.from_on in let b : to ≤ end = r.within in
    first_is test (end - from) from to a (omega arith) r.full (λ h. r.stops (let h' : to < from + (end - from) = h in omega arith))

-- a session's longest receipt represents as many operations as were told
pub count_is : {S C R : Type 0} (lanes : LanesState S) (rs : List (ReceiptState C R)) (told : List ℕ) (s : ℕ) (best : LongestReceipt) → AreToldBy lanes rs told → IsLongest rs s (length rs) best → best.count ≡ get_or told s 0
count_is lanes rs told s best a b =
    let low : best.count ≤ get_or told s 0 = elim (cases_lt 0 best.count) [
      | inl h ↦ let q = b.reached h in let m : length q.0.operations ≤ get_or told q.0.lane 0 = a.most best.at q.0 q.1 in
          let m' : length q.0.operations ≤ get_or told s 0 = subst (λ (x : ℕ). length q.0.operations ≤ get_or told x 0) q.2 m in let e : length q.0.operations ≡ best.count = q.3 in omega arith
      | inr h ↦ let z : best.count ≤ 0 = h in omega arith
    ] in
    let high : get_or told s 0 ≤ best.count = elim (cases_lt 0 (get_or told s 0)) [
      | inl h ↦ let q = a.reached s h in let e : length q.1.operations ≡ get_or told s 0 = q.4 in let m : length q.1.operations ≤ best.count = b.most q.0 q.1 (within q.0 q.1 q.2) q.2 q.3 in omega arith
      | inr h ↦ let z : get_or told s 0 ≤ 0 = h in omega arith
    ] in omega arith
  where
    within : (j : ℕ) (r : ReceiptState _ _) → slice_get rs j ≡ Some r → j < length rs
    within j r e = slice_get_within rs j r e

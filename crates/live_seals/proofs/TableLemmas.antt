-- The tables of a looker: with nothing found, and with one more cell found.
use Rattle.std.proofs.Common.{◌≡◌, ◌≢◌, ℕ, suc, zero, ◌+◌, ◌<◌, ◌≤◌, ◌⊎◌, List, [], ◌∷◌, ◌++◌, length, inl, inr, refl, sym, ◌∙◌, ap, subst, arith, get_or, set, length-set}
use Rattle.std.specs.Prelude.{Bool, true, false, Option, Some, None, slice_get}
use Rattle.std.proofs.lemmas.Bool.{cases_eq, cases_lt}
use Rattle.std.proofs.lemmas.Option.{slice_get_within, slice_get-get_or}
use Rattle.model_history.specs.declared.advice.Advice.{Advice}
use Rattle.live_recorder.specs.Lanes.{Cells, Entry, IsLane, IsFitting, Returned, shown}
use Rattle.live_recorder.specs.Sessions.{LanesState, ReceiptState}
use Rattle.live_recorder.proofs.Telling.{get_push_cases}
use Rattle.live_cut_plan.specs.declared.cell.Cell.{Cell}
use Rattle.live_cut_plan.specs.Plans.{Look, call_cell, return_cell}
use Rattle.live_cut_plan.proofs.ListPlaces.{read_at, get_set_same, get_set_other}
use Rattle.live_seals.specs.declared.longest.LongestReceipt.{LongestReceipt}
use Rattle.live_seals.specs.Steps.Looking.{KeepsLanes}
use Rattle.live_seals.specs.Seals.{LookerState, AreReceiptsOf, AreToldBy}
use Rattle.live_seals.specs.Steps.Tables.{TableState, IsTable, AreTables, IsReturnFound, IsCallFound, IsLongest, IsLooker, TellsLooks}
use Rattle.live_seals.proofs.FoundLooks.{tells_empty, tells_return, tells_call}

module _ {A : Type 0} where
  pub some_same : (x y : A) → Some x ≡ Some y → x ≡ y
  some_same x y e = cc

  -- past the end there is nothing
  pub none_past : (xs : List A) (i : ℕ) → slice_get xs i ≡ None → length xs ≤ i
  none_past xs i e = elim (cases_lt i (length xs)) [ inl h ↦ absurd (below xs i e h) | inr h ↦ h ]
    where
      below : (ys : List A) (j : ℕ) → slice_get ys j ≡ None → j < length ys → ⊥
      below [] j e h = let h' : j < 0 = h in omega arith
      below (y ∷ ys) zero e h = cc
      below (y ∷ ys) (suc j) e h = below ys j e (let h' : suc j < suc (length ys) = h in omega arith)

module _ {C R : Type 0} where
  -- a table with nothing found
  pub table_fresh : (lane : Cells) (t : TableState C R) (n : ℕ) → IsLane lane → n ≡ length lane.calls → length t.returns ≡ n → length t.calls ≡ n
      → ((i : ℕ) (x : Option (ℕ × Option (Entry C R))) → slice_get t.returns i ≡ Some x → x ≡ None) → ((i : ℕ) (x : Option (ℕ × Option C)) → slice_get t.calls i ≡ Some x → x ≡ None) → IsTable lane t
  table_fresh lane t n l e r c none nothing = record {
    return_places = r ∙ (e ∙ sym l.even);
    call_places = c ∙ e;
    returned = λ i m h. let x : Some m ≡ None = none i (Some m) h in absurd (cc);
    called = λ i m h. let x : Some m ≡ None = nothing i (Some m) h in absurd (cc);
  }

  pub tables_more : (lanes : List Cells) (ts ts' : List (TableState C R)) (t : TableState C R) (s : ℕ) (lane : Cells) → length ts ≡ s → slice_get lanes s ≡ Some lane → IsTable lane t → ts' ≡ ts ++ t ∷ []
      → ((j : ℕ) (l : Cells) (u : TableState C R) → slice_get lanes j ≡ Some l → slice_get ts j ≡ Some u → IsTable l u)
      → ((j : ℕ) (l : Cells) (u : TableState C R) → slice_get lanes j ≡ Some l → slice_get ts' j ≡ Some u → IsTable l u)
  tables_more lanes ts ts' t s lane many at is pushed each j l u e f = elim (get_push_cases ts t j u (subst (λ (x : List (TableState C R)). slice_get x j ≡ Some u) pushed f)) [
    | inl h ↦ each j l u e h
    | inr h ↦ let same : Some l ≡ Some lane = sym e ∙ (ap (slice_get lanes) (h.0 ∙ many) ∙ at) in
        subst (λ (x : TableState C R). IsTable l x) h.1 (subst (λ (x : Cells). IsTable x t) (sym (some_same l lane same)) is)
  ]

  pub fresh_more : (ts ts' : List (TableState C R)) (t : TableState C R) → ts' ≡ ts ++ t ∷ [] → ((s : ℕ) → TellsLooks [] s t) → ((s : ℕ) (u : TableState C R) → slice_get ts s ≡ Some u → TellsLooks [] s u) → (s : ℕ) (u : TableState C R) → slice_get ts' s ≡ Some u → TellsLooks [] s u
  fresh_more ts ts' t pushed new old s u e = elim (get_push_cases ts t s u (subst (λ (x : List (TableState C R)). slice_get x s ≡ Some u) pushed e)) [
    | inl h ↦ old s u h
    | inr h ↦ subst (λ (x : TableState C R). TellsLooks [] s x) h.1 (new s)
  ]

  module _ (lane : Cells) (t t' : TableState C R) (is : IsTable lane t) where
    pub table_returned : (i : ℕ) (f : ℕ × Option (Entry C R)) → IsReturnFound lane i f → t'.returns ≡ set t.returns i (Some f) → t'.calls ≡ t.calls → IsTable lane t'
    table_returned i f found r c = record {
      return_places = ap length r ∙ (length-set t.returns i (Some f) ∙ is.return_places);
      call_places = ap length c ∙ is.call_places;
      returned = λ j m h. elim (cases_eq j i) [
        | inl e ↦ here j m e h
        | inr e ↦ is.returned j m (sym (get_set_other t.returns i j (Some f) e) ∙ subst (λ (x : List (Option (ℕ × Option (Entry C R)))). slice_get x j ≡ Some (Some m)) r h)
      ];
      called = λ j m h. is.called j m (subst (λ (x : List (Option (ℕ × Option C))). slice_get x j ≡ Some (Some m)) c h);
    }
      where
        place : i < length t.returns
        place = let w : i < length lane.returns = slice_get_within lane.returns i f.0 found.0 in let e : length t.returns ≡ length lane.returns = is.return_places in omega arith

        here : (j : ℕ) (m : ℕ × Option (Entry C R)) → j ≡ i → slice_get t'.returns j ≡ Some (Some m) → IsReturnFound lane j m
        here j m e h =
            let now : slice_get (set t.returns i (Some f)) i ≡ Some (Some f) = get_set_same t.returns i (Some f) (get_or t.returns i None) (slice_get-get_or t.returns i None place) in
            let was : slice_get (set t.returns i (Some f)) i ≡ Some (Some m) = subst (λ (x : ℕ). slice_get (set t.returns i (Some f)) x ≡ Some (Some m)) e (subst (λ (x : List (Option (ℕ × Option (Entry C R)))). slice_get x j ≡ Some (Some m)) r h) in
            let same : f ≡ m = some_same f m (some_same (Some f) (Some m) (sym now ∙ was)) in
            subst (λ (x : ℕ). IsReturnFound lane x m) (sym e) (subst (λ (x : ℕ × Option (Entry C R)). IsReturnFound lane i x) same found)

    pub table_called : (i : ℕ) (f : ℕ × Option C) → IsCallFound lane i f → t'.calls ≡ set t.calls i (Some f) → t'.returns ≡ t.returns → IsTable lane t'
    table_called i f found c r = record {
      return_places = ap length r ∙ is.return_places;
      call_places = ap length c ∙ (length-set t.calls i (Some f) ∙ is.call_places);
      returned = λ j m h. is.returned j m (subst (λ (x : List (Option (ℕ × Option (Entry C R)))). slice_get x j ≡ Some (Some m)) r h);
      called = λ j m h. elim (cases_eq j i) [
        | inl e ↦ here j m e h
        | inr e ↦ is.called j m (sym (get_set_other t.calls i j (Some f) e) ∙ subst (λ (x : List (Option (ℕ × Option C))). slice_get x j ≡ Some (Some m)) c h)
      ];
    }
      where
        place : i < length t.calls
        place = let w : i < length lane.calls = slice_get_within lane.calls i f.0 found.0 in let e : length t.calls ≡ length lane.calls = is.call_places in omega arith

        here : (j : ℕ) (m : ℕ × Option C) → j ≡ i → slice_get t'.calls j ≡ Some (Some m) → IsCallFound lane j m
        here j m e h =
            let now : slice_get (set t.calls i (Some f)) i ≡ Some (Some f) = get_set_same t.calls i (Some f) (get_or t.calls i None) (slice_get-get_or t.calls i None place) in
            let was : slice_get (set t.calls i (Some f)) i ≡ Some (Some m) = subst (λ (x : ℕ). slice_get (set t.calls i (Some f)) x ≡ Some (Some m)) e (subst (λ (x : List (Option (ℕ × Option C))). slice_get x j ≡ Some (Some m)) c h) in
            let same : f ≡ m = some_same f m (some_same (Some f) (Some m) (sym now ∙ was)) in
            subst (λ (x : ℕ). IsCallFound lane x m) (sym e) (subst (λ (x : ℕ × Option C). IsCallFound lane i x) same found)

  -- a lane's table is another one of that lane
  pub tables_set : (lanes : List Cells) (ts : List (TableState C R)) (s : ℕ) (lane : Cells) (t t' : TableState C R) → AreTables lanes ts → slice_get lanes s ≡ Some lane → slice_get ts s ≡ Some t → IsTable lane t' → AreTables lanes (set ts s t')
  tables_set lanes ts s lane t t' a at was is = record {
    many = length-set ts s t' ∙ a.many;
    each = λ j l u e f. elim (cases_eq j s) [
      | inl h ↦ let same : Some t' ≡ Some u = sym (get_set_same ts s t' t was) ∙ subst (λ (x : ℕ). slice_get (set ts s t') x ≡ Some u) h f in
          let lanes_same : Some lane ≡ Some l = sym at ∙ subst (λ (x : ℕ). slice_get lanes x ≡ Some l) h e in
          subst (λ (x : TableState C R). IsTable l x) (some_same t' u same) (subst (λ (x : Cells). IsTable x t') (some_same lane l lanes_same) is)
      | inr h ↦ a.each j l u e (sym (get_set_other ts s j t' h) ∙ f)
    ];
  }

-- a list whose items stand in another at their places is no longer than it
pub pointwise_length : (xs ys : List ℕ) → ((i x : ℕ) → slice_get xs i ≡ Some x → slice_get ys i ≡ Some x) → length xs ≤ length ys
pointwise_length xs ys e = elim (cases_lt (length ys) (length xs)) [
  | inl h ↦ absurd (let x = slice_get_within ys (length ys) (get_or xs (length ys) 0) (e (length ys) (get_or xs (length ys) 0) (slice_get-get_or xs (length ys) 0 h)) in let x' : length ys < length ys = x in omega arith)
  | inr h ↦ h
]

-- counts of lanes, none past the end
pub counts_within : (cells : List Cells) (told : List ℕ) (cap : ℕ) → length told ≡ length cells → ((s : ℕ) (lane : Cells) → slice_get cells s ≡ Some lane → get_or told s 0 ≤ length lane.calls) → ((s : ℕ) (lane : Cells) → slice_get cells s ≡ Some lane → length lane.calls ≤ cap) → (s : ℕ) → get_or told s 0 ≤ cap
counts_within cells told cap many within most s = by (slice_get cells s) refl
  where
    past : (ns : List ℕ) (j : ℕ) → length ns ≤ j → get_or ns j 0 ≡ 0
    past [] zero h = refl
    past [] (suc j) h = refl
    past (n ∷ ns) zero h = absurd (let h' : suc (length ns) ≤ 0 = h in omega arith)
    past (n ∷ ns) (suc j) h = past ns j (let h' : suc (length ns) ≤ suc j = h in omega arith)

    by : (x : Option Cells) → slice_get cells s ≡ x → get_or told s 0 ≤ cap
    by None e = let z : get_or told s 0 ≡ 0 = past told s (let n : length cells ≤ s = none_past cells s e in let m : length told ≡ length cells = many in omega arith) in omega arith
    by (Some lane) e = let a : get_or told s 0 ≤ length lane.calls = within s lane e in let b : length lane.calls ≤ cap = most s lane e in omega arith

module _ {C R : Type 0} where
  -- a record with a reply shows its operation
  pub shown_reply : (k : Option (Entry C R)) (e : Entry C R) (x : R × Advice) → k ≡ Some e → Some x ≡ e.1 → (o : Returned C R) × (shown k ≡ Some o)
  shown_reply k e x same reply = ((e.0, x.0, x.1), ap shown same ∙ ap (λ (y : Option (R × Advice)). shown (Some (e.0, y))) (sym reply))

  pub shown_parts : (k : Option (Entry C R)) (e : Entry C R) (y : Option (R × Advice)) (c : C) (x : R) (a : Advice) → k ≡ Some e → y ≡ e.1 → y ≡ Some (x, a) → c ≡ e.0 → shown k ≡ Some (c, x, a)
  shown_parts k e y c x a same reply is call = ap shown same ∙ (ap (λ (z : Option (R × Advice)). shown (Some (e.0, z))) (sym reply ∙ is) ∙ ap (λ (d : C). Some (d, x, a)) (sym call))

  pub fitting_parts : (fits : C → R → Bool) (e : Entry C R) (y : Option (R × Advice)) (c : C) (x : R) (a : Advice) → IsFitting fits e → y ≡ e.1 → y ≡ Some (x, a) → c ≡ e.0 → fits c x ≡ true
  fitting_parts fits e y c x a f reply is call = subst (λ (d : C). fits d x ≡ true) (sym call) (subst (λ (z : Option (R × Advice)). IsFitting fits (e.0, z)) (sym reply ∙ is) f)

  -- the table of a lane
  pub table_at : (lanes : List Cells) (ts : List (TableState C R)) (s : ℕ) (lane : Cells) (t : TableState C R) → AreTables lanes ts → slice_get lanes s ≡ Some lane → s < length ts → t ≡ get_or ts s t → IsTable lane t
  table_at lanes ts s lane t a e h is = a.each s lane t e (read_at ts s t h is)

  pub lanes_many : (lanes : List Cells) (ts : List (TableState C R)) (s : ℕ) (lane : Cells) → AreTables lanes ts → slice_get lanes s ≡ Some lane → s < length ts
  lanes_many lanes ts s lane a e = let w : s < length lanes = slice_get_within lanes s lane e in let m : length ts ≡ length lanes = a.many in omega arith

  module _ {S : Type 0} (lanes : LanesState S) (rs : List (ReceiptState C R)) (told : List ℕ) (cap : ℕ) (looks looks' : List Look) (ts : List (TableState C R)) (k : IsLooker lanes rs told cap looks ts) (s : ℕ) (lane : Cells) (at : slice_get lanes.cells s ≡ Some lane) (t t' : TableState C R) (is : t ≡ get_or ts s t) where
    old_table : IsTable lane t
    old_table = table_at lanes.cells ts s lane t k.tables at (lanes_many lanes.cells ts s lane k.tables at) is

    pub return_place : (i : ℕ) (f : ℕ × Option (Entry C R)) → IsReturnFound lane i f → i < length t.returns
    return_place i f found = let w : i < length lane.returns = slice_get_within lane.returns i f.0 found.0 in let e : length t.returns ≡ length lane.returns = old_table.return_places in omega arith

    pub call_place : (i : ℕ) (f : ℕ × Option C) → IsCallFound lane i f → i < length t.calls
    call_place i f found = let w : i < length lane.calls = slice_get_within lane.calls i f.0 found.0 in let e : length t.calls ≡ length lane.calls = old_table.call_places in omega arith

    table_is : slice_get ts s ≡ Some t
    table_is = read_at ts s t (lanes_many lanes.cells ts s lane k.tables at) is

    kept_with : IsTable lane t' → ((z : ℕ) (u : TableState C R) → slice_get (set ts s t') z ≡ Some u → TellsLooks looks' z u) → IsLooker lanes rs told cap looks' (set ts s t')
    kept_with new tells = record { of = k.of; counts = k.counts; within = k.within; places = k.places; tables = tables_set lanes.cells ts s lane t t' k.tables at table_is new; looked = tells }

    -- a looker that keeps one more cell
    pub keeps_return : (i : ℕ) (f : ℕ × Option (Entry C R)) → IsReturnFound lane i f → t'.returns ≡ set t.returns i (Some f) → t'.calls ≡ t.calls → looks' ≡ looks ++ (return_cell s i, true) ∷ [] → IsLooker lanes rs told cap looks' (set ts s t')
    keeps_return i f found r c e = kept_with (table_returned lane t t' old_table i f found r c) (tells_return looks looks' s i ts t t' table_is k.looked f e (return_place i f found) r c)

    pub keeps_call : (i : ℕ) (f : ℕ × Option C) → IsCallFound lane i f → t'.calls ≡ set t.calls i (Some f) → t'.returns ≡ t.returns → looks' ≡ looks ++ (call_cell s i, true) ∷ [] → IsLooker lanes rs told cap looks' (set ts s t')
    keeps_call i f found r c e = kept_with (table_called lane t t' old_table i f found r c) (tells_call looks looks' s i ts t t' table_is k.looked f e (call_place i f found) r c)

  -- a looker that looked at one more cell, and found it empty
  pub keeps_empty : {S : Type 0} (lanes : LanesState S) (rs : List (ReceiptState C R)) (told : List ℕ) (cap : ℕ) (looks looks' : List Look) (ts : List (TableState C R)) (c : Cell) → IsLooker lanes rs told cap looks ts → looks' ≡ looks ++ (c, false) ∷ [] → IsLooker lanes rs told cap looks' ts
  keeps_empty lanes rs told cap looks looks' ts c k e = record { of = k.of; counts = k.counts; within = k.within; places = k.places; tables = k.tables; looked = λ s t at. tells_empty looks looks' c e s t (k.looked s t at) }

  -- a looker whose parts are these has the lanes, the receipts, the counts and the places of them
  pub kept_lanes : {S : Type 0} {lanes : LanesState S} {rs : List (ReceiptState C R)} {told : List ℕ} {cap : ℕ}
      {looks : List Look} {old : LookerState S C R} (looks' : List Look)
      → ◌≡◌ {A = LookerState S C R} (record { lanes = lanes; receipts = rs; told = told; cap = cap; looks = looks }) old
      → KeepsLanes old (record { lanes = lanes; receipts = rs; told = told; cap = cap; looks = looks' })
  kept_lanes {S} looks' view = (
    ap (λ (l : LookerState S C R). l.lanes) view,
    ap (λ (l : LookerState S C R). l.receipts) view,
    ap (λ (l : LookerState S C R). l.told) view,
    ap (λ (l : LookerState S C R). l.cap) view,
  )

  -- the count of a lane's longest receipt, which is this one
  module _ {S : Type 0} (lanes : LanesState S) (rs : List (ReceiptState C R)) (s n : ℕ) (best : LongestReceipt) (of : AreReceiptsOf lanes rs) (b : IsLongest rs s (length rs) best) (some : 0 < best.count) (r : ReceiptState C R) (at : slice_get rs best.at ≡ Some r) (many : n ≡ length r.operations) where
    is_best : n ≡ best.count
    is_best = let q = b.reached some in many ∙ (ap (λ (x : ReceiptState C R). length x.operations) (some_same r q.0 (sym at ∙ q.1)) ∙ q.3)

    pub count_most : (j : ℕ) (q : ReceiptState C R) → slice_get rs j ≡ Some q → q.lane ≡ s → length q.operations ≤ n
    count_most j q e f = let h : length q.operations ≤ best.count = b.most j q (slice_get_within rs j q e) e f in let m : n ≡ best.count = is_best in omega arith

    pub count_reached : (j : ℕ) × (q : ReceiptState C R) × (slice_get rs j ≡ Some q) × (q.lane ≡ s) × (length q.operations ≡ n)
    count_reached = let q = b.reached some in (best.at, q.0, q.1, q.2, q.3 ∙ sym is_best)

    pub count_within : (cells : n ≡ length r.cells) (lane : Cells) → IsLane lane → slice_get lanes.cells s ≡ Some lane → n ≤ length lane.calls
    count_within cells lane is e =
        let q = b.reached some in let o = of best.at r at in
        let lane_is : r.lane ≡ s = ap (λ (x : ReceiptState C R). x.lane) (some_same r q.0 (sym at ∙ q.1)) ∙ q.2 in
        let same : o.0 ≡ lane = some_same o.0 lane (sym o.1 ∙ (ap (slice_get lanes.cells) lane_is ∙ e)) in
        let w : length r.cells ≤ length lane.returns = pointwise_length r.cells lane.returns (λ i x h. subst (λ (y : Cells). slice_get y.returns i ≡ Some x) same (o.2 i x h)) in
        let m : n ≡ length r.cells = cells in let v : length lane.returns ≡ length lane.calls = is.even in omega arith

-- one more count
module _ {S C R : Type 0} (lanes : LanesState S) (rs : List (ReceiptState C R)) (told told' : List ℕ) (k x : ℕ) (many : length told ≡ k) (pushed : told' ≡ told ++ x ∷ []) where
  count_at : (s : ℕ) → ((s < k) × (get_or told' s 0 ≡ get_or told s 0)) ⊎ (((s ≡ k) × (get_or told' s 0 ≡ x)) ⊎ ((k < s) × (get_or told' s 0 ≡ 0)))
  count_at s = elim (cases_lt s k) [
    | inl h ↦ inl (h, ap (λ (l : List ℕ). get_or l s 0) pushed ∙ front told s (let m : length told ≡ k = many in let h' : s < k = h in omega arith))
    | inr h ↦ elim (cases_eq s k) [
      | inl e ↦ inr (inl (e, ap (λ (l : List ℕ). get_or l s 0) pushed ∙ (ap (λ (j : ℕ). get_or (told ++ x ∷ []) j 0) (e ∙ sym many) ∙ last told)))
      | inr e ↦ let less : k < s = (let h' : k ≤ s = h in let e' : s ≢ k = e in omega arith) in inr (inr (less, ap (λ (l : List ℕ). get_or l s 0) pushed ∙ past told s (let m : length told ≡ k = many in let l : k < s = less in omega arith)))
    ]
  ]
    where
      front : (l : List ℕ) (j : ℕ) → j < length l → get_or (l ++ x ∷ []) j 0 ≡ get_or l j 0
      front [] j h = absurd (let h' : j < 0 = h in omega arith)
      front (y ∷ l) zero h = refl
      front (y ∷ l) (suc j) h = front l j (let h' : suc j < suc (length l) = h in omega arith)

      last : (l : List ℕ) → get_or (l ++ x ∷ []) (length l) 0 ≡ x
      last [] = refl
      last (y ∷ l) = last l

      past : (l : List ℕ) (j : ℕ) → length l < j → get_or (l ++ x ∷ []) j 0 ≡ 0
      past [] zero h = absurd (let h' : 0 < 0 = h in omega arith)
      past [] (suc zero) h = refl
      past [] (suc (suc j)) h = refl
      past (y ∷ l) zero h = absurd (let h' : suc (length l) < 0 = h in omega arith)
      past (y ∷ l) (suc j) h = past l j (let h' : suc (length l) < suc j = h in omega arith)

  pub most_more : ((j : ℕ) (r : ReceiptState C R) → slice_get rs j ≡ Some r → r.lane < k → length r.operations ≤ get_or told r.lane 0) → ((j : ℕ) (r : ReceiptState C R) → slice_get rs j ≡ Some r → r.lane ≡ k → length r.operations ≤ x)
      → (j : ℕ) (r : ReceiptState C R) → slice_get rs j ≡ Some r → r.lane < k + 1 → length r.operations ≤ get_or told' r.lane 0
  most_more old new j r e h = elim (count_at r.lane) [
    | inl c ↦ let o : length r.operations ≤ get_or told r.lane 0 = old j r e c.0 in let g : get_or told' r.lane 0 ≡ get_or told r.lane 0 = c.1 in omega arith
    | inr d ↦ elim d [
      | inl c ↦ let o : length r.operations ≤ x = new j r e c.0 in let g : get_or told' r.lane 0 ≡ x = c.1 in omega arith
      | inr c ↦ absurd (let a : k < r.lane = c.0 in let h' : r.lane < k + 1 = h in omega arith)
    ]
  ]

  abbrev Reached : ℕ → ℕ → Type 0
  Reached s n = (j : ℕ) × (r : ReceiptState C R) × (slice_get rs j ≡ Some r) × (r.lane ≡ s) × (length r.operations ≡ n)

  pub reached_more : ((s : ℕ) → 0 < get_or told s 0 → Reached s (get_or told s 0)) → (0 < x → Reached k x) → (s : ℕ) → 0 < get_or told' s 0 → Reached s (get_or told' s 0)
  reached_more old new s h = elim (count_at s) [
    | inl c ↦ subst (λ (n : ℕ). Reached s n) (sym c.1) (old s (subst (λ (n : ℕ). 0 < n) c.1 h))
    | inr d ↦ elim d [
      | inl c ↦ subst (λ (n : ℕ). Reached s n) (sym c.1) (subst (λ (n : ℕ). Reached n x) (sym c.0) (new (subst (λ (n : ℕ). 0 < n) c.1 h)))
      | inr c ↦ absurd (let z : get_or told' s 0 ≡ 0 = c.1 in let h' : 0 < get_or told' s 0 = h in omega arith)
    ]
  ]

  pub within_more : ((s : ℕ) (lane : Cells) → slice_get lanes.cells s ≡ Some lane → get_or told s 0 ≤ length lane.calls) → ((lane : Cells) → slice_get lanes.cells k ≡ Some lane → x ≤ length lane.calls)
      → (s : ℕ) (lane : Cells) → slice_get lanes.cells s ≡ Some lane → get_or told' s 0 ≤ length lane.calls
  within_more old new s lane e = elim (count_at s) [
    | inl c ↦ let o : get_or told s 0 ≤ length lane.calls = old s lane e in let g : get_or told' s 0 ≡ get_or told s 0 = c.1 in omega arith
    | inr d ↦ elim d [
      | inl c ↦ let o : x ≤ length lane.calls = new lane (subst (λ (n : ℕ). slice_get lanes.cells n ≡ Some lane) c.0 e) in let g : get_or told' s 0 ≡ x = c.1 in omega arith
      | inr c ↦ let z : get_or told' s 0 ≡ 0 = c.1 in omega arith
    ]
  ]

pub told_all : {S C R : Type 0} (lanes : LanesState S) (rs : List (ReceiptState C R)) (told : List ℕ) → AreReceiptsOf lanes rs → length told ≡ length lanes.cells
    → ((j : ℕ) (r : ReceiptState C R) → slice_get rs j ≡ Some r → r.lane < length lanes.cells → length r.operations ≤ get_or told r.lane 0)
    → ((s : ℕ) → 0 < get_or told s 0 → (j : ℕ) × (r : ReceiptState C R) × (slice_get rs j ≡ Some r) × (r.lane ≡ s) × (length r.operations ≡ get_or told s 0)) → AreToldBy lanes rs told
told_all lanes rs told of many most reached = record {
  many = many;
  most = λ j r e. let o = of j r e in most j r e (slice_get_within lanes.cells r.lane o.0 o.1);
  reached = reached;
}

pub best_some : (best : LongestReceipt) → (best.count ≡ 0 → ⊥) → 0 < best.count
best_some best e = let e' : best.count ≢ 0 = e in omega arith

pub best_place : {C R : Type 0} (rs : List (ReceiptState C R)) (s : ℕ) (best : LongestReceipt) → IsLongest rs s (length rs) best → 0 < best.count → best.at < length rs
best_place rs s best b h = let r = b.reached h in slice_get_within rs best.at r.0 r.1

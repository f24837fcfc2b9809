-- What the looks of a plan found: where it stops, what is behind it, and what more looks leave.
use Rattle.std.proofs.Common.{◌≡◌, ℕ, zero, suc, ◌+◌, ◌-◌, ◌<◌, ◌≤◌, ◌⊎◌, inl, inr, List, [], ◌∷◌, ◌++◌, take, refl, sym, ◌∙◌, ap, subst, arith, append_assoc, append-nil, ◌==◌, eqb-true}
use Rattle.std.specs.Prelude.{Bool, true, false, not, ◌&&◌, Option, Some, None, if◌then◌else◌, nat_lt, slice_get}
use Rattle.std.specs.List.{filter_map, cons_option}
use Rattle.std.proofs.lemmas.Bool.{cases_lt, cases_eq, lt-ltb}
use Rattle.model_history.specs.declared.op_id.OpId.{OpId}
use Rattle.live_cut_plan.specs.declared.cell.Cell.{Cell}
use Rattle.live_cut_plan.specs.declared.cell.Cell.TheVariants.{Return, Call}
use Rattle.live_cut_plan.specs.Plans.{Look, Plan, seen_at, same_op, same_cell, return_cell, call_cell, was_read, was_full, named_at, or_else, first_named, first_failing, last_failing, told_of, returns_found, calls_found, unread_at, next_return, next_call, next_cell, looked_at, after_looks, Follows}

-- the first place that fails a test
module _ (test : ℕ → Bool) where
  pub first_from : (n i : ℕ) → i ≤ first_failing test i n
  first_from zero i = omega arith
  first_from (suc n) i = by (test i) (first_from n (i + 1))
    where
      by : (b : Bool) → i + 1 ≤ first_failing test (i + 1) n → i ≤ (if b then first_failing test (i + 1) n else i)
      by true l = let l' : i + 1 ≤ first_failing test (i + 1) n = l in omega arith
      by false l = omega arith

  pub first_within : (n i : ℕ) → first_failing test i n ≤ i + n
  first_within zero i = omega arith
  first_within (suc n) i = by (test i) (first_within n (i + 1))
    where
      by : (b : Bool) → first_failing test (i + 1) n ≤ i + 1 + n → (if b then first_failing test (i + 1) n else i) ≤ i + suc n
      by true l = let l' : first_failing test (i + 1) n ≤ i + 1 + n = l in omega arith
      by false l = omega arith

  -- all places before it pass the test
  pub first_below : (n i x : ℕ) → i ≤ x → x < first_failing test i n → test x ≡ true
  first_below zero i x l m = absurd (let l' : i ≤ x = l in let m' : x < i = m in omega arith)
  first_below (suc n) i x l m = by (test i) refl (first_below n (i + 1) x) m
    where
      by : (b : Bool) → test i ≡ b → (i + 1 ≤ x → x < first_failing test (i + 1) n → test x ≡ true) → x < (if b then first_failing test (i + 1) n else i) → test x ≡ true
      by false e rest k = absurd (let l' : i ≤ x = l in let k' : x < i = k in omega arith)
      by true e rest k = elim (cases_eq i x) [
        | inl same ↦ subst (λ (y : ℕ). test y ≡ true) same e
        | inr other ↦ rest (let l' : i ≤ x = l in omega (arith, other)) k
      ]

  -- it fails the test, unless it is behind them
  pub first_fails : (n i : ℕ) → first_failing test i n < i + n → test (first_failing test i n) ≡ false
  first_fails zero i l = absurd (let l' : i < i + 0 = l in omega arith)
  first_fails (suc n) i l = by (test i) refl (first_fails n (i + 1)) l
    where
      by : (b : Bool) → test i ≡ b → (first_failing test (i + 1) n < i + 1 + n → test (first_failing test (i + 1) n) ≡ false)
          → (if b then first_failing test (i + 1) n else i) < i + suc n → test (if b then first_failing test (i + 1) n else i) ≡ false
      by true e rest k = rest (let k' : first_failing test (i + 1) n < i + suc n = k in omega arith)
      by false e rest k = e

  -- no place that fails the test is before it
  pub first_up_to : (n i x : ℕ) → i ≤ x → test x ≡ false → first_failing test i n ≤ x
  first_up_to n i x l e = elim (cases_lt x (first_failing test i n)) [
    | inl k ↦ let t : test x ≡ true = first_below n i x l k in absurd (cc)
    | inr k ↦ k
  ]

-- a list of looks
both_true : (a b : Bool) → (a && b) ≡ true → (a ≡ true) × (b ≡ true)
both_true true b e = (refl, e)
both_true false b e = absurd (cc)

same_op_is : (a b : OpId) → same_op a b ≡ true → a ≡ b
same_op_is a b e =
    let parts = both_true (a.session == b.session) (a.index == b.index) e in
    let session : a.session ≡ b.session = eqb-true a.session b.session parts.0 in let index : a.index ≡ b.index = eqb-true a.index b.index parts.1 in
    (λ i. record { session = session i; index = index i })

same_cell_is : (c d : Cell) → same_cell c d ≡ true → c ≡ d
same_cell_is (Return a) (Return b) e = ap Return (same_op_is a b e)
same_cell_is (Return a) (Call b) e = absurd (cc)
same_cell_is (Call a) (Return b) e = absurd (cc)
same_cell_is (Call a) (Call b) e = ap Call (same_op_is a b e)

-- what was seen at a cell was told by a look
pub seen_told : (ls : List Look) (c : Cell) (full : Bool) → seen_at ls c ≡ Some full → (n : ℕ) × (slice_get ls n ≡ Some (c, full))
seen_told [] c full e = absurd (cc)
seen_told (l ∷ ls) c full e = by (same_cell l.0 c) refl (seen_told ls c full) e
  where
    by : (b : Bool) → same_cell l.0 c ≡ b → (seen_at ls c ≡ Some full → (n : ℕ) × (slice_get ls n ≡ Some (c, full))) → (if b then Some l.1 else seen_at ls c) ≡ Some full → (n : ℕ) × (slice_get (l ∷ ls) n ≡ Some (c, full))
    by true s rest d =
        let cell : l.0 ≡ c = same_cell_is l.0 c s in let told : l.1 ≡ full = cc in
        (0, (λ i. Some (cell i, told i)))
    by false s rest d = let r = rest d in (suc r.0, r.1)

-- more looks leave what was seen
pub seen_stays : (ls more : List Look) (c : Cell) (full : Bool) → seen_at ls c ≡ Some full → seen_at (ls ++ more) c ≡ Some full
seen_stays [] more c full e = absurd (cc)
seen_stays (l ∷ ls) more c full e = by (same_cell l.0 c) (seen_stays ls more c full) e
  where
    by : (b : Bool) → (seen_at ls c ≡ Some full → seen_at (ls ++ more) c ≡ Some full) → (if b then Some l.1 else seen_at ls c) ≡ Some full → (if b then Some l.1 else seen_at (ls ++ more) c) ≡ Some full
    by true rest d = d
    by false rest d = rest d

pub full_is : (x : Option Bool) → was_full x ≡ true → x ≡ Some true
full_is None e = absurd (cc)
full_is (Some b) e = ap Some e

pub empty_is : (x : Option Bool) → was_read x ≡ true → was_full x ≡ false → x ≡ Some false
empty_is None e f = absurd (cc)
empty_is (Some b) e f = ap Some f

-- the plan with these looks
pub looks_are : (p : Plan) (ls : List Look) → after_looks p ls ≡ record { lanes = p.lanes; cap = p.cap; told = p.told; looks = p.looks ++ ls }
looks_are p [] = ap (λ (m : List Look). record { lanes = p.lanes; cap = p.cap; told = p.told; looks = m }) (sym (append-nil p.looks))
looks_are p (l ∷ ls) = looks_are (looked_at p (Some l.0) l.1) ls ∙ ap (λ (m : List Look). record { lanes = p.lanes; cap = p.cap; told = p.told; looks = m }) (append_assoc p.looks (l ∷ []) ls)

-- the looks of a plan that follow it: the cell of each is the one that is next after those before it
module _ {X : Type 0} (f : X → Option Look) where
  pub follows_at : (xs : List X) (p : Plan) (i : ℕ) (x : X) (l : Look) → Follows p (filter_map f xs) → slice_get xs i ≡ Some x → f x ≡ Some l → next_cell (after_looks p (filter_map f (take i xs))) ≡ Some l.0
  follows_at [] p zero x l w e g = absurd (cc)
  follows_at [] p (suc i) x l w e g = absurd (cc)
  follows_at (y ∷ xs) p zero x l w e g =
      let same : y ≡ x = cc in
      (subst (λ (o : Option Look). Follows p (cons_option o (filter_map f xs))) (ap f same ∙ g) w).0
  follows_at (y ∷ xs) p (suc i) x l w e g = by (f y) w (λ q v. follows_at xs q i x l v e g)
    where
      by : (o : Option Look) → Follows p (cons_option o (filter_map f xs)) → ((q : Plan) → Follows q (filter_map f xs) → next_cell (after_looks q (filter_map f (take i xs))) ≡ Some l.0)
          → next_cell (after_looks p (cons_option o (filter_map f (take i xs)))) ≡ Some l.0
      by None v rest = rest p v
      by (Some m) v rest = rest (looked_at p (Some m.0) m.1) v.1

-- where it is so of each look, the looks follow the plan
module _ {X : Type 0} (f : X → Option Look) where
  pub follows_each : (xs : List X) (p : Plan) → ((i : ℕ) (x : X) (l : Look) → slice_get xs i ≡ Some x → f x ≡ Some l → next_cell (after_looks p (filter_map f (take i xs))) ≡ Some l.0) → Follows p (filter_map f xs)
  follows_each [] p each = tt
  follows_each (x ∷ xs) p each = by (f x) refl (λ q e. follows_each xs q e)
    where
      by : (o : Option Look) → f x ≡ o → ((q : Plan) → ((i : ℕ) (y : X) (l : Look) → slice_get xs i ≡ Some y → f y ≡ Some l → next_cell (after_looks q (filter_map f (take i xs))) ≡ Some l.0) → Follows q (filter_map f xs))
          → Follows p (cons_option o (filter_map f xs))
      by None e rest = rest p (λ i y l at g. subst (λ (o : Option Look). next_cell (after_looks p (cons_option o (filter_map f (take i xs)))) ≡ Some l.0) e (each (suc i) y l at g))
      by (Some m) e rest = (
        each 0 x m refl e,
        rest (looked_at p (Some m.0) m.1) (λ i y l at g. subst (λ (o : Option Look). next_cell (after_looks p (cons_option o (filter_map f (take i xs)))) ≡ Some l.0) e (each (suc i) y l at g)),
      )

-- the cells that lanes name
or_none : (x y : Option Cell) → or_else x y ≡ None → (x ≡ None) × (y ≡ None)
or_none None y e = (refl, e)
or_none (Some d) y e = absurd (cc)

pub or_some : (x y : Option Cell) (c : Cell) → or_else x y ≡ Some c → (x ≡ Some c) ⊎ ((x ≡ None) × (y ≡ Some c))
or_some None y c e = inr (refl, e)
or_some (Some d) y c e = inl e

none_named : (f : ℕ → Option Cell) (n s : ℕ) → first_named f s n ≡ None → (i : ℕ) → i < n → f (s + i) ≡ None
none_named f zero s e i l = absurd (let l' : i < 0 = l in omega arith)
none_named f (suc n) s e zero l = subst (λ (x : ℕ). f x ≡ None) (let x : s ≡ s + 0 = omega arith in x) (or_none (f s) (first_named f (s + 1) n) e).0
none_named f (suc n) s e (suc i) l =
    subst (λ (x : ℕ). f x ≡ None) (let x : s + 1 + i ≡ s + suc i = omega arith in x) (none_named f n (s + 1) (or_none (f s) (first_named f (s + 1) n) e).1 i (let l' : suc i < suc n = l in omega arith))

none_of_lanes : (f : ℕ → Option Cell) (n s : ℕ) → first_named f 0 n ≡ None → s < n → f s ≡ None
none_of_lanes f n s e l = subst (λ (x : ℕ). f x ≡ None) (let x : 0 + s ≡ s = omega arith in x) (none_named f n 0 e s l)

abbrev pub is_return : Cell → Bool
is_return (Return o) = true
is_return (Call o) = false

-- of cells that are all return cells, or all call cells, the first that is named is one
pub named_alike : (b : Bool) (f : ℕ → Option Cell) → ((s : ℕ) (c : Cell) → f s ≡ Some c → is_return c ≡ b) → (n s : ℕ) (c : Cell) → first_named f s n ≡ Some c → is_return c ≡ b
named_alike b f each zero s c e = absurd (cc)
named_alike b f each (suc n) s c e = elim (or_some (f s) (first_named f (s + 1) n) c e) [
  | inl here ↦ each s c here
  | inr later ↦ named_alike b f each n (s + 1) c later.1
]

module _ (p : Plan) where
  pub next_is_return : (s : ℕ) (c : Cell) → next_return p s ≡ Some c → is_return c ≡ true
  next_is_return s c e = by (last_failing (λ i. was_read (seen_at p.looks (return_cell s i))) (told_of p s)) (nat_lt (returns_found p s) p.cap && not (was_read (seen_at p.looks (return_cell s (returns_found p s))))) e
    where
      by : (o : Option ℕ) (b : Bool) → or_else (named_at (return_cell s) o) (if b then Some (return_cell s (returns_found p s)) else None) ≡ Some c → is_return c ≡ true
      by (Some i) b d = let same : return_cell s i ≡ c = cc in ap is_return (sym same)
      by None true d = let same : return_cell s (returns_found p s) ≡ c = cc in ap is_return (sym same)
      by None false d = absurd (cc)

  pub next_is_call : (s : ℕ) (c : Cell) → next_call p s ≡ Some c → is_return c ≡ false
  next_is_call s c e = by (nat_lt (calls_found p s) p.cap && not (was_read (seen_at p.looks (call_cell s (calls_found p s))))) e
    where
      by : (b : Bool) → (if b then Some (call_cell s (calls_found p s)) else None) ≡ Some c → is_return c ≡ false
      by true d = let same : call_cell s (calls_found p s) ≡ c = cc in ap is_return (sym same)
      by false d = absurd (cc)

  -- once a call cell is next, or none, no return cell is
  pub returns_over : next_cell p ≡ None → (s : ℕ) → s < p.lanes → next_return p s ≡ None
  returns_over e s l = none_of_lanes (next_return p) p.lanes s (or_none (first_named (next_return p) 0 p.lanes) (first_named (next_call p) 0 p.lanes) e).0 l

  pub calls_over : next_cell p ≡ None → (s : ℕ) → s < p.lanes → next_call p s ≡ None
  calls_over e s l = none_of_lanes (next_call p) p.lanes s (or_none (first_named (next_return p) 0 p.lanes) (first_named (next_call p) 0 p.lanes) e).1 l

  pub returns_over_at : (o : OpId) → next_cell p ≡ Some (Call o) → (s : ℕ) → s < p.lanes → next_return p s ≡ None
  returns_over_at o e s l = elim (or_some (first_named (next_return p) 0 p.lanes) (first_named (next_call p) 0 p.lanes) (Call o) e) [
    | inl h ↦ let t : is_return (Call o) ≡ true = named_alike true (next_return p) next_is_return p.lanes 0 (Call o) h in absurd (cc)
    | inr h ↦ none_of_lanes (next_return p) p.lanes s h.0 l
  ]

  -- where no cell of a kind is next, the one behind what was found was found empty, or the lane ends there
  unread_none : (cell : ℕ → Cell) (i : ℕ) → unread_at p cell i ≡ None → i < p.cap → was_read (seen_at p.looks (cell i)) ≡ true
  unread_none cell i e l = by (was_read (seen_at p.looks (cell i))) refl (subst (λ (b : Bool). (if b && not (was_read (seen_at p.looks (cell i))) then Some (cell i) else None) ≡ None) (lt-ltb i p.cap l) e)
    where
      by : (b : Bool) → was_read (seen_at p.looks (cell i)) ≡ b → (if true && not b then Some (cell i) else None) ≡ None → was_read (seen_at p.looks (cell i)) ≡ true
      by true h d = h
      by false h d = absurd (cc)

  pub return_behind : (s : ℕ) → next_return p s ≡ None → told_of p s ≤ p.cap → returns_found p s < p.cap → seen_at p.looks (return_cell s (returns_found p s)) ≡ Some false
  return_behind s e t l =
      let t' : told_of p s ≤ p.cap = t in let l' : returns_found p s < p.cap = l in
      empty_is (seen_at p.looks (return_cell s (returns_found p s)))
      (unread_none (return_cell s) (returns_found p s) (or_none (named_at (return_cell s) (last_failing (λ i. was_read (seen_at p.looks (return_cell s i))) (told_of p s))) (unread_at p (return_cell s) (returns_found p s)) e).1 l)
      (first_fails (λ i. was_full (seen_at p.looks (return_cell s i))) (p.cap - told_of p s) (told_of p s) (omega arith))

  pub call_behind : (s : ℕ) → next_call p s ≡ None → returns_found p s ≤ p.cap → calls_found p s < p.cap → seen_at p.looks (call_cell s (calls_found p s)) ≡ Some false
  call_behind s e t l =
      let t' : returns_found p s ≤ p.cap = t in let l' : calls_found p s < p.cap = l in
      empty_is (seen_at p.looks (call_cell s (calls_found p s)))
      (unread_none (call_cell s) (calls_found p s) e l)
      (first_fails (λ i. was_full (seen_at p.looks (call_cell s i))) (p.cap - returns_found p s) (returns_found p s) (omega arith))

  -- once no return cell of a lane is next, more looks find no more returns of it
  pub returns_stay : (more : List Look) (s : ℕ) → next_return p s ≡ None → told_of p s ≤ p.cap
      → returns_found (record { lanes = p.lanes; cap = p.cap; told = p.told; looks = p.looks ++ more }) s ≤ returns_found p s
  returns_stay more s e t = elim (cases_lt (returns_found p s) p.cap) [
    | inl l ↦ first_up_to (λ i. was_full (seen_at (p.looks ++ more) (return_cell s i))) (p.cap - told_of p s) (told_of p s) (returns_found p s)
        (first_from (λ i. was_full (seen_at p.looks (return_cell s i))) (p.cap - told_of p s) (told_of p s))
        (ap was_full (seen_stays p.looks more (return_cell s (returns_found p s)) false (return_behind s e t l)))
    | inr l ↦
        let w = first_within (λ i. was_full (seen_at (p.looks ++ more) (return_cell s i))) (p.cap - told_of p s) (told_of p s) in
        let w' : returns_found (record { lanes = p.lanes; cap = p.cap; told = p.told; looks = p.looks ++ more }) s ≤ told_of p s + (p.cap - told_of p s) = w in
        let t' : told_of p s ≤ p.cap = t in let l' : p.cap ≤ returns_found p s = l in
        omega arith
  ]

-- The operations that a schedule names: which stands at each place, and which stand before it.
use Rattle.std.proofs.Common.{◌≡◌, ℕ, zero, suc, ◌+◌, ◌<◌, ◌≤◌, ⊎_elim, cond, ◌==◌, List, [], ◌∷◌, ◌++◌, length, take, get_or, refl, sym, ap, ◌∙◌, subst, arith, eq-eqb, ne_eqb, append_assoc, append-nil, take_all}
use Rattle.std.specs.Prelude.{Some, slice_get}
use Rattle.std.proofs.lemmas.Bool.{cases_lt}
use Rattle.std.proofs.lemmas.List.{take_more}
use Rattle.std.proofs.lemmas.List.Sums.{sum_by-append}
use Rattle.std.proofs.lemmas.Option.{same_Some, slice_get_within, slice_get-get_or, get_or_from_slice_get}
use Rattle.model_history.specs.declared.op_id.OpId.{OpId}
use Rattle.order_causal.proofs.Placed.{placed-up, places}
use Rattle.order_causal.specs.Orders.{op, StandsAt}
use Rattle.cert_check.specs.Schedules.{named_after, named, StandsBefore}
use Rattle.order_causal.specs.Schedules.{placed}

-- what stands in the front of a list stands there in the whole list
pub slice_get-from_take : {X : Type 0} (xs : List X) (k j : ℕ) (x : X) → slice_get (take k xs) j ≡ Some x → (j < k) × (slice_get xs j ≡ Some x)
slice_get-from_take [] zero j x h = absurd cc
slice_get-from_take [] (suc k) j x h = absurd cc
slice_get-from_take (y ∷ xs) zero j x h = absurd cc
slice_get-from_take (y ∷ xs) (suc k) zero x h = (omega arith, h)
slice_get-from_take (y ∷ xs) (suc k) (suc j) x h = let r = slice_get-from_take xs k j x h in (omega arith, r.1)

-- the front of a list, with the element at the next place
pub take_next : {X : Type 0} (xs : List X) (k : ℕ) (x : X) → slice_get xs k ≡ Some x → take (k + 1) xs ≡ take k xs ++ x ∷ []
take_next xs k x h = take_more xs k x (slice_get_within xs k x h) ∙ ap (λ y. take k xs ++ y ∷ []) (get_or_from_slice_get xs k x x h)

-- how often a session is named
module _ (s : ℕ) where
  pub placed-append : (xs ys : List ℕ) → placed (xs ++ ys) s ≡ placed xs s + placed ys s
  placed-append xs ys = sum_by-append (λ (t : ℕ). cond (t == s) 1 0) xs ys

  pub placed-cons : (t : ℕ) (xs : List ℕ) → placed (t ∷ xs) s ≡ placed (t ∷ []) s + placed xs s
  placed-cons t xs = placed-append (t ∷ []) xs

  pub placed-one : (t : ℕ) → t ≡ s → placed (t ∷ []) s ≡ 1
  placed-one t same = let e = eq-eqb t s same in ap (λ b. 0 + cond b 1 0) e

  pub placed-none : (t : ℕ) → (t ≡ s → ⊥) → placed (t ∷ []) s ≡ 0
  placed-none t other = let e = ne_eqb t s other in ap (λ b. 0 + cond b 1 0) e

-- one operation more
pub placed-next : (t : ℕ) (xs : List ℕ) (k s : ℕ) → slice_get xs k ≡ Some s → placed (take (k + 1) xs) t ≡ placed (take k xs) t + placed (s ∷ []) t
placed-next t xs k s h = ap (λ (xs : List ℕ). placed xs t) (take_next xs k s h) ∙ placed-append t (take k xs) (s ∷ [])

pub length-named_after : (before xs : List ℕ) → length (named_after before xs) ≡ length xs
length-named_after before [] = refl
length-named_after before (x ∷ xs) = ap suc (length-named_after (before ++ x ∷ []) xs)

pub take-named_after : (before xs : List ℕ) (k : ℕ) → take k (named_after before xs) ≡ named_after before (take k xs)
take-named_after before xs zero = refl
take-named_after before [] (suc k) = refl
take-named_after before (x ∷ xs) (suc k) = ap (λ l. op x (placed before x) ∷ l) (take-named_after (before ++ x ∷ []) xs k)

pub named_after-append : (before xs ys : List ℕ) → named_after before (xs ++ ys) ≡ named_after before xs ++ named_after (before ++ xs) ys
named_after-append before [] ys = ap (λ l. named_after l ys) (sym (append-nil before))
named_after-append before (x ∷ xs) ys =
    ap (λ l. op x (placed before x) ∷ l)
    (named_after-append (before ++ x ∷ []) xs ys ∙ ap (λ l. named_after (before ++ x ∷ []) xs ++ named_after l ys) (append_assoc before (x ∷ []) xs))

named_after_at : (before xs : List ℕ) (k s : ℕ) → slice_get xs k ≡ Some s → StandsAt (named_after before xs) k (op s (placed before s + placed (take k xs) s))
named_after_at before [] k s h = absurd cc
named_after_at before (x ∷ xs) zero s h =
    let same : x ≡ s = cc in
    let none : placed before s ≡ placed before s + 0 = omega arith in
    ap (λ (t : ℕ). Some (op t (placed before t))) same ∙ ap (λ (i : ℕ). Some (op s i)) none
named_after_at before (x ∷ xs) (suc k) s h =
    let more = placed-append s before (x ∷ []) in
    let all = placed-cons s x (take k xs) in
    let same : placed (before ++ x ∷ []) s + placed (take k xs) s ≡ placed before s + placed (x ∷ take k xs) s = omega arith in
    subst (λ (i : ℕ). StandsAt (named_after (before ++ x ∷ []) xs) k (op s i)) same (named_after_at (before ++ x ∷ []) xs k s h)

module _ (schedule : List ℕ) where
  -- as many operations as numbers
  pub length-named : length (named schedule) ≡ length schedule
  length-named = length-named_after [] schedule

  -- the front names the front
  pub take-named : (k : ℕ) → take k (named schedule) ≡ named (take k schedule)
  take-named k = take-named_after [] schedule k

  -- one number more names one operation more
  pub named_push : (s : ℕ) → named (schedule ++ s ∷ []) ≡ named schedule ++ op s (placed schedule s) ∷ []
  named_push s = named_after-append [] schedule (s ∷ [])

  -- the operation at a place
  pub named_at : (k s : ℕ) → slice_get schedule k ≡ Some s → StandsAt (named schedule) k (op s (placed (take k schedule) s))
  named_at k s h =
      let none : placed [] s + placed (take k schedule) s ≡ placed (take k schedule) s = omega arith in
      subst (λ (i : ℕ). StandsAt (named schedule) k (op s i)) none (named_after_at [] schedule k s h)

  -- what stands at a place is of the session that is named there, with the number of times that it is named before as its index
  pub named_is : (k : ℕ) (a : OpId) → StandsAt (named schedule) k a → (slice_get schedule k ≡ Some a.session) × (a.index ≡ placed (take k schedule) a.session)
  named_is k a h =
      let long = length-named in
      let within = slice_get_within (named schedule) k a h in
      let s : ℕ = get_or schedule k 0 in
      let here : slice_get schedule k ≡ Some s = slice_get-get_or schedule k 0 (omega arith) in
      let is : ◌≡◌ {A = OpId} (op s (placed (take k schedule) s)) a = same_Some _ _ (sym (named_at k s here) ∙ h) in
      let same : s ≡ a.session = ap (λ (x : OpId). x.session) is in
      (here ∙ ap Some same, sym (ap (λ (x : OpId). x.index) is) ∙ ap (λ (t : ℕ). placed (take k schedule) t) same)

  -- an operation is named where its session is named often enough
  pub named_each : (a : OpId) → a.index < placed schedule a.session → (k : ℕ) × StandsAt (named schedule) k a
  named_each a below =
      let r = places schedule a.session a.index below in
      (r.0, subst (λ (i : ℕ). StandsAt (named schedule) r.0 (op a.session i)) r.2 (named_at r.0 a.session r.1))

  -- what stands before a place is named in the front
  pub counted_from_before : (k : ℕ) (a : OpId) → StandsBefore (named schedule) k a → a.index < placed (take k schedule) a.session
  counted_from_before k a (j, below, stands) =
      let is = named_is j a stands in
      let index = is.1 in
      let next = placed-next a.session schedule j a.session is.0 in
      let one = placed-one a.session a.session refl in
      let up_to = placed-up schedule (j + 1) k a.session (omega arith) in
      omega arith

  pub named_within : (k : ℕ) (a : OpId) → StandsAt (named schedule) k a → a.index < placed schedule a.session
  named_within k a stands =
      let within = slice_get_within (named schedule) k a stands in
      let long = length-named in
      let before = counted_from_before (length schedule) a (k, omega arith, stands) in
      subst (λ (xs : List ℕ). a.index < placed xs a.session) (take_all (length schedule) schedule (omega arith)) before

  -- operations of one session stand in program order
  pub named_index_rises : (j k : ℕ) (a b : OpId) → StandsAt (named schedule) j a → StandsAt (named schedule) k b → a.session ≡ b.session → j < k → a.index < b.index
  named_index_rises j k a b at_j at_k same below =
      let before = counted_from_before k a (j, below, at_j) in
      let index = (named_is k b at_k).1 in
      let here : placed (take k schedule) a.session ≡ placed (take k schedule) b.session = ap (λ (s : ℕ). placed (take k schedule) s) same in
      omega arith

  -- each operation is named once
  pub named_once : (j k : ℕ) (a : OpId) → StandsAt (named schedule) j a → StandsAt (named schedule) k a → j ≡ k
  named_once j k a at_j at_k =
      ⊎_elim
      (λ (below : j < k). let rises = named_index_rises j k a a at_j at_k refl below in absurd (omega arith))
      (λ (up_to : k ≤ j). ⊎_elim
      (λ (below : k < j). let rises = named_index_rises k j a a at_k at_j refl below in absurd (omega arith))
      (λ (other : j ≤ k). omega arith)
      (cases_lt k j))
      (cases_lt j k)

  pub named_in_order : (j k : ℕ) (a b : OpId) → StandsAt (named schedule) j a → StandsAt (named schedule) k b → a.session ≡ b.session → a.index < b.index → j < k
  named_in_order j k a b at_j at_k same rises =
      ⊎_elim
      (λ (below : j < k). below)
      (λ (up_to : k ≤ j).
      let first = (named_is j a at_j).1 in
      let second = (named_is k b at_k).1 in
      let here : placed (take k schedule) a.session ≡ placed (take k schedule) b.session = ap (λ (s : ℕ). placed (take k schedule) s) same in
      let fewer = placed-up schedule k j a.session up_to in
      absurd (omega arith))
      (cases_lt j k)

-- what is named in the front stands before a place
pub before_from_counted : (schedule : List ℕ) (k : ℕ) (a : OpId) → a.index < placed (take k schedule) a.session → StandsBefore (named schedule) k a
before_from_counted schedule k a below =
    let r = named_each (take k schedule) a below in
    let there = slice_get-from_take (named schedule) k r.0 a (subst (λ (ops : List OpId). StandsAt ops r.0 a) (sym (take-named schedule k)) r.1) in
    (r.0, there.0, there.1)

-- Laws of the order of stamps. (Lamport, "Time, clocks and the ordering of events in a distributed system", 1978.)
use Rattle.std.proofs.Common.{◌≡◌, ◌≢◌, ℕ, zero, suc, ◌+◌, ◌<◌, ◌≤◌, List, [], ◌∷◌, ◌++◌, length, refl, sym, ap, subst, ◌∙◌, arith, cond, ⊎_elim, ◌⊎◌, inl, inr}
use Rattle.std.specs.Prelude.{Bool, true, false, ◌==◌, ◌&&◌, ◌||◌, Some, count_by, insert, nat_lt, slice_get}
use Rattle.std.proofs.Math.Bool.{or-true}
use Rattle.std.proofs.lemmas.Bool.{cases_lt, eq-eqb, eqb-true, lt-ltb, ltb-true}
use Rattle.std.proofs.lemmas.List.Edits.{insert_end}
use Rattle.std.proofs.lemmas.List.Sums.{sum_by-cons, count_by-le-length}
use Rattle.std.proofs.lemmas.Option.{same_Some, slice_get_within}
use Rattle.live_replica.specs.Orders.{IsBehind, IsLatest, IsNew, Key}
use Rattle.live_replica.proofs.Placing.{insert-stood}
use Rattle.live_lamport_store.specs.Stamps.{IsRising, goes_before, place_by_stamp}

-- one number and then a test
abbrev pub then_test : ℕ → ℕ → Bool → Bool
then_test x y r = nat_lt x y || ((x == y) && r)

split-or : (a b : Bool) → (a || b) ≡ true → (a ≡ true) ⊎ (b ≡ true)
split-or true b e = inl refl
split-or false b e = inr e

split-and : (a b : Bool) → (a && b) ≡ true → (a ≡ true) × (b ≡ true)
split-and true b e = (refl, e)
split-and false b e = absurd cc

less-then : (x y : ℕ) (r : Bool) → x < y → then_test x y r ≡ true
less-then x y r less = ap (λ (b : Bool). b || ((x == y) && r)) (lt-ltb x y less)

tied-then : (x y : ℕ) (r : Bool) → x ≡ y → r ≡ true → then_test x y r ≡ true
tied-then x y r e passes = ap (λ (b : Bool). nat_lt x y || b) (ap (λ (b : Bool). b && r) (eq-eqb x y e) ∙ passes) ∙ or-true (nat_lt x y)

then-out : (x y : ℕ) (r : Bool) → then_test x y r ≡ true → (x < y) ⊎ ((x ≡ y) × (r ≡ true))
then-out x y r e = ⊎_elim
    (λ (less : nat_lt x y ≡ true). inl (ltb-true x y less))
    (λ (tied : ((x == y) && r) ≡ true). let s = split-and (x == y) r tied in inr (eqb-true x y s.0, s.1))
    (split-or (nat_lt x y) ((x == y) && r) e)

then-trans : (x y z : ℕ) (r s t : Bool) → (r ≡ true → s ≡ true → t ≡ true) → then_test x y r ≡ true → then_test y z s ≡ true → then_test x z t ≡ true
then-trans x y z r s t step p q = ⊎_elim
    (λ (a : x < y). ⊎_elim
    (λ (b : y < z). less-then x z t (omega arith))
    (λ (b : (y ≡ z) × (s ≡ true)). let e = b.0 in less-then x z t (omega arith))
    (then-out y z s q))
    (λ (a : (x ≡ y) × (r ≡ true)). ⊎_elim
    (λ (b : y < z). let e = a.0 in less-then x z t (omega arith))
    (λ (b : (y ≡ z) × (s ≡ true)). tied-then x z t (a.0 ∙ b.0) (step a.1 b.1))
    (then-out y z s q))
    (then-out x y r p)

then-false : (x y : ℕ) (r : Bool) → x ≡ y → then_test x y r ≡ false → r ≡ false
then-false x y true e fails = let passes = tied-then x y true e refl in absurd cc
then-false x y false e fails = refl

then-other : (x y : ℕ) (r s : Bool) → (x ≡ y → r ≡ false → s ≡ true) → then_test x y r ≡ false → then_test y x s ≡ true
then-other x y r s step fails = ⊎_elim
    (λ (less : x < y). let passes = less-then x y r less in absurd cc)
    (λ (from : y ≤ x). ⊎_elim
    (λ (less : y < x). less-then y x s less)
    (λ (up_to : x ≤ y). let e : x ≡ y = omega arith in tied-then y x s (sym e) (step e (then-false x y r e fails)))
    (cases_lt y x))
    (cases_lt x y)

less-trans : (x y z : ℕ) → nat_lt x y ≡ true → nat_lt y z ≡ true → nat_lt x z ≡ true
less-trans x y z p q = let a = ltb-true x y p in let b = ltb-true y z q in lt-ltb x z (omega arith)

less-other : (x y : ℕ) → x ≢ y → nat_lt x y ≡ false → nat_lt y x ≡ true
less-other x y apart fails = ⊎_elim
    (λ (less : x < y). let passes = lt-ltb x y less in absurd cc)
    (λ (from : y ≤ x). ⊎_elim
    (λ (less : y < x). lt-ltb y x less)
    (λ (up_to : x ≤ y). let e : x ≡ y = omega arith in absurd (apart e))
    (cases_lt y x))
    (cases_lt x y)

pub before-trans : (a b c : Key) → goes_before a b ≡ true → goes_before b c ≡ true → goes_before a c ≡ true
before-trans a b c = then-trans a.0 b.0 c.0 (then_test a.1 b.1 (nat_lt a.2 b.2)) (then_test b.1 c.1 (nat_lt b.2 c.2)) (then_test a.1 c.1 (nat_lt a.2 c.2))
    (then-trans a.1 b.1 c.1 (nat_lt a.2 b.2) (nat_lt b.2 c.2) (nat_lt a.2 c.2) (less-trans a.2 b.2 c.2))

-- of two updates that are not of one session and one number, one goes before the other
pub before-other : (a b : Key) → (a.1 ≡ b.1 → a.2 ≢ b.2) → goes_before a b ≡ false → goes_before b a ≡ true
before-other a b apart = then-other a.0 b.0 (then_test a.1 b.1 (nat_lt a.2 b.2)) (then_test b.1 a.1 (nat_lt b.2 a.2))
    (λ same. then-other a.1 b.1 (nat_lt a.2 b.2) (nat_lt b.2 a.2) (λ session. less-other a.2 b.2 (apart session)))

-- of two stamps the earlier goes before the later
pub before-later : (a b : Key) → a.0 < b.0 → goes_before a b ≡ true
before-later a b less = less-then a.0 b.0 (then_test a.1 b.1 (nat_lt a.2 b.2)) less

pub rising_none : IsRising []
rising_none i j a b less at = absurd cc

-- one more in order
pub rising-insert : (ks : List Key) (at : ℕ) (k : Key) → at ≤ length ks → IsRising ks
    → ((i : ℕ) (a : Key) → i < at → slice_get ks i ≡ Some a → goes_before a k ≡ true)
    → ((i : ℕ) (a : Key) → at ≤ i → slice_get ks i ≡ Some a → goes_before k a ≡ true)
    → IsRising (insert ks at k)
rising-insert ks at k within rising front back i j a b less at-i at-j = ⊎_elim
    (λ (before : (i < at) × (slice_get ks i ≡ Some a)). ⊎_elim
    (λ (other : (j < at) × (slice_get ks j ≡ Some b)). rising i j a b less before.1 other.1)
    (λ (rest : ((j ≡ at) × (k ≡ b)) ⊎ ((m : ℕ) × (j ≡ m + 1) × (at ≤ m) × (slice_get ks m ≡ Some b))). ⊎_elim
    (λ (here : (j ≡ at) × (k ≡ b)). subst (λ (x : Key). goes_before a x ≡ true) here.1 (front i a before.0 before.1))
    (λ (behind : (m : ℕ) × (j ≡ m + 1) × (at ≤ m) × (slice_get ks m ≡ Some b)).
    let below = before.0 in
    let from = behind.2 in
    rising i behind.0 a b (omega arith) before.1 behind.3)
    rest)
    (insert-stood ks at k j b within at-j))
    (λ (rest-i : ((i ≡ at) × (k ≡ a)) ⊎ ((m : ℕ) × (i ≡ m + 1) × (at ≤ m) × (slice_get ks m ≡ Some a))). ⊎_elim
    (λ (before : (j < at) × (slice_get ks j ≡ Some b)). absurd (impossible rest-i before.0))
    (λ (rest : ((j ≡ at) × (k ≡ b)) ⊎ ((m : ℕ) × (j ≡ m + 1) × (at ≤ m) × (slice_get ks m ≡ Some b))). ⊎_elim
    (λ (here : (j ≡ at) × (k ≡ b)). absurd (impossible-here rest-i here.0))
    (λ (behind : (m : ℕ) × (j ≡ m + 1) × (at ≤ m) × (slice_get ks m ≡ Some b)). ⊎_elim
    (λ (here : (i ≡ at) × (k ≡ a)). subst (λ (x : Key). goes_before x b ≡ true) here.1 (back behind.0 b behind.2 behind.3))
    (λ (first : (m : ℕ) × (i ≡ m + 1) × (at ≤ m) × (slice_get ks m ≡ Some a)).
    let e = first.1 in
    let f = behind.1 in
    rising first.0 behind.0 a b (omega arith) first.3 behind.3)
    rest-i)
    rest)
    (insert-stood ks at k j b within at-j))
    (insert-stood ks at k i a within at-i)
  where
    impossible : ((i ≡ at) × (k ≡ a)) ⊎ ((m : ℕ) × (i ≡ m + 1) × (at ≤ m) × (slice_get ks m ≡ Some a)) → j < at → ⊥
    impossible p below = ⊎_elim
        (λ (here : (i ≡ at) × (k ≡ a)). let e = here.0 in omega arith)
        (λ (first : (m : ℕ) × (i ≡ m + 1) × (at ≤ m) × (slice_get ks m ≡ Some a)). let e = first.1 in let from = first.2 in omega arith)
        p

    impossible-here : ((i ≡ at) × (k ≡ a)) ⊎ ((m : ℕ) × (i ≡ m + 1) × (at ≤ m) × (slice_get ks m ≡ Some a)) → j ≡ at → ⊥
    impossible-here p same = ⊎_elim
        (λ (here : (i ≡ at) × (k ≡ a)). let e = here.0 in omega arith)
        (λ (first : (m : ℕ) × (i ≡ m + 1) × (at ≤ m) × (slice_get ks m ≡ Some a)). let e = first.1 in let from = first.2 in omega arith)
        p

rising-rest : (b : Key) (ks : List Key) → IsRising (b ∷ ks) → IsRising ks
rising-rest b ks rising i j a c less at-i at-j = rising (suc i) (suc j) a c (omega arith) at-i at-j

module _ (k : Key) where
  abbrev pub is_before : Key → Bool
  is_before a = goes_before a k

  none-count : (ks : List Key) → ((i : ℕ) (a : Key) → slice_get ks i ≡ Some a → is_before a ≡ false) → count_by is_before ks ≡ 0
  none-count [] none = refl
  none-count (b ∷ ks) none =
      let first : count_by is_before (b ∷ ks) ≡ cond false 1 0 + count_by is_before ks = sum_by-cons _ b ks ∙ ap (λ (t : Bool). cond t 1 0 + count_by is_before ks) (none 0 b refl) in
      let rest = none-count ks (λ i a at. none (suc i) a at) in
      omega arith

  none-behind : (b : Key) (ks : List Key) → IsRising (b ∷ ks) → is_before b ≡ false → (i : ℕ) (a : Key) → slice_get ks i ≡ Some a → is_before a ≡ false
  none-behind b ks rising e i a at = decided (is_before a) refl
    where
      decided : (t : Bool) → is_before a ≡ t → is_before a ≡ false
      decided true f = let first = before-trans b a k (rising 0 (suc i) b a (omega arith) refl at) f in absurd cc
      decided false f = f

  -- the updates that go before one are the first ones
  abbrev pub IsFirstOne : List Key → ℕ → Key → Type 0
  IsFirstOne ks i a = (is_before a ≡ true → i < count_by is_before ks) × (is_before a ≡ false → count_by is_before ks ≤ i)

  count-more : (b : Key) (ks : List Key) → is_before b ≡ true → count_by is_before (b ∷ ks) ≡ 1 + count_by is_before ks
  count-more b ks e = sum_by-cons _ b ks ∙ ap (λ (t : Bool). cond t 1 0 + count_by is_before ks) e

  count-none : (b : Key) (ks : List Key) → IsRising (b ∷ ks) → is_before b ≡ false → count_by is_before (b ∷ ks) ≡ 0
  count-none b ks rising e =
      let first : count_by is_before (b ∷ ks) ≡ cond false 1 0 + count_by is_before ks = sum_by-cons _ b ks ∙ ap (λ (t : Bool). cond t 1 0 + count_by is_before ks) e in
      let rest = none-count ks (none-behind b ks rising e) in
      omega arith

  first-here : (b : Key) (ks : List Key) → IsRising (b ∷ ks) → (t : Bool) → is_before b ≡ t → IsFirstOne (b ∷ ks) 0 b
  first-here b ks rising true e = let n = count-more b ks e in (λ passes. omega arith, λ fails. absurd cc)
  first-here b ks rising false e = let n = count-none b ks rising e in (λ passes. absurd cc, λ fails. omega arith)

  first-later : (b : Key) (ks : List Key) → IsRising (b ∷ ks) → (i : ℕ) (a : Key) → slice_get ks i ≡ Some a → IsFirstOne ks i a
      → (t : Bool) → is_before b ≡ t → IsFirstOne (b ∷ ks) (suc i) a
  first-later b ks rising i a at rest true e =
      let n = count-more b ks e in
      (λ passes. let l = rest.0 passes in omega arith, λ fails. let l = rest.1 fails in omega arith)
  first-later b ks rising i a at rest false e =
      let n = count-none b ks rising e in
      let none = none-behind b ks rising e i a at in
      (λ passes. absurd cc, λ fails. omega arith)

  pub first-ones : (ks : List Key) → IsRising ks → (i : ℕ) (a : Key) → slice_get ks i ≡ Some a → IsFirstOne ks i a
  first-ones [] rising i a at = absurd cc
  first-ones (b ∷ ks) rising zero a at = subst (λ (x : Key). IsFirstOne (b ∷ ks) 0 x) (same_Some b a at) (first-here b ks rising (is_before b) refl)
  first-ones (b ∷ ks) rising (suc i) a at = first-later b ks rising i a at (first-ones ks (rising-rest b ks rising) i a at) (is_before b) refl

-- an update that is delivered
pub rising_taken : (ks : List Key) (k : Key) → IsRising ks → IsNew ks k → IsRising (insert ks (place_by_stamp ks k) k)
rising_taken ks k rising new = rising-insert ks (place_by_stamp ks k) k (count_by-le-length _ ks) rising
    (λ i a below at. before i a below at (is_before k a) refl)
    (λ i a from at. behind i a from at (is_before k a) refl)
  where
    before : (i : ℕ) (a : Key) → i < place_by_stamp ks k → slice_get ks i ≡ Some a → (t : Bool) → is_before k a ≡ t → goes_before a k ≡ true
    before i a below at true e = e
    before i a below at false e = let l = (first-ones k ks rising i a at).1 e in absurd (omega arith)

    behind : (i : ℕ) (a : Key) → place_by_stamp ks k ≤ i → slice_get ks i ≡ Some a → (t : Bool) → is_before k a ≡ t → goes_before k a ≡ true
    behind i a from at true e = let l = (first-ones k ks rising i a at).0 e in absurd (omega arith)
    behind i a from at false e = before-other a k (new i a at) e

-- an own update
pub rising_latest : (ks : List Key) (k : Key) → IsRising ks → IsLatest ks k → IsRising (ks ++ k ∷ [])
rising_latest ks k rising latest = subst IsRising (insert_end ks k) (rising-insert ks (length ks) k (omega arith) rising
    (λ i a below at. before-later a k (latest i a at))
    (λ i a from at. let inside = slice_get_within ks i a at in absurd (omega arith)))

pub place_within : (ks : List Key) (k : Key) → place_by_stamp ks k ≤ length ks
place_within ks k = count_by-le-length _ ks

-- an update may go before others
pub not_behind : false ≡ true → IsBehind place_by_stamp
not_behind e = absurd cc

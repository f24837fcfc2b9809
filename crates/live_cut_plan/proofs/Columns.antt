-- Columns of cells that were seen: what one more makes of them, and where they end.
use Rattle.std.proofs.Common.{◌≡◌, ◌≢◌, ℕ, suc, zero, ◌+◌, ◌-◌, ◌<◌, ◌≤◌, inl, inr, refl, sym, ◌∙◌, ap, subst, arith}
use Rattle.std.specs.Prelude.{Bool, true, false, not, ◌&&◌, Option, Some, None, nat_lt, if◌then◌else◌}
use Rattle.std.proofs.lemmas.Bool.{cases_eq, cases_Bool}
use Rattle.live_cut_plan.specs.declared.cell.Cell.{Cell}
use Rattle.live_cut_plan.specs.Plans.{was_read, was_full, first_failing, last_failing, named_at}
use Rattle.live_cut_plan.specs.Walks.{IsColumn}
use Rattle.live_cut_plan.specs.Steps.PlanStates.{place_behind}

module _ (a a' : ℕ → Option Bool) (from found : ℕ) where
  pub column_same : (over : Bool) → ((i : ℕ) → from ≤ i → a' i ≡ a i) → IsColumn a from found over → IsColumn a' from found over
  column_same over e c = record {
    from_on = c.from_on;
    full = λ i h k. e i h ∙ c.full i h k;
    goes_on = λ h. e found c.from_on ∙ c.goes_on h;
    ended = λ h. e found c.from_on ∙ c.ended h;
    behind = λ i h. e i (let k : from ≤ found = c.from_on in let m : found < i = h in omega arith) ∙ c.behind i h;
  }

  module _ (e : (i : ℕ) → from ≤ i → i ≢ found → a' i ≡ a i) (c : IsColumn a from found false) where
    -- the next cell is full
    pub column_full : a' found ≡ Some true → IsColumn a' from (found + 1) false
    column_full n = record {
      from_on = let k : from ≤ found = c.from_on in omega arith;
      full = λ i h k. elim (cases_eq i found) [
        | inl m ↦ subst (λ (j : ℕ). a' j ≡ Some true) (sym m) n
        | inr m ↦ e i h m ∙ c.full i h (let k' : i < found + 1 = k in let m' : i ≢ found = m in omega arith)
      ];
      goes_on = λ h. e (found + 1) (let k : from ≤ found = c.from_on in omega arith) (λ m. let m' : found + 1 ≡ found = m in omega arith) ∙ c.behind (found + 1) (omega arith);
      ended = λ h. absurd (cc);
      behind = λ i h. let h' : found + 1 < i = h in e i (let k : from ≤ found = c.from_on in omega arith) (λ m. let m' : i ≡ found = m in omega arith) ∙ c.behind i (omega arith);
    }

    -- the next cell is empty
    pub column_empty : a' found ≡ Some false → IsColumn a' from found true
    column_empty n = record {
      from_on = c.from_on;
      full = λ i h k. e i h (λ m. let m' : i ≡ found = m in let k' : i < found = k in omega arith) ∙ c.full i h k;
      goes_on = λ h. absurd (cc);
      ended = λ h. n;
      behind = λ i h. let h' : found < i = h in e i (let k : from ≤ found = c.from_on in omega arith) (λ m. let m' : i ≡ found = m in omega arith) ∙ c.behind i h;
    }

-- a column of which nothing was looked at
pub column_fresh : (a : ℕ → Option Bool) (from k : ℕ) → ((i : ℕ) → a i ≡ None) → k ≡ 0 → IsColumn a from (from + k) false
column_fresh a from k e z = record {
  from_on = omega arith;
  full = λ i h m. absurd (let h' : from ≤ i = h in let m' : i < from + k = m in let z' : k ≡ 0 = z in omega arith);
  goes_on = λ h. e (from + k);
  ended = λ h. absurd (cc);
  behind = λ i h. e i;
}

-- where the first place that fails a test is
pub first_is : (test : ℕ → Bool) (n i j : ℕ) → i ≤ j → j ≤ i + n → ((x : ℕ) → i ≤ x → x < j → test x ≡ true) → (j < i + n → test j ≡ false) → first_failing test i n ≡ j
first_is test zero i j l m t f = let l' : i ≤ j = l in let m' : j ≤ i + 0 = m in omega arith
first_is test (suc n) i j l m t f = elim (cases_eq i j) [
  | inl e ↦ step_stop (test i) (subst (λ (x : ℕ). test x ≡ false) (sym e) (f (let e' : i ≡ j = e in omega arith))) e
  | inr e ↦ step_on (test i) (t i (omega arith) (let e' : i ≢ j = e in let l' : i ≤ j = l in omega arith)) (first_is test n (i + 1) j (let e' : i ≢ j = e in let l' : i ≤ j = l in omega arith) (let m' : j ≤ i + suc n = m in omega arith)
      (λ x h k. t x (let h' : i + 1 ≤ x = h in omega arith) k) (λ h. f (let h' : j < i + 1 + n = h in omega arith)))
]
  where
    step_stop : (b : Bool) → b ≡ false → i ≡ j → (if b then first_failing test (i + 1) n else i) ≡ j
    step_stop true e g = absurd (cc)
    step_stop false e g = g

    step_on : (b : Bool) → b ≡ true → first_failing test (i + 1) n ≡ j → (if b then first_failing test (i + 1) n else i) ≡ j
    step_on true e g = g
    step_on false e g = absurd (cc)

pub last_is_none : (test : ℕ → Bool) (n : ℕ) → ((x : ℕ) → x < n → test x ≡ true) → last_failing test n ≡ None
last_is_none test zero t = refl
last_is_none test (suc n) t = on (test n) (t n (omega arith)) (last_is_none test n (λ x h. t x (let h' : x < n = h in omega arith)))
  where
    on : (b : Bool) → b ≡ true → last_failing test n ≡ None → (if b then last_failing test n else Some n) ≡ None
    on true e g = g
    on false e g = absurd (cc)

pub last_is : (test : ℕ → Bool) (n j : ℕ) → j < n → test j ≡ false → ((x : ℕ) → j < x → x < n → test x ≡ true) → last_failing test n ≡ Some j
last_is test zero j l f t = absurd (let l' : j < 0 = l in omega arith)
last_is test (suc n) j l f t = elim (cases_eq j n) [
  | inl e ↦ stop (test n) (subst (λ (x : ℕ). test x ≡ false) e f) e
  | inr e ↦ on (test n) (t n (let e' : j ≢ n = e in let l' : j < suc n = l in omega arith) (omega arith)) (last_is test n j (let e' : j ≢ n = e in let l' : j < suc n = l in omega arith) f (λ x h k. t x h (let k' : x < n = k in omega arith)))
]
  where
    stop : (b : Bool) → b ≡ false → j ≡ n → (if b then last_failing test n else Some n) ≡ Some j
    stop true e g = absurd (cc)
    stop false e g = ap Some (sym g)

    on : (b : Bool) → b ≡ true → last_failing test n ≡ Some j → (if b then last_failing test n else Some n) ≡ Some j
    on true e g = g
    on false e g = absurd (cc)

-- a column ends at what was found
pub found_is : (a : ℕ → Option Bool) (cap from found : ℕ) (over : Bool) → found ≤ cap → IsColumn a from found over → first_failing (λ i. was_full (a i)) from (cap - from) ≡ found
found_is a cap from found over w c =
    let f : from ≤ found = c.from_on in let w' : found ≤ cap = w in
    first_is (λ i. was_full (a i)) (cap - from) from found f (omega arith) (λ x h k. ap was_full (c.full x h k))
    (λ h. elim (cases_Bool over) [ inl o ↦ ap was_full (c.ended o) | inr o ↦ ap was_full (c.goes_on o) ])

pub read_is : (a : ℕ → Option Bool) (from found : ℕ) (over : Bool) → IsColumn a from found over → was_read (a found) ≡ over
read_is a from found true c = ap was_read (c.ended refl)
read_is a from found false c = ap was_read (c.goes_on refl)

-- the cell behind what was found is the one that is next
pub behind_is : (cell : ℕ → Cell) (a : ℕ → Option Bool) (cap from found : ℕ) (over : Bool) → IsColumn a from found over
    → (if nat_lt found cap && not (was_read (a found)) then Some (cell found) else None) ≡ named_at cell (place_behind cap found over)
behind_is cell a cap from found over c = ap (λ (o : Bool). if nat_lt found cap && not o then Some (cell found) else None) (read_is a from found over c) ∙ named (nat_lt found cap && not over)
  where
    named : (t : Bool) → (if t then Some (cell found) else None) ≡ named_at cell (if t then Some found else None)
    named true = refl
    named false = refl

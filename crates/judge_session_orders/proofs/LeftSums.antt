-- Sums over the operations that are left.
use Rattle.std.specs.Prelude.{◌≡◌, ◌≢◌, ℕ, ◌+◌, ◌-◌, ◌<◌, ◌≤◌}
use Rattle.std.proofs.Common.{zero, suc, arith, refl, sym, ap, ⊎_elim, eq-or-lt_of_le}
use Rattle.std.proofs.lemmas.Bool.{cases_eq}
use Rattle.model_history.specs.declared.op_id.OpId.{OpId}
use Rattle.order_causal.specs.Orders.{op}
use Rattle.order_memory.specs.CountSums.{sum_below}
use Rattle.order_memory.proofs.CountSumsLaws.{sum-changed, sum-same}
use Rattle.judge_session_orders.specs.Backward.{IsLeft, IsOpen, last_left, IsPlacing}
use Rattle.judge_session_orders.specs.Tables.{left_sum}

-- where a sum is not 0, some item of it is not
sum-some : (f : ℕ → ℕ) (n : ℕ) → sum_below f n ≢ 0 → (i : ℕ) × (i < n) × (f i ≢ 0)
sum-some f zero some = absurd (some refl)
sum-some f (suc n) some = ⊎_elim
    (λ (none : f n ≡ 0). let before = sum-some f n (λ zero_sum. some (omega arith)) in let below =
    before.1 in (before.0, omega arith, before.2))
    (λ (here : f n ≢ 0). (n, omega arith, here))
    (cases_eq (f n) 0)

-- no item is above the sum
sum-item : (f : ℕ → ℕ) (n i : ℕ) → i < n → f i ≤ sum_below f n
sum-item f zero i below = absurd (omega arith)
sum-item f (suc n) i below = ⊎_elim
    (λ (here : i ≡ n). let same = ap f here in omega arith)
    (λ (before : i < n). let less = sum-item f n i before in omega arith)
    (let up_to : i ≤ n = omega arith in eq-or-lt_of_le up_to)

sum-none : (f : ℕ → ℕ) (n : ℕ) → ((i : ℕ) → f i ≡ 0) → sum_below f n ≡ 0
sum-none f zero none = refl
sum-none f (suc n) none = let before = sum-none f n none in let here = none n in omega arith

module _ (k : ℕ) (item : OpId → ℕ) (left : ℕ → ℕ) where
  pub left-some : left_sum k item left ≢ 0 → (a : OpId) × IsLeft left a × (item a ≢ 0)
  left-some some =
      let s = sum-some (λ t. sum_below (λ i. item (op t i)) (left t)) k some in
      let i = sum-some (λ i. item (op s.0 i)) (left s.0) s.2 in
      (op s.0 i.0, i.1, i.2)

  pub left-item : (a : OpId) → a.session < k → IsLeft left a → item a ≤ left_sum k item left
  left-item a below is_left =
      let of_session = sum-item (λ i. item (op a.session i)) (left a.session) a.index is_left in
      let of_all = sum-item (λ t. sum_below (λ i. item (op t i)) (left t)) k a.session below in
      omega arith

  pub left-none : ((t : ℕ) → ¬ IsOpen left t) → left_sum k item left ≡ 0
  left-none none = sum-none (λ t. sum_below (λ i. item (op t i)) (left t)) k
      (λ t. let closed : left t ≡ 0 = (let shut = none t in omega arith) in ap (sum_below (λ i. item (op t i))) closed)

pub left-same : (k : ℕ) (item : OpId → ℕ) (left after : ℕ → ℕ) → ((t : ℕ) → left t ≡ after t) → left_sum k item left ≡ left_sum k item after
left-same k item left after same =
    sum-same (λ t. sum_below (λ i. item (op t i)) (left t)) (λ t. sum_below (λ i. item (op t i)) (after t)) k
    (λ t below. ap (sum_below (λ i. item (op t i))) (same t))

-- one operation fewer: the sum is less by its item
pub left-placed : (k : ℕ) (item : OpId → ℕ) (t : ℕ) (left after : ℕ → ℕ) → IsPlacing t left after → t < k
    → left_sum k item left ≡ left_sum k item after + item (last_left left t)
left-placed k item t left after placing below =
    let one = placing.placed in
    let here : after t ≡ left t - 1 = omega arith in
    let last = ap (λ (i : ℕ). item (op t i)) here in
    let more : left t ≡ suc (after t) = omega arith in
    let both : sum_below (λ i. item (op t i)) (left t) ≡ sum_below (λ i. item (op t i)) (after t) + item (op t (after t)) =
    ap (sum_below (λ i. item (op t i))) more in
    let changed = sum-changed (λ s. sum_below (λ i. item (op s i)) (left s)) (λ s. sum_below (λ i. item (op s i)) (after s)) k t 0
    (item (last_left left t))
    below (omega arith) (λ s exists other. ap (sum_below (λ i. item (op s i))) (sym (placing.others s other))) in
    omega arith

-- fewer operations are left then
pub placed-fewer : (k : ℕ) (t : ℕ) (left after : ℕ → ℕ) → IsPlacing t left after → t < k → left_sum k (λ a. 1) after < left_sum k (λ a. 1) left
placed-fewer k t left after placing below = let placed = left-placed k (λ a. 1) t left after placing below in omega arith

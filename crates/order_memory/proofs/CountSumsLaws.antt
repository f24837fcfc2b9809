-- What follows for sums of counts.
use Rattle.std.specs.Prelude.{◌≡◌, ◌≢◌, ℕ, ◌+◌, ◌<◌, ◌≤◌, length}
use Rattle.std.proofs.Common.{zero, suc, arith, sym, ap, refl, subst, ⊎_elim}
use Rattle.std.proofs.lemmas.Bool.{cases_eq}
use Rattle.model_history.specs.declared.op_id.OpId.{OpId}
use Rattle.model_history.specs.History.{IsOp, session}
use Rattle.order_causal.proofs.Items.{item-cases, item-here}
use Rattle.order_memory.proofs.HeldItems.{listed-held}
use Rattle.order_causal.proofs.OrdersLaws.{session-of_history}
use Rattle.order_memory.specs.CountSums.{sum_below, sum_of_history, all_counted, most_counted}
use Rattle.order_memory.specs.Memory.{MemoryHistory}
use Rattle.order_causal.specs.Orders.{op}
use Rattle.order_memory.specs.Steps.GrowingOrders.{AreHeldVectors}
use Rattle.order_causal.specs.Vectors.{Counts, count, list_of, with_item}

-- a sum of larger numbers is larger
pub sum-within : (f g : ℕ → ℕ) (n : ℕ) → ((i : ℕ) → i < n → f i ≤ g i) → sum_below f n ≤ sum_below g n
sum-within f g zero within = omega arith
sum-within f g (suc n) within =
    let rest = sum-within f g n (λ i below. within i (omega arith)) in
    let last = within n (omega arith) in
    omega arith

pub sum-same : (f g : ℕ → ℕ) (n : ℕ) → ((i : ℕ) → i < n → f i ≡ g i) → sum_below f n ≡ sum_below g n
sum-same f g n same =
    let up = sum-within f g n (λ i below. let is = same i below in omega arith) in
    let down = sum-within g f n (λ i below. let is = same i below in omega arith) in
    omega arith

-- where the numbers differ at one place, the sums differ by as much
pub sum-changed : (f g : ℕ → ℕ) (n i a b : ℕ) → i < n → f i + a ≡ g i + b → ((j : ℕ) → j < n → j ≢ i → f j ≡ g j)
    → sum_below f n + a ≡ sum_below g n + b
sum-changed f g zero i a b below here others = absurd (omega arith)
sum-changed f g (suc n) i a b below here others = ⊎_elim
    (λ (last : i ≡ n).
    let rest = sum-same f g n (λ j under. others j (omega arith) (omega arith)) in
    let there : f n + a ≡ g n + b = subst (λ (j : ℕ). f j + a ≡ g j + b) last here in
    omega arith)
    (λ (apart : i ≢ n).
    let rest = sum-changed f g n i a b (omega arith) here (λ j under. others j (omega arith)) in
    let last = others n (omega arith) (λ same. apart (sym same)) in
    omega arith)
    (cases_eq i n)

-- a sum of n numbers up to b is at most that of as many times b, and of more times it
pub sum-most : (f : ℕ → ℕ) (b n m : ℕ) → ((i : ℕ) → i < n → f i ≤ b) → n ≤ m → sum_below f n ≤ sum_below (λ i. b) m
sum-most f b zero m up_to less = omega arith
sum-most f b (suc n) zero up_to less = absurd (omega arith)
sum-most f b (suc n) (suc m) up_to less =
    let rest = sum-most f b n m (λ i below. up_to i (omega arith)) (omega arith) in
    let last = up_to n (omega arith) in
    omega arith

module _ (h : MemoryHistory) where
  -- the same of sums over all operations and sessions
  pub history-within : (f g : ℕ → ℕ → ℕ → ℕ) → ((s i t : ℕ) → s < length h.1 → i < length (session h s) → t < length h.1 → f s i t ≤ g s i t)
      → sum_of_history h f ≤ sum_of_history h g
  history-within f g within =
      sum-within _ _ (length h.1) (λ s exists. sum-within _ _ (length (session h s)) (λ i is_op. sum-within _ _ (length h.1) (λ t there. within s i t exists is_op there)))

  pub history-changed : (f g : ℕ → ℕ → ℕ → ℕ) (s i t a b : ℕ) → s < length h.1 → i < length (session h s) → t < length h.1
      → f s i t + a ≡ g s i t + b → ((x y z : ℕ) → ((x ≡ s) × (y ≡ i) × (z ≡ t) → ⊥) → f x y z ≡ g x y z)
      → sum_of_history h f + a ≡ sum_of_history h g + b
  history-changed f g s i t a b exists is_op there here others =
      let of_op = sum-changed (λ z. f s i z) (λ z. g s i z) (length h.1) t a b there here
      (λ z below apart. others s i z (λ all. apart all.2)) in
      let of_session = sum-changed (λ y. sum_below (λ z. f s y z) (length h.1)) (λ y. sum_below (λ z. g s y z) (length h.1)) (length (session h s)) i a b is_op of_op
      (λ y below apart. sum-same (λ z. f s y z) (λ z. g s y z) (length h.1) (λ z under. others s y z (λ all. apart all.1))) in
      sum-changed _ _ (length h.1) s a b exists of_session
      (λ x below apart. sum-same _ _ (length (session h x)) (λ y under. sum-same (λ z. f x y z) (λ z. g x y z) (length h.1) (λ z last. others x y z (λ all. apart all.0))))

  module _ (v : Counts) (held : AreHeldVectors h v) where
    pub counted-most : all_counted h v ≤ most_counted h
    counted-most = history-within (λ s i t. count v (op s i) t) (λ s i t. length (session h t)) (λ s i t exists is_op there. held.held (op s i) t is_op)

    -- another count at one place changes the sum by as much
    pub counted-item : (o : OpId) (t x : ℕ) → IsOp h o → t < length h.1
        → all_counted h v + x ≡ all_counted h (with_item v o t x) + count v o t
    counted-item o t x is_op exists =
        let listed = listed-held h v held o is_op t x exists in
        let size = held.vectors.counts o is_op in
        let there : t < length (list_of v o) = omega arith in
        let value : count (with_item v o t x) o t ≡ x = item-here v o t x listed there in
        history-changed (λ s i z. count v (op s i) z) (λ s i z. count (with_item v o t x) (op s i) z) o.session o.index t x (count v o t)
        (session-of_history h o is_op) is_op exists (omega arith)
        (λ a b z apart. ⊎_elim
        (λ (same : count (with_item v o t x) (op a b) z ≡ count v (op a b) z). sym same)
        (λ (places : (op a b ≡ o) × (z ≡ t)).
        absurd (apart (ap (λ (p : OpId). p.session) places.0, ap (λ (p : OpId). p.index) places.0, places.1)))
        (item-cases v o t x listed (op a b) z))

  -- vectors that count at least as much count at least as much in all
  pub counted-within : (v w : Counts) → ((o : OpId) (s : ℕ) → IsOp h o → count v o s ≤ count w o s) → all_counted h v ≤ all_counted h w
  counted-within v w within =
      history-within (λ s i t. count v (op s i) t) (λ s i t. count w (op s i) t) (λ s i t exists is_op there. within (op s i) t is_op)

  -- few sessions of few operations count less than 2 ^ 25
  pub most-few : length h.1 ≤ 16 → ((s : ℕ) → length (session h s) ≤ 256) → most_counted h ≤ 16777216
  most-few few short =
      let of_op : sum_below (λ t. 256) 16 ≡ 4096 = refl in
      let of_session : sum_below (λ i. 4096) 256 ≡ 1048576 = refl in
      let of_all : sum_below (λ s. 1048576) 16 ≡ 16777216 = refl in
      let one : sum_below (λ t. length (session h t)) (length h.1) ≤ sum_below (λ t. 256) 16 =
      sum-most (λ t. length (session h t)) 256 (length h.1) 16 (λ t below. short t) few in
      let each : (s : ℕ) → sum_below (λ i. sum_below (λ t. length (session h t)) (length h.1)) (length (session h s)) ≤ sum_below (λ i. 4096) 256 =
      λ s. sum-most (λ i. sum_below (λ t. length (session h t)) (length h.1)) 4096 (length (session h s)) 256 (λ i below. omega arith) (short s) in
      let all : most_counted h ≤ sum_below (λ s. 1048576) 16 =
      sum-most (λ s. sum_below (λ i. sum_below (λ t. length (session h t)) (length h.1)) (length (session h s))) 1048576 (length h.1) 16
      (λ s below. let this = each s in omega arith) few in
      omega arith

-- What the steps of a state in which vectors grow come to.
use Rattle.std.specs.Prelude.{◌≡◌, ◌≢◌, ◌⊎◌, ℕ, ◌+◌, ◌-◌, ◌<◌, ◌≤◌, ◌∷◌, ◌++◌, [], List, length, Contains, slice_index}
use Rattle.std.proofs.Common.{zero, suc, arith, sym, ap, subst, subst₂, ◌∙◌, ⊎_elim, inl, inr}
use Rattle.std.proofs.lemmas.Bool.{cases_eq, cases_lt}
use Rattle.std.proofs.lemmas.List.Elements.{All-push}
use Rattle.model_history.specs.declared.op_id.OpId.{OpId}
use Rattle.model_history.specs.History.{IsOp}
use Rattle.order_memory.specs.declared.growing_order.Cause.{Cause}
use Rattle.order_memory.specs.declared.growing_order.GrowingOrder.{GrowingOrder}
use Rattle.order_memory.specs.declared.growing_order.Raised.{Raised}
use Rattle.order_memory.specs.Memory.{MemoryHistory}
use Rattle.order_causal.specs.Orders.{op}
use Rattle.order_memory.specs.Steps.GrowingOrders.{IsRaisedIn}
use Rattle.order_memory.specs.Steps.GrowthSteps.{GrowsWithin, IsCovered, IsFirstBehind, IsFollowed, IsFresh, IsGrowing, IsIn, IsMonotone, IsPastOf, IsPending, IsRaisedFrom, IsRaisedTo, IsSettled, NoMore, NoReads, Waits}
use Rattle.order_causal.specs.Vectors.{Counts, count}
use Rattle.order_memory.proofs.Raises.{grows-pending}

-- no count falls along a session
monotone-by : (v : Counts) (past : ℕ → ℕ) → IsMonotone v past → (n s j z : ℕ) → j + n < past s → count v (op s j) z ≤ count v (op s (j + n)) z
monotone-by v past monotone zero s j z below = subst (λ (k : ℕ). count v (op s j) z ≤ count v (op s k) z) (let same : j ≡ j + zero = omega arith in same) (omega arith)
monotone-by v past monotone (suc n) s j z below =
    let next : j + suc n ≡ (j + n) + 1 = omega arith in
    let before = monotone-by v past monotone n s j z (omega arith) in
    let step = monotone s (j + n) z (omega arith) in
    subst (λ (k : ℕ). count v (op s j) z ≤ count v (op s k) z) (sym next) (omega arith)

pub monotone-to : (v : Counts) (past : ℕ → ℕ) → IsMonotone v past → (s j k z : ℕ) → j ≤ k → k < past s → count v (op s j) z ≤ count v (op s k) z
monotone-to v past monotone s j k z up_to below =
    let rest : j + (k - j) ≡ k = omega arith in
    subst (λ (i : ℕ). count v (op s j) z ≤ count v (op s i) z) rest (monotone-by v past monotone (k - j) s j z (omega arith))

-- after a raise to what another vector counts, one session more is counted
pub past-more : (v w : Counts) (past s c : ℕ) (b m : OpId) → IsRaisedFrom v w past b.session b.index s c → b.index < past → c ≡ count v m s
    → ((z : ℕ) → z < s → count v m z ≤ count v b z) → (z : ℕ) → z < s + 1 → count w m z ≤ count w b z
past-more v w past s c b m raised is_in value before z below = ⊎_elim
    (λ (last : z ≡ s).
    let reached = raised.reached is_in in
    let same : count w m s ≡ c = ⊎_elim
    (λ (kept : count w m s ≡ count v m s). kept ∙ sym value)
    (λ (change : (m.session ≡ b.session) × (b.index ≤ m.index) × (s ≡ s) × (count v m s < c) × (count w m s ≡ c)). change.4)
    (raised.changes m s) in
    subst (λ (k : ℕ). count w m k ≤ count w b k) (sym last) (omega arith))
    (λ (apart : z ≢ s).
    let less = before z (omega arith) in
    let kept : (p : OpId) → count w p z ≡ count v p z = λ p. ⊎_elim
    (λ (same : count w p z ≡ count v p z). same)
    (λ (change : (p.session ≡ b.session) × (b.index ≤ p.index) × (z ≡ s) × (count v p z < c) × (count w p z ≡ c)). absurd (apart change.2))
    (raised.changes p z) in
    let of_m = kept m in
    let of_b = kept b in
    omega arith)
    (cases_eq z s)

-- after a raise from the first operation of a session that is behind p, one session more counts as much as p
module _ (v w : Counts) (order after : GrowingOrder) (s n u c : ℕ) (p : OpId) (first : IsFirstBehind order s p n) (is : order.counts ≡ v)
    (raised : IsRaisedFrom v w (slice_index order.past.items s) s n u c) (same_past : after.past.items ≡ order.past.items)
    (monotone : IsMonotone w (λ t. slice_index after.past.items t)) where
  pub behind-same : count v p u ≡ c → count w p u ≡ c
  behind-same same = ⊎_elim
      (λ (kept : count w p u ≡ count v p u). kept ∙ same)
      (λ (change : (p.session ≡ s) × (n ≤ p.index) × (u ≡ u) × (count v p u < c) × (count w p u ≡ c)). change.4)
      (raised.changes p u)

  pub behind-more : ((b : OpId) → b.session < s → IsIn order b → p.index < count v b p.session → c ≤ count v b u)
      → (b : OpId) → b.session < s + 1 → IsIn after b → p.index < count w b p.session → c ≤ count w b u
  behind-more before b below is_in counts = ⊎_elim
      (λ (here : b.session ≡ s).
      let below_past : b.index < slice_index order.past.items b.session = subst (λ (es : List ℕ). b.index < slice_index es b.session) same_past is_in in
      let inside : b.index < slice_index order.past.items s = subst (λ (t : ℕ). b.index < slice_index order.past.items t) here below_past in
      let there : b.index < slice_index after.past.items s = subst (λ (t : ℕ). b.index < slice_index after.past.items t) here is_in in
      ⊎_elim
      (λ (under : b.index < n).
      let none_order = first.before b.index under in
      let none : count v (op s b.index) p.session ≤ p.index = subst (λ (x : Counts). count x (op s b.index) p.session ≤ p.index) is none_order in
      let none_b : count v b p.session ≤ p.index = subst (λ (t : ℕ). count v (op t b.index) p.session ≤ p.index) (sym here) none in
      absurd (⊎_elim
      (λ (kept : count w b p.session ≡ count v b p.session). omega arith)
      (λ (change : (b.session ≡ s) × (n ≤ b.index) × (p.session ≡ u) × (count v b p.session < c) × (count w b p.session ≡ c)). let from = change.1 in omega arith)
      (raised.changes b p.session)))
      (λ (from : n ≤ b.index).
      let reached = raised.reached (omega arith) in
      let rises = monotone-to w (λ t. slice_index after.past.items t) monotone s n b.index u from there in
      subst (λ (t : ℕ). c ≤ count w (op t b.index) u) (sym here) (omega arith))
      (cases_lt b.index n))
      (λ (apart : b.session ≢ s).
      let kept : (z : ℕ) → count w b z ≡ count v b z = λ z. ⊎_elim
      (λ (same : count w b z ≡ count v b z). same)
      (λ (change : (b.session ≡ s) × (n ≤ b.index) × (z ≡ u) × (count v b z < c) × (count w b z ≡ c)). absurd (apart change.0))
      (raised.changes b z) in
      let of_p = kept p.session in
      let of_u = kept u in
      let enough = before b (omega arith) (subst (λ (es : List ℕ). b.index < slice_index es b.session) same_past is_in) (omega arith) in
      omega arith)
      (cases_eq b.session s)

-- where a raise is followed, a state that is settled but for it is settled
pub settled-behind : (order : GrowingOrder) (raised : Raised) → IsSettled (λ e. e ≡ raised) order
    → IsFollowed (Waits NoMore order) order.counts raised.op raised.session
    → ((b : OpId) → IsIn order b → raised.op.index < count order.counts b raised.op.session → count order.counts raised.op raised.session ≤ count order.counts b raised.session)
    → IsSettled NoMore order
settled-behind order raised settled followed behind = record {
  monotone = settled.monotone;
  followed = λ b y is_in fresh i z ends. ⊎_elim
      (λ (counts : count order.counts (op y i) z ≤ count order.counts b z). inl counts)
      (λ (waiting : IsPending (Waits (λ e. e ≡ raised) order) b y ⊎ IsCovered (Waits (λ e. e ≡ raised) order) order.counts (op y i) z). ⊎_elim
      (λ (is : IsPending (Waits (λ e. e ≡ raised) order) b y). ⊎_elim
      (λ (held : Contains order.pending.items is.0). inr (inl (is.0, inl held, is.2, is.3)))
      (λ (this : is.0 ≡ raised).
      let of_op : b ≡ raised.op = sym is.2 ∙ ap (λ (e : Raised). e.op) this in
      let of_session : y ≡ raised.session = sym is.3 ∙ ap (λ (e : Raised). e.session) this in
      let here : IsFollowed (Waits NoMore order) order.counts b y =
      subst₂ (λ (q : OpId) (t : ℕ). IsFollowed (Waits NoMore order) order.counts q t) (sym of_op) (sym of_session) followed in
      here fresh i z ends)
      is.1)
      (λ (is : IsCovered (Waits (λ e. e ≡ raised) order) order.counts (op y i) z). ⊎_elim
      (λ (held : Contains order.pending.items is.0). inr (inr (is.0, inl held, is.2, is.3, is.4, is.5)))
      (λ (this : is.0 ≡ raised).
      let of_session : raised.session ≡ z = sym (ap (λ (e : Raised). e.session) this) ∙ is.2 in
      let of_op : raised.op.session ≡ y = sym (ap (λ (e : Raised). e.op.session) this) ∙ is.3 in
      let from : raised.op.index ≤ i = subst (λ (e : Raised). e.op.index ≤ i) this is.4 in
      let most : count order.counts (op y i) z ≤ count order.counts raised.op z = subst (λ (e : Raised). count order.counts (op y i) z ≤ count order.counts e.op z) this is.5 in
      let counted : raised.op.index < count order.counts b raised.op.session =
      subst (λ (t : ℕ). raised.op.index < count order.counts b t) (sym of_op) (omega arith) in
      let enough : count order.counts raised.op z ≤ count order.counts b z =
      subst (λ (t : ℕ). count order.counts raised.op t ≤ count order.counts b t) of_session (behind b is_in counted) in
      inl (omega arith))
      is.1)
      waiting)
      (settled.followed b y is_in fresh i z ends);
}

module _ (h : MemoryHistory) where
  module _ (a b x : GrowingOrder) (t i e u c : ℕ) (cause : Cause) (raised : IsRaisedTo h a b t i e u c cause) (some : i < e) (is_op : IsOp h (op t i)) (exists : u < length h.1)
      (counts : x.counts ≡ b.counts) (past : x.past.items ≡ b.past.items)
      (pending : x.pending.items ≡ b.pending.items ++ record { op = op t i; end = e; session = u } ∷ []) (added : x.added ≡ b.added) where
    -- the state speaks of the history when a raise waits
    pub growing-pushed : IsGrowing h x
    growing-pushed =
        let inside = raised.inside some in
        let same_past = ap (λ (es : List ℕ). slice_index es t) raised.past in
        let most = raised.growing.past t in
        let here : i < slice_index b.past.items t = omega arith in
        let end : e ≤ slice_index b.past.items t = omega arith in
        record {
          counts = rw counts raised.growing.counts;
          few = raised.growing.few;
          short = raised.growing.short;
          sessions = rw past raised.growing.sessions;
          past = rw past raised.growing.past;
          pending = rw pending (All-push (IsRaisedIn h) b.pending.items (record { op = op t i; end = e; session = u }) raised.growing.pending
              (record { is_op = is_op; inside = omega arith; exists = exists }));
          waiting = rw (pending, past) (All-push (λ (y : Raised). IsIn b y.op) b.pending.items (record { op = op t i; end = e; session = u }) raised.growing.waiting here);
          added = rw (added, counts) raised.growing.added;
        }

  -- once a vector counts what the last one counts that it counted, that is followed, or a raise waits
  pub last-followed : (a b : GrowingOrder) (p : OpId) (y i : ℕ) → GrowsWithin h NoReads a b → count a.counts p y ≡ i + 1 → IsPastOf b.counts p (op y i)
      → IsFollowed (Waits NoMore b) b.counts p y
  last-followed a b p y i within began past fresh j z ends = ⊎_elim
      (λ (same : count b.counts p y ≡ i + 1).
      let here : i ≡ j = omega arith in
      inl (subst (λ (k : ℕ). count b.counts (op y k) z ≤ count b.counts p z) here (past z)))
      (λ (pending : IsFresh (Waits NoMore b) b.counts p y → IsPending (Waits NoMore b) p y). inr (inl (pending fresh)))
      (grows-pending h NoReads NoMore a b within.grows (i + 1) p y began)

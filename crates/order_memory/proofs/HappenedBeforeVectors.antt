-- When vectors are those of the happened-before relation of an operation: what they count has a cause, and nothing is left
-- to be added.
use Rattle.std.proofs.Common.{◌≡◌, ℕ, zero, suc, ◌+◌, ◌-◌, ◌<◌, ◌≤◌, ⊎_elim, inl, inr, ◌&&◌, arith, ap, refl, sym, subst, subst₂, length, ltb, lt-ltb, ltb-true}
use Rattle.std.specs.Prelude.{◌≢◌, ◌⊎◌, IsTrue, Option, Some, None}
use Rattle.std.proofs.lemmas.Bool.{and_parts, and_from, cases_eq, cases_lt}
use Rattle.std.proofs.lemmas.Option.{same_Some}
use Rattle.model_objects.specs.declared.register.RegisterCall.{RegisterCall}
use Rattle.model_objects.specs.declared.register.RegisterCall.TheVariants.{Write, Read}
use Rattle.model_history.specs.declared.op_id.OpId.{OpId}
use Rattle.model_history.specs.History.{IsOp}
use Rattle.order_memory.specs.Steps.GrowingOrders.{AreHeldVectors}
use Rattle.order_memory.specs.HappenedBeforeVectors.{IsHBVectors}
use Rattle.order_memory.specs.Memory.{MemoryCall, MemoryHistory, IsDifferentiated, Writes}
use Rattle.order_causal.specs.Orders.{op, Order, program_past}
use Rattle.order_memory.specs.Relations.{ReadsFrom, IsEdge, CO, AreRivalWrites, IsPast, IsClosed, HB}
use Rattle.order_memory.specs.Steps.HappenedBefores.{AreStrictOf, IsLastBelow, IsSupported}
use Rattle.order_memory.specs.SourceOrder.{CountsSourceOrder, SourceOrder}
use Rattle.order_causal.specs.Vectors.{IsListed, Counts, count, list_of, IsCounted, IsWithin, with_item}
use Rattle.order_memory.proofs.FirstWrites.{CO-from_sources, CO-by_sources}
use Rattle.order_memory.proofs.HappenedBeforeLaws.{in_past, in_past-from, in_past-true, past-before, past-of_history, HB-causal, HB-transitive, HB-read, HB-prefix}
use Rattle.order_causal.proofs.Items.{item-cases, item-here}
use Rattle.order_causal.proofs.OrdersLaws.{same_op}
use Rattle.order_causal.proofs.PathsLaws.{leads-edge, leads-leads}

-- nothing is left to be added on the past of o: there they count what the vectors v of the causal order do, each without
-- its own operation; they count operations of the past alone; each counts what the last one that it counts of a session
-- and the operation before it in its session count; and the source of a read that is o or before o counts, of each
-- session, the last write of the variable that the read counts, if it is another one
pub record IsFixed (h : MemoryHistory) (v : Counts) (o : OpId) (now : Counts) : Type 0 where
  pub own : (b : OpId) → IsPast h o b → b.index ≤ count now b b.session
  pub others : (b : OpId) (u : ℕ) → IsPast h o b → u ≢ b.session → count v b u ≤ count now b u
  pub past : (b : OpId) (u i : ℕ) → IsPast h o b → count now b u ≡ i + 1 → IsPast h o (op u i)
  pub last : (b : OpId) (u i : ℕ) → IsPast h o b → count now b u ≡ i + 1 → IsWithin now b (op u i)
  pub next : (s i : ℕ) → IsPast h o (op s (i + 1)) → IsWithin now (op s (i + 1)) (op s i)
  pub read : (w r : OpId) (x t u m : ℕ) → IsTrue (program_past o r) → ReadsFrom h w r → Writes h w x t → IsLastBelow h x u (count now r u) m → op u m ≢ w → m < count now w u

-- a call writes a variable, or it doesn't
pub call-cases : (x : ℕ) (c : Option MemoryCall)
    → ((y : ℕ) × (c ≡ Some (record { key = x; call = Write y }))) ⊎ ((y : ℕ) → c ≡ Some (record { key = x; call = Write y }) → ⊥)
call-cases x None = inr (λ y e. absurd cc)
call-cases x (Some c) = ⊎_elim
    (λ (same : c.key ≡ x).
    elim c.call as (λ (k : RegisterCall). c.call ≡ k
    → ((y : ℕ) × (Some c ≡ Some (record { key = x; call = Write y }))) ⊎ ((y : ℕ) → Some c ≡ Some (record { key = x; call = Write y }) → ⊥)) [
      | Write y ↦ λ is. inl (y, λ i. Some (record { key = same i; call = is i }))
      | Read ↦ λ is. inr (λ y e. let same_call : c.call ≡ Write y = ap (λ (d : MemoryCall). d.call) (same_Some _ _ e) in absurd cc)
    ] refl)
    (λ (other : c.key ≢ x). inr (λ y e. other (ap (λ (d : MemoryCall). d.key) (same_Some _ _ e))))
    (cases_eq c.key x)

-- where one of the first operations of a session writes a variable, one is the last that does
pub last-below : (h : MemoryHistory) (x u n i z : ℕ) → Writes h (op u i) x z → i < n → (m : ℕ) × (i ≤ m) × IsLastBelow h x u n m
last-below h x u zero i z writes below = absurd (omega arith)
last-below h x u (suc n) i z writes below = ⊎_elim
    (λ (here : (y : ℕ) × Writes h (op u n) x y). (
      n,
      omega arith,
      record {
        below = omega arith;
        value = here.0;
        writes = here.1;
        last = λ j y above under wrote. absurd (omega arith);
      },
    ))
    (λ (none : (y : ℕ) → Writes h (op u n) x y → ⊥).
    let apart : i ≡ n → ⊥ = λ same. none z (subst (λ (k : ℕ). Writes h (op u k) x z) same writes) in
    let found = last-below h x u n i z writes (omega arith) in (
      found.0,
      found.1,
      record {
        below = let inside = found.2.below in omega arith;
        value = found.2.value;
        writes = found.2.writes;
        last = λ j y above under wrote. ⊎_elim
            (λ (same : j ≡ n). none y (subst (λ (k : ℕ). Writes h (op u k) x y) same wrote))
            (λ (other : j ≡ n → ⊥). found.2.last j y above (omega arith) wrote)
            (cases_eq j n);
      },
    ))
    (call-cases x _)

module _ (h : MemoryHistory) (v : Counts) (counts : CountsSourceOrder h v) (distinct : IsDifferentiated h) (o : OpId) (is_op : IsOp h o) where
  -- no operation is before itself in CO
  acyclic : (a : OpId) → ¬ CO h a a
  acyclic a cycle = counts.acyclic a (CO-by_sources h distinct a a cycle)

  -- what is before an operation in its session is before it in CO
  leads-session : (u i j : ℕ) → i < j → IsOp h (op u j) → CO h (op u i) (op u j)
  leads-session u i j below of_history = leads-edge (IsEdge h) (op u i) (op u j) (inl ((refl, below), of_history))

  pub past-session : (u i j : ℕ) → i ≤ j → IsPast h o (op u j) → IsPast h o (op u i)
  past-session u i j up_to in_j = ⊎_elim
      (λ (same : i ≡ j). subst (λ (k : ℕ). IsPast h o (op u k)) (sym same) in_j)
      (λ (other : i ≡ j → ⊥).
      past-before h o (op u i) (op u j) (leads-session u i j (omega arith) (past-of_history h o (op u j) is_op in_j)) in_j)
      (cases_eq i j)

  module _ (now : Counts) (fixed : IsFixed h v o now) where
    within-session : (u i n : ℕ) → IsPast h o (op u (i + n)) → IsWithin now (op u (i + n)) (op u i)
    within-session u i zero in_past = λ t.
        let same : i ≡ i + zero = omega arith in
        subst (λ (k : ℕ). count now (op u i) t ≤ count now (op u k) t) same (omega arith)
    within-session u i (suc n) in_past = λ t.
        let next : i + suc n ≡ (i + n) + 1 = omega arith in
        let in_next = subst (λ (k : ℕ). IsPast h o (op u k)) next in_past in
        let before = within-session u i n (past-session u (i + n) ((i + n) + 1) (omega arith) in_next) t in
        let step = fixed.next u (i + n) in_next t in
        subst (λ (k : ℕ). count now (op u i) t ≤ count now (op u k) t) (sym next) (omega arith)

    -- a vector is at least those of the operations that it counts
    counted-within : (b c : OpId) → IsPast h o c → IsCounted now c b → IsWithin now c b
    counted-within b c in_c counted = λ t.
        let l : ℕ = count now c b.session - 1 in
        let ends : count now c b.session ≡ l + 1 = omega arith in
        let in_last = fixed.past c b.session l in_c ends in
        let rest : l ≡ b.index + (l - b.index) = omega arith in
        let up_to = within-session b.session b.index (l - b.index) (subst (λ (k : ℕ). IsPast h o (op b.session k)) rest in_last) t in
        let to_last = fixed.last c b.session l in_c ends t in
        let up_to_last : count now b t ≤ count now (op b.session l) t = subst (λ (k : ℕ). count now b t ≤ count now (op b.session k) t) (sym rest) up_to in
        omega arith

    -- what is before an operation of the past in CO is counted
    counted-causal : (a b : OpId) → IsPast h o b → CO h a b → IsCounted now b a
    counted-causal a b in_b leads =
        let b_is_op = past-of_history h o b is_op in_b in
        ⊎_elim
        (λ (same : a.session ≡ b.session).
        let before : a.index < b.index = ⊎_elim
        (λ (below : a.index < b.index). below)
        (λ (above : b.index ≤ a.index). absurd (⊎_elim
        (λ (equal : b.index ≡ a.index). acyclic a (subst (λ (c : OpId). CO h a c) (sym (same_op a b same (sym equal))) leads))
        (λ (other : b.index ≡ a.index → ⊥).
        let a_is_op = past-of_history h o a is_op (past-before h o a b leads in_b) in
        acyclic a (leads-leads (IsEdge h) a b a leads (leads-edge (IsEdge h) b a (inl ((sym same, omega arith), a_is_op)))))
        (cases_eq b.index a.index)))
        (cases_lt a.index b.index) in
        let own = fixed.own b in_b in
        subst (λ (s : ℕ). a.index < count now b s) (sym same) (omega arith))
        (λ (apart : a.session ≡ b.session → ⊥).
        let in_v : IsCounted v b a = (counts.counted b a b_is_op).1 (inr (CO-by_sources h distinct a b leads)) in
        let other = fixed.others b a.session in_b apart in
        omega arith)
        (cases_eq a.session b.session)

    -- a write that a read counts is counted by the source of the read, where it is another one
    counted-rival : (a b r : OpId) → AreRivalWrites h a b → ReadsFrom h b r → IsTrue (program_past o r) → IsPast h o b → IsCounted now r a → IsCounted now b a
    counted-rival a b r (apart, (x, y, t, wrote_a, wrote_b)) reads kept in_b counted =
        let found = last-below h x a.session (count now r a.session) a.index y wrote_a counted in
        let m = found.0 in
        let up_to = found.1 in
        ⊎_elim
        (λ (here : a.session ≡ b.session). ⊎_elim
        (λ (same : m ≡ b.index).
        let other : a.index ≢ b.index = λ equal. apart (same_op a b here equal) in
        let own = fixed.own b in_b in
        subst (λ (s : ℕ). a.index < count now b s) (sym here) (omega arith))
        (λ (other : m ≡ b.index → ⊥).
        let counts_last = fixed.read b r x t a.session m kept reads wrote_b found.2 (λ same. other (ap (λ (p : OpId). p.index) same)) in
        omega arith)
        (cases_eq m b.index))
        (λ (other : a.session ≡ b.session → ⊥).
        let counts_last = fixed.read b r x t a.session m kept reads wrote_b found.2 (λ same. other (ap (λ (p : OpId). p.session) same)) in
        omega arith)
        (cases_eq a.session b.session)

    -- whether b is in the past of o and its vector counts a
    abbrev pub counted_before : Order
    counted_before a b = in_past v o b && ltb a.index (count now b a.session)

    counted_before-parts : (a b : OpId) → IsTrue (counted_before a b) → IsPast h o b × IsCounted now b a
    counted_before-parts a b before =
        let parts = and_parts (in_past v o b) (ltb a.index (count now b a.session)) before in
        (in_past-true h v counts distinct o is_op b parts.0, ltb-true a.index (count now b a.session) parts.1)

    counted_before-from : (a b : OpId) → IsPast h o b → IsCounted now b a → IsTrue (counted_before a b)
    counted_before-from a b in_b counted =
        and_from (in_past v o b) (ltb a.index (count now b a.session)) (in_past-from h v counts distinct o is_op b in_b)
        (lt-ltb a.index (count now b a.session) counted)

    -- vectors that nothing is left to be added to count a closed order
    pub fixed-closed : IsClosed h o counted_before
    fixed-closed = record {
      causal = λ a b in_a in_b leads. counted_before-from a b in_b (counted-causal a b in_b leads);
      transitive = λ a b c first second.
          let one = counted_before-parts a b first in
          let two = counted_before-parts b c second in
          let within = counted-within b c two.0 two.1 a.session in
          let counted = one.1 in
          counted_before-from a c two.0 (omega arith);
      read = λ a b r rivals reads kept before.
          let parts = counted_before-parts a r before in
          let in_b = past-before h o b r (leads-edge (IsEdge h) b r (inr reads)) parts.0 in
          counted_before-from a b in_b (counted-rival a b r rivals reads kept in_b parts.1);
    }

    -- so they are those of the relation, where what they count has a cause
    pub fixed-exact : AreHeldVectors h now → IsSupported h o now → IsHBVectors h o now
    fixed-exact held supported = record {
      held = held;
      exact = λ a b in_b. (
        supported a b in_b,
        λ happened. (counted_before-parts a b (happened counted_before fixed-closed)).1,
      );
    }

  module _ (now : Counts) (supported : IsSupported h o now) where
    -- the operation m is before b, and so is what its vector counts
    pub supported-through : (m b : OpId) (u c : ℕ) → IsPast h o m → HB h o m b → c ≤ count now m u → (j : ℕ) → j < c → HB h o (op u j) b
    supported-through m b u c in_m before up_to j below = HB-transitive h o (op u j) m b (supported (op u j) m in_m (omega arith)) before

    -- a write that a read counts is before the source of the read, and so are those before it in its session
    pub supported-rival : (w r : OpId) (u d : ℕ) → AreRivalWrites h (op u d) w → ReadsFrom h w r → IsTrue (program_past o r)
        → IsPast h o r → IsCounted now r (op u d) → (j : ℕ) → j ≤ d → HB h o (op u j) w
    supported-rival w r u d rivals reads kept in_r counted j up_to =
        let last = HB-read h o (op u d) w r rivals reads kept (supported (op u d) r in_r counted) in
        ⊎_elim
        (λ (same : j ≡ d). subst (λ (k : ℕ). HB h o (op u k) w) (sym same) last)
        (λ (other : j ≡ d → ⊥). HB-prefix h v counts distinct o is_op (op u j) (op u d) w (refl, omega arith) last)
        (cases_eq j d)

    -- a count may be raised to what is before its operation
    pub supported-raised : (b : OpId) (u c : ℕ) → IsListed now b → u < length (list_of now b) → (IsPast h o b → (j : ℕ) → j < c → HB h o (op u j) b)
        → IsSupported h o (with_item now b u c)
    supported-raised b u c listed inside caused a p in_p counted = ⊎_elim
        (λ (same : count (with_item now b u c) p a.session ≡ count now p a.session). supported a p in_p (omega arith))
        (λ (places : (p ≡ b) × (a.session ≡ u)).
        let value = item-here now b u c listed inside in
        let of_b = subst (λ (q : OpId). a.index < count (with_item now b u c) q a.session) places.0 counted in
        let here : a.index < count (with_item now b u c) b u = subst (λ (s : ℕ). a.index < count (with_item now b u c) b s) places.1 of_b in
        let before = caused (subst (λ (q : OpId). IsPast h o q) places.0 in_p) a.index (omega arith) in
        subst₂ (λ (d q : OpId). HB h o d q) (sym (same_op a (op u a.index) places.1 refl)) (sym places.0) before)
        (item-cases now b u c listed p a.session)

  -- vectors of the causal order, each without its own operation, count what is before their operations
  pub supported-strict : (strict : Counts) → AreStrictOf h v strict → IsSupported h o strict
  supported-strict strict is a b in_b counted =
      let b_is_op = past-of_history h o b is_op in_b in
      let leads : CO h a b = ⊎_elim
      (λ (same : a.session ≡ b.session).
      let own = is.own b b_is_op in
      let here : a.index < count strict b b.session = subst (λ (s : ℕ). a.index < count strict b s) same counted in
      leads-edge (IsEdge h) a b (inl ((same, omega arith), b_is_op)))
      (λ (apart : a.session ≡ b.session → ⊥).
      let other = is.others b a.session b_is_op apart in
      ⊎_elim
      (λ (same : a ≡ b). absurd (apart (ap (λ (p : OpId). p.session) same)))
      (λ (before : SourceOrder h a b). CO-from_sources h a b before)
      ((counts.counted b a b_is_op).0 (omega arith)))
      (cases_eq a.session b.session) in
      HB-causal h o a b (past-before h o a b leads in_b) in_b leads

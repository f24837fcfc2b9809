-- Each operation has vectors of its happened-before relation, where values are distinct and vectors count the causal order:
-- what has a cause is added until nothing is left to be added.
use Rattle.std.specs.Prelude.{◌≡◌, ◌≢◌, ◌⊎◌, ℕ, ◌+◌, ◌-◌, ◌<◌, ◌≤◌, Bool, IsTrue, List, [], length, Option, Some, None}
use Rattle.std.proofs.Common.{zero, suc, true, false, arith, get_or, map, sym, ap, subst, ◌∙◌, inl, inr, ⊎_elim, refl}
use Rattle.std.proofs.Math.ListN.{get_or-map}
use Rattle.std.proofs.lemmas.Bool.{cases_eq, cases_lt, cases_order}
use Rattle.std.proofs.lemmas.List.{get_or_past, length-map}
use Rattle.std.proofs.lemmas.Option.{same_Some}
use Rattle.model_objects.specs.declared.register.RegisterCall.{RegisterCall}
use Rattle.model_objects.specs.declared.register.RegisterCall.TheVariants.{Write, Read}
use Rattle.model_objects.specs.declared.register.RegisterRet.{RegisterRet}
use Rattle.model_objects.specs.declared.register.RegisterRet.TheVariants.{Done, Value}
use Rattle.model_history.specs.declared.op_id.OpId.{OpId}
use Rattle.model_history.specs.History.{IsOp, entry, session}
use Rattle.order_memory.proofs.CountSumsLaws.{counted-most, counted-item}
use Rattle.order_memory.proofs.FirstWrites.{distinct-source, source-unique, CO-from_sources}
use Rattle.order_memory.proofs.GrowingOrdersLaws.{held-by_sources}
use Rattle.order_memory.proofs.HappenedBeforeLaws.{past-before, past-of_history, past-program, HB-causal, HB-inside}
use Rattle.order_memory.proofs.HappenedBeforeVectors.{IsFixed, call-cases, fixed-exact, supported-through, supported-rival, supported-raised}
use Rattle.order_causal.proofs.Items.{cases-op}
use Rattle.order_memory.proofs.HeldItems.{held-item, listed-held}
use Rattle.order_memory.proofs.MemoryLaws.{same_read, same_written}
use Rattle.order_causal.proofs.OrdersLaws.{session-of_history}
use Rattle.order_causal.proofs.PathsLaws.{leads-edge}
use Rattle.order_memory.proofs.SourceVectors.{before-counted}
use Rattle.order_memory.proofs.SourcesExist.{read-source}
use Rattle.order_memory.specs.CountSums.{all_counted, most_counted}
use Rattle.order_memory.specs.HappenedBeforeVectors.{IsHBVectors}
use Rattle.order_memory.specs.Memory.{MemoryCall, MemoryHistory, IsDifferentiated, initial, Reads, Writes}
use Rattle.order_causal.specs.Orders.{op, program_past}
use Rattle.order_memory.specs.Relations.{ReadsFrom, IsEdge, IsPast, HB}
use Rattle.order_memory.specs.SourceOrder.{CountsSourceOrder}
use Rattle.order_memory.specs.Steps.GrowingOrders.{AreHeldVectors}
use Rattle.order_memory.specs.Steps.HappenedBefores.{IsLastBelow, IsSupported}
use Rattle.order_causal.specs.Vectors.{Counts, count, list_of, IsWithin, with_item}

-- something holds of each number below a bound, or something else is found
each-or : (A : ℕ → Type 0) (B : Type 0) (n : ℕ) → ((i : ℕ) → i < n → A i ⊎ B) → ((i : ℕ) → i < n → A i) ⊎ B
each-or A B zero one = inl (λ i below. absurd (omega arith))
each-or A B (suc n) one = ⊎_elim
    (λ (rest : (i : ℕ) → i < n → A i). ⊎_elim
    (λ (last : A n). inl (λ i below. ⊎_elim
    (λ (here : i ≡ n). subst A (sym here) last)
    (λ (apart : i ≢ n). rest i (omega arith))
    (cases_eq i n)))
    (λ (found : B). inr found)
    (one n (omega arith)))
    (λ (found : B). inr found)
    (each-or A B n (λ i below. one i (omega arith)))

-- five things hold, or something else is found
all-or : (A C D E F B : Type 0) → A ⊎ B → C ⊎ B → D ⊎ B → E ⊎ B → F ⊎ B → (A × C × D × E × F) ⊎ B
all-or A C D E F B first second third fourth fifth = ⊎_elim
    (λ (a : A). ⊎_elim
    (λ (c : C). ⊎_elim
    (λ (d : D). ⊎_elim
    (λ (e : E). ⊎_elim
    (λ (f : F). inl (a, c, d, e, f))
    (λ (b : B). inr b)
    fifth)
    (λ (b : B). inr b)
    fourth)
    (λ (b : B). inr b)
    third)
    (λ (b : B). inr b)
    second)
    (λ (b : B). inr b)
    first

-- a test is true or false
bool-cases : (b : Bool) → IsTrue b ⊎ (IsTrue b → ⊥)
bool-cases true = inl refl
bool-cases false = inr (λ is. absurd cc)

-- an entry is a known read, or it isn't
abbrev IsReadEntry : Option (MemoryCall × Option RegisterRet) → ℕ → ℕ → Type 0
IsReadEntry e x v = e ≡ Some (record { key = x; call = Read }, Some (Value v))

read-cases : (e : Option (MemoryCall × Option RegisterRet)) → ((x v : ℕ) × IsReadEntry e x v) ⊎ ((x v : ℕ) → IsReadEntry e x v → ⊥)
read-cases None = inr (λ x v is. absurd cc)
read-cases (Some (c, None)) = inr (λ x v is.
    let returns : ◌≡◌ {A = Option RegisterRet} None (Some (Value v)) = ap (λ (e : MemoryCall × Option RegisterRet). e.1) (same_Some _ _ is) in
    absurd cc)
read-cases (Some (c, Some Done)) = inr (λ x v is.
    let returns : ◌≡◌ {A = Option RegisterRet} (Some Done) (Some (Value v)) = ap (λ (e : MemoryCall × Option RegisterRet). e.1) (same_Some _ _ is) in
    absurd cc)
read-cases (Some (c, Some (Value u))) = elim c.call as (λ (k : RegisterCall). c.call ≡ k
    → ((x v : ℕ) × IsReadEntry (Some (c, Some (Value u))) x v) ⊎ ((x v : ℕ) → IsReadEntry (Some (c, Some (Value u))) x v → ⊥)) [
      | Write t ↦ λ wrote. inr (λ x v is.
          let calls : c.call ≡ Read = ap (λ (e : MemoryCall × Option RegisterRet). e.0.call) (same_Some _ _ is) in
          let both : Write t ≡ Read = sym wrote ∙ calls in
          absurd cc)
      | Read ↦ λ reads. inl (c.key, u, λ i. Some (record { key = c.key; call = reads i }, Some (Value u)))
    ] refl

-- some of the first operations of a session is the last that writes a variable, or none of them writes it
last-cases : (h : MemoryHistory) (x u n : ℕ) → ((m : ℕ) × IsLastBelow h x u n m) ⊎ ((j y : ℕ) → j < n → Writes h (op u j) x y → ⊥)
last-cases h x u zero = inr (λ j y below wrote. omega arith)
last-cases h x u (suc n) = ⊎_elim
    (λ (here : (y : ℕ) × Writes h (op u n) x y). inl (
      n,
      record {
        below = omega arith;
        value = here.0;
        writes = here.1;
        last = λ j y above under wrote. absurd (omega arith);
      },
    ))
    (λ (none : (y : ℕ) → Writes h (op u n) x y → ⊥). ⊎_elim
    (λ (found : (m : ℕ) × IsLastBelow h x u n m). inl (
      found.0,
      record {
        below = let inside = found.1.below in omega arith;
        value = found.1.value;
        writes = found.1.writes;
        last = λ j y above under wrote. ⊎_elim
            (λ (same : j ≡ n). none y (subst (λ (k : ℕ). Writes h (op u k) x y) same wrote))
            (λ (other : j ≡ n → ⊥). found.1.last j y above (omega arith) wrote)
            (cases_eq j n);
      },
    ))
    (λ (nothing : (j y : ℕ) → j < n → Writes h (op u j) x y → ⊥). inr (λ j y below wrote. ⊎_elim
    (λ (same : j ≡ n). none y (subst (λ (k : ℕ). Writes h (op u k) x y) same wrote))
    (λ (other : j ≡ n → ⊥). nothing j y (omega arith) wrote)
    (cases_eq j n)))
    (last-cases h x u n))
    (call-cases x _)

-- there is one last of them
last-unique : (h : MemoryHistory) (x u n m k : ℕ) → IsLastBelow h x u n m → IsLastBelow h x u n k → m ≡ k
last-unique h x u n m k first second = ⊎_elim
    (λ (same : m ≡ k). same)
    (λ (apart : (m < k) ⊎ (k < m)). ⊎_elim
    (λ (less : m < k). absurd (first.last k second.value less second.below second.writes))
    (λ (more : k < m). absurd (second.last m first.value more first.below first.writes))
    apart)
    (cases_order m k)

-- vectors that count nothing
abbrev zeros : Counts → Counts
zeros v = map (λ (rows : List (List ℕ)). map (λ (row : List ℕ). map (λ (c : ℕ). 0) row) rows) v

module _ (v : Counts) where
  zero-operations : (s : ℕ) → get_or (zeros v) s [] ≡ map (λ (row : List ℕ). map (λ (c : ℕ). 0) row) (get_or v s [])
  zero-operations s = get_or-map (λ (rows : List (List ℕ)). map (λ (row : List ℕ). map (λ (c : ℕ). 0) row) rows) v s []

  zero-list : (o : OpId) → list_of (zeros v) o ≡ map (λ (c : ℕ). 0) (list_of v o)
  zero-list o = ap (λ (rows : List (List ℕ)). get_or rows o.index []) (zero-operations o.session)
      ∙ get_or-map (λ (row : List ℕ). map (λ (c : ℕ). 0) row) (get_or v o.session []) o.index []

  zero-count : (o : OpId) (s : ℕ) → count (zeros v) o s ≡ 0
  zero-count o s = ap (λ (row : List ℕ). get_or row s 0) (zero-list o) ∙ get_or-map (λ (c : ℕ). 0) (list_of v o) s 0

  zeros-held : (h : MemoryHistory) → AreHeldVectors h v → AreHeldVectors h (zeros v)
  zeros-held h vectors = record {
    vectors = record {
      one_each = record {
        sessions = length-map v _ ∙ vectors.vectors.one_each.sessions;
        operations = λ s. ap (λ (rows : List (List ℕ)). length rows) (zero-operations s) ∙ length-map (get_or v s []) _ ∙ vectors.vectors.one_each.operations s;
      };
      counts = λ o is_op. ap (λ (row : List ℕ). length row) (zero-list o) ∙ length-map (list_of v o) _ ∙ vectors.vectors.counts o is_op;
    };
    held = λ o s is_op. let none = zero-count o s in omega arith;
  }

module _ (h : MemoryHistory) (v : Counts) (counts : CountsSourceOrder h v) (distinct : IsDifferentiated h) (o : OpId) (is_op : IsOp h o) where
  -- vectors that count more, and still only what has a cause
  record IsRaised (now after : Counts) : Type 0 where
    held : AreHeldVectors h after
    supported : IsSupported h o after
    more : all_counted h now < all_counted h after

  abbrev Raise : Counts → Type 0
  Raise now = (after : Counts) × IsRaised now after

  module _ (now : Counts) (held : AreHeldVectors h now) (supported : IsSupported h o now) where
    -- past the last session nothing is counted
    count-past : (w : Counts) → AreHeldVectors h w → (b : OpId) (u : ℕ) → IsOp h b → length h.1 ≤ u → count w b u ≡ 0
    count-past w vectors b u of_history past =
        let none = ap (λ (es : List (MemoryCall × Option RegisterRet)). length es) (get_or_past h.1 u [] past) in
        let most = vectors.held b u of_history in
        omega arith

    -- a count is at least so much, or it can be raised to it
    at_least : (b : OpId) (u c : ℕ) → IsOp h b → u < length h.1 → c ≤ length (session h u) → (IsPast h o b → (j : ℕ) → j < c → HB h o (op u j) b)
        → (c ≤ count now b u) ⊎ Raise now
    at_least b u c of_history exists few caused = ⊎_elim
        (λ (less : count now b u < c).
        let listed = listed-held h now held b of_history u c exists in
        let size = held.vectors.counts b of_history in
        let there : u < length (list_of now b) = omega arith in
        let moved = counted-item h now held b u c of_history exists in
        inr (
          with_item now b u c,
          record {
            held = held-item h now held b of_history u c exists few;
            supported = supported-raised h v counts distinct o is_op now supported b u c listed there caused;
            more = omega arith;
          },
        ))
        (λ (enough : c ≤ count now b u). inl enough)
        (cases_lt (count now b u) c)

    -- the same of each operation of the history, and of each session
    each-op : (A : OpId → Type 0) → ((b : OpId) → IsOp h b → A b ⊎ Raise now) → ((b : OpId) → IsOp h b → A b) ⊎ Raise now
    each-op A one = ⊎_elim
        (λ (all : (s : ℕ) → s < length h.1 → (i : ℕ) → i < length (session h s) → A (op s i)).
        inl (λ b of_history. all b.session (session-of_history h b of_history) b.index of_history))
        (λ (found : Raise now). inr found)
        (each-or (λ s. (i : ℕ) → i < length (session h s) → A (op s i)) (Raise now) (length h.1)
        (λ s exists. each-or (λ i. A (op s i)) (Raise now) (length (session h s)) (λ i below. one (op s i) below)))

    each-session : (A : ℕ → Type 0) → ((u : ℕ) → length h.1 ≤ u → A u) → ((u : ℕ) → u < length h.1 → A u ⊎ Raise now) → ((u : ℕ) → A u) ⊎ Raise now
    each-session A past one = ⊎_elim
        (λ (all : (u : ℕ) → u < length h.1 → A u). inl (λ u. ⊎_elim
        (λ (exists : u < length h.1). all u exists)
        (λ (behind : length h.1 ≤ u). past u behind)
        (cases_lt u (length h.1))))
        (λ (found : Raise now). inr found)
        (each-or A (Raise now) (length h.1) one)

    within-or : (b a : OpId) → IsOp h b → IsOp h a → (IsPast h o b → IsPast h o a × HB h o a b) → IsWithin now b a ⊎ Raise now
    within-or b a b_is_op a_is_op before = each-session (λ s. count now a s ≤ count now b s)
        (λ s past. let none = count-past now held a s a_is_op past in omega arith)
        (λ s exists. at_least b s (count now a s) b_is_op exists (held.held a s a_is_op)
        (λ in_b. let parts = before in_b in
        supported-through h v counts distinct o is_op now supported a b s (count now a s) parts.0 parts.1 (omega arith)))

    -- what is before an operation in its session is before it in the relation
    earlier : (b : OpId) (i : ℕ) → i < b.index → IsPast h o b → IsPast h o (op b.session i) × HB h o (op b.session i) b
    earlier b i below in_b =
        let b_is_op = past-of_history h o b is_op in_b in
        let leads = leads-edge (IsEdge h) (op b.session i) b (inl ((refl, below), b_is_op)) in
        let in_a = past-before h o (op b.session i) b leads in_b in
        (in_a, HB-causal h o (op b.session i) b in_a in_b leads)

    own-or : ((b : OpId) → IsOp h b → b.index ≤ count now b b.session) ⊎ Raise now
    own-or = each-op (λ b. b.index ≤ count now b b.session)
        (λ b of_history. at_least b b.session b.index of_history (session-of_history h b of_history) (omega arith)
        (λ in_b j below. (earlier b j below in_b).1))

    others-or : ((b : OpId) → IsOp h b → (u : ℕ) → u ≢ b.session → count v b u ≤ count now b u) ⊎ Raise now
    others-or = each-op (λ b. (u : ℕ) → u ≢ b.session → count v b u ≤ count now b u)
        (λ b of_history. each-session (λ u. u ≢ b.session → count v b u ≤ count now b u)
        (λ u past apart. let none = count-past v (held-by_sources h v counts) b u of_history past in omega arith)
        (λ u exists. ⊎_elim
        (λ (same : u ≡ b.session). inl (λ apart. absurd (apart same)))
        (λ (other : u ≢ b.session). ⊎_elim
        (λ (enough : count v b u ≤ count now b u). inl (λ apart. enough))
        (λ (found : Raise now). inr found)
        (at_least b u (count v b u) of_history exists ((held-by_sources h v counts).held b u of_history)
        (λ in_b j below.
        let apart : op u j ≢ b = λ is. other (ap (λ (p : OpId). p.session) is) in
        let leads = CO-from_sources h (op u j) b (before-counted h v counts b (op u j) of_history below apart) in
        HB-causal h o (op u j) b (past-before h o (op u j) b leads in_b) in_b leads)))
        (cases_eq u b.session)))

    last-or : ((b : OpId) → IsOp h b → (u i : ℕ) → IsPast h o b → count now b u ≡ i + 1 → IsWithin now b (op u i)) ⊎ Raise now
    last-or = each-op (λ b. (u i : ℕ) → IsPast h o b → count now b u ≡ i + 1 → IsWithin now b (op u i))
        (λ b of_history. each-session (λ u. (i : ℕ) → IsPast h o b → count now b u ≡ i + 1 → IsWithin now b (op u i))
        (λ u past i in_b ends. let none = count-past now held b u of_history past in absurd (omega arith))
        (λ u exists. ⊎_elim
        (λ (none : count now b u ≡ 0). inl (λ i in_b ends. absurd (omega arith)))
        (λ (some : count now b u ≢ 0).
        let m : ℕ = count now b u - 1 in
        let below : m < count now b u = omega arith in
        let most = held.held b u of_history in
        ⊎_elim
        (λ (within : IsWithin now b (op u m)).
        inl (λ i in_b ends. subst (λ (k : ℕ). IsWithin now b (op u k)) (let same : m ≡ i = omega arith in same) within))
        (λ (found : Raise now). inr found)
        (within-or b (op u m) of_history (omega arith)
        (λ in_b. let before = supported (op u m) b in_b below in ((HB-inside h v counts distinct o is_op (op u m) b before).0, before))))
        (cases_eq (count now b u) 0)))

    next-or : ((b : OpId) → IsOp h b → (i : ℕ) → IsPast h o b → b.index ≡ i + 1 → IsWithin now b (op b.session i)) ⊎ Raise now
    next-or = each-op (λ b. (i : ℕ) → IsPast h o b → b.index ≡ i + 1 → IsWithin now b (op b.session i))
        (λ b of_history. ⊎_elim
        (λ (first : b.index ≡ 0). inl (λ i in_b ends. absurd (omega arith)))
        (λ (later : b.index ≢ 0).
        let m : ℕ = b.index - 1 in
        ⊎_elim
        (λ (within : IsWithin now b (op b.session m)).
        inl (λ i in_b ends. subst (λ (k : ℕ). IsWithin now b (op b.session k)) (let same : m ≡ i = omega arith in same) within))
        (λ (found : Raise now). inr found)
        (within-or b (op b.session m) of_history (omega arith) (λ in_b. earlier b m (omega arith) in_b)))
        (cases_eq b.index 0))

    -- what a read demands of its source
    abbrev IsReadBehind : OpId → ℕ → Type 0
    IsReadBehind r u = (w : OpId) (x t m : ℕ) → ReadsFrom h w r → Writes h w x t → IsLastBelow h x u (count now r u) m → op u m ≢ w → m < count now w u

    module _ (r w : OpId) (kept : IsTrue (program_past o r)) (reads : ReadsFrom h w r) where
      source-or : (u : ℕ) → u < length h.1 → IsReadBehind r u ⊎ Raise now
      source-or u exists =
          let x : ℕ = reads.0 in
          let one_source : (q : OpId) → ReadsFrom h q r → q ≡ w =
          λ q from. source-unique h q w r (distinct-source h distinct q r from) (distinct-source h distinct w r reads) in
          let one_variable : (q : OpId) (y t : ℕ) → ReadsFrom h q r → Writes h q y t → y ≡ x =
          λ q y t from wrote. (same_written h w y t x reads.1 (subst (λ (p : OpId). Writes h p y t) (one_source q from) wrote) reads.2).0 in
          let is_op_w = past-of_history h o w is_op (past-before h o w r (leads-edge (IsEdge h) w r (inr reads)) (past-program h o r is_op kept)) in
          ⊎_elim
          (λ (found : (m : ℕ) × IsLastBelow h x u (count now r u) m).
          let m : ℕ = found.0 in
          let is_last = found.1 in
          let is_op_r = past-of_history h o r is_op (past-program h o r is_op kept) in
          let most = held.held r u is_op_r in
          let below = is_last.below in
          let one_last : (y k : ℕ) → y ≡ x → IsLastBelow h y u (count now r u) k → m ≡ k =
          λ y k same last. last-unique h x u (count now r u) m k is_last (subst (λ (z : ℕ). IsLastBelow h z u (count now r u) k) same last) in
          ⊎_elim
          (λ (same : op u m ≡ w). inl (λ q y t k from wrote last apart.
          let here : m ≡ k = one_last y k (one_variable q y t from wrote) last in
          absurd (apart (subst (λ (i : ℕ). op u i ≡ q) here (same ∙ sym (one_source q from))))))
          (λ (other : op u m ≢ w). ⊎_elim
          (λ (enough : m + 1 ≤ count now w u). inl (λ q y t k from wrote last apart.
          let here : m ≡ k = one_last y k (one_variable q y t from wrote) last in
          subst (λ (p : OpId). k < count now p u) (sym (one_source q from)) (omega arith)))
          (λ (raise : Raise now). inr raise)
          (at_least w u (m + 1) is_op_w exists (omega arith)
          (λ in_w j under. supported-rival h v counts distinct o is_op now supported w r u m (other, (x, is_last.value, reads.1, is_last.writes, reads.2)) reads kept
          (past-program h o r is_op kept) below j (omega arith))))
          (cases-op (op u m) w))
          (λ (none : (j y : ℕ) → j < count now r u → Writes h (op u j) x y → ⊥). inl (λ q y t k from wrote last apart.
          let here = one_variable q y t from wrote in
          absurd (none k last.value last.below (subst (λ (z : ℕ). Writes h (op u k) z last.value) here last.writes))))
          (last-cases h x u (count now r u))

    -- a session that is not there has no write
    no-last : (r : OpId) (u : ℕ) → IsOp h r → length h.1 ≤ u → IsReadBehind r u
    no-last r u of_history past w x t m reads wrote last apart =
        let none = count-past now held r u of_history past in
        let below = last.below in
        absurd (omega arith)

    read-or : ((r : OpId) → IsOp h r → IsTrue (program_past o r) → (u : ℕ) → IsReadBehind r u) ⊎ Raise now
    read-or = each-op (λ r. IsTrue (program_past o r) → (u : ℕ) → IsReadBehind r u)
        (λ r of_history. ⊎_elim
        (λ (kept : IsTrue (program_past o r)). ⊎_elim
        (λ (all : (u : ℕ) → IsReadBehind r u). inl (λ _. all))
        (λ (found : Raise now). inr found)
        (⊎_elim
        (λ (read : (x v : ℕ) × Reads h r x v). ⊎_elim
        (λ (start : read.1 ≡ initial h read.0). inl (λ u w x t m reads wrote last apart.
        let same = same_read h r reads.0 reads.1 read.0 read.1 reads.3 read.2 in
        absurd (reads.4 (same.1 ∙ start ∙ ap (initial h) (sym same.0)))))
        (λ (known : read.1 ≢ initial h read.0).
        let source = read-source h counts.sources r read.0 read.1 read.2 known in
        each-session (IsReadBehind r) (λ u past. no-last r u of_history past) (source-or r source.0 kept source.1.0))
        (cases_eq read.1 (initial h read.0)))
        (λ (none : (x v : ℕ) → Reads h r x v → ⊥). inl (λ u w x t m reads wrote last apart. absurd (none reads.0 reads.1 reads.3)))
        (read-cases (entry h r))))
        (λ (not_kept : IsTrue (program_past o r) → ⊥). inl (λ kept. absurd (not_kept kept)))
        (bool-cases (program_past o r)))

    -- nothing is left to be added, or something is
    fixed-or : IsFixed h v o now ⊎ Raise now
    fixed-or = ⊎_elim
        (λ (all : ((b : OpId) → IsOp h b → b.index ≤ count now b b.session)
        × ((b : OpId) → IsOp h b → (u : ℕ) → u ≢ b.session → count v b u ≤ count now b u)
        × ((b : OpId) → IsOp h b → (u i : ℕ) → IsPast h o b → count now b u ≡ i + 1 → IsWithin now b (op u i))
        × ((b : OpId) → IsOp h b → (i : ℕ) → IsPast h o b → b.index ≡ i + 1 → IsWithin now b (op b.session i))
        × ((r : OpId) → IsOp h r → IsTrue (program_past o r) → (u : ℕ) → IsReadBehind r u)). inl (record {
          own = λ b in_b. all.0 b (past-of_history h o b is_op in_b);
          others = λ b u in_b. all.1 b (past-of_history h o b is_op in_b) u;
          past = λ b u i in_b ends. (HB-inside h v counts distinct o is_op (op u i) b (supported (op u i) b in_b (omega arith))).0;
          last = λ b u i in_b ends. all.2 b (past-of_history h o b is_op in_b) u i in_b ends;
          next = λ s i in_next. all.3 (op s (i + 1)) (past-of_history h o (op s (i + 1)) is_op in_next) i in_next refl;
          read = λ w r x t u m kept reads wrote last apart.
              all.4 r (past-of_history h o r is_op (past-program h o r is_op kept)) kept u w x t m reads wrote last apart;
        }))
        (λ (found : Raise now). inr found)
        (all-or _ _ _ _ _ _ own-or others-or last-or next-or read-or)

  -- vectors that count only what has a cause can be raised until nothing is left
  vectors-from : (d : ℕ) (now : Counts) → AreHeldVectors h now → IsSupported h o now → most_counted h ≤ all_counted h now + d → (after : Counts) × IsHBVectors h o after
  vectors-from zero now held supported enough = ⊎_elim
      (λ (fixed : IsFixed h v o now). (now, fixed-exact h v counts distinct o is_op now fixed held supported))
      (λ (raise : Raise now).
      let most = counted-most h raise.0 raise.1.held in
      let more = raise.1.more in
      absurd (omega arith))
      (fixed-or now held supported)
  vectors-from (suc d) now held supported enough = ⊎_elim
      (λ (fixed : IsFixed h v o now). (now, fixed-exact h v counts distinct o is_op now fixed held supported))
      (λ (raise : Raise now).
      let more = raise.1.more in
      vectors-from d raise.0 raise.1.held raise.1.supported (omega arith))
      (fixed-or now held supported)

  -- the vectors of the relation
  pub HB-vectors : (now : Counts) × IsHBVectors h o now
  HB-vectors =
      vectors-from (most_counted h) (zeros v) (zeros-held v h (held-by_sources h v counts))
      (λ a b in_b counted. let none = zero-count v b a.session in absurd (omega arith))
      (omega arith)

-- What right raises rest on: the causal order, or raises before them.
use Rattle.std.proofs.Common.{◌≡◌, ◌⊎◌, ℕ, zero, suc, ◌+◌, ◌<◌, ◌≤◌, List, length, inl, inr, ⊎_elim, sym, ap, subst, arith, eq-or-lt_of_le}
use Rattle.std.specs.Prelude.{Some, slice_get}
use Rattle.std.proofs.lemmas.Bool.{cases_eq}
use Rattle.std.proofs.lemmas.Option.{slice_get_within}
use Rattle.model_history.specs.declared.op_id.OpId.{OpId}
use Rattle.model_history.specs.History.{IsOp, Precedes}
use Rattle.order_memory.specs.declared.growing_order.Cause.{Cause}
use Rattle.order_memory.specs.declared.growing_order.Cause.TheVariants.{Through, Read}
use Rattle.order_memory.specs.declared.growing_order.Raise.{Raise}
use Rattle.order_memory.specs.Memory.{MemoryHistory, IsDifferentiated}
use Rattle.order_memory.specs.Relations.{CO, HB, IsPast}
use Rattle.order_memory.specs.SourceOrder.{CountsSourceOrder, IsSourceEdge, SourceOrder}
use Rattle.order_memory.specs.Steps.HappenedBefores.{AreStrictOf}
use Rattle.order_memory.specs.Steps.Indexed.{IsSourcePast}
use Rattle.order_causal.specs.Vectors.{Counts, count, IsCounted}
use Rattle.order_memory.proofs.FirstWrites.{CO-by_sources, CO-from_sources}
use Rattle.order_memory.proofs.HappenedBeforeLaws.{HB-inside, past-of_history, past-program}
use Rattle.order_causal.proofs.OrdersLaws.{same_op}
use Rattle.order_causal.proofs.PathsLaws.{leads-edge, leads-leads}
use Rattle.order_memory.specs.Raises.{AreRightRaises, IsReached, IsRightCause, operation_of}
use Rattle.pattern_search.specs.Steps.Reasons.{AreGrounded, ArePremises, IsBefore, IsPremise, IsRaisedBy, IsRule, RestsOn, last_of}
use Rattle.pattern_search.specs.Steps.Relations.{IsRelation}
use Rattle.pattern_search.proofs.NeededRaises.{rests-each}

module _ (h : MemoryHistory) where
  -- what comes before the past of o is in it
  pub before-inside : (o a b : OpId) → SourceOrder h a b → IsSourcePast h o b → IsSourcePast h o a
  before-inside o a b before past = (
    past.0,
    ⊎_elim
        (λ (same : b ≡ o). inr (subst (λ (c : OpId). SourceOrder h a c) same before))
        (λ (later : SourceOrder h b o). inr (leads-leads (IsSourceEdge h) a b o before later))
        past.1,
  )

  -- what is in the past of an operation of the history is of the history
  pub inside-of_history : (o a : OpId) → IsSourcePast h o a → IsOp h a
  inside-of_history o a past = past-of_history h o a past.0 (⊎_elim
      (λ (same : a ≡ o). inl same)
      (λ (before : SourceOrder h a o). inr (CO-from_sources h a o before))
      past.1)

  -- an operation that is earlier in its session comes before
  pub earlier-before : (a b : OpId) → IsOp h b → a.session ≡ b.session → a.index < b.index → SourceOrder h a b
  earlier-before a b is_op same below = leads-edge (IsSourceEdge h) a b (inl ((same, below), is_op))

  -- one that isn't later than an operation of the past of o is in it
  pub earlier-inside : (o a b : OpId) → IsOp h b → a.session ≡ b.session → a.index ≤ b.index → IsSourcePast h o b → IsSourcePast h o a
  earlier-inside o a b is_op same up_to past = ⊎_elim
      (λ (here : a.index ≡ b.index). subst (λ (c : OpId). IsSourcePast h o c) (sym (same_op a b same here)) past)
      (λ (below : a.index < b.index). before-inside o a b (earlier-before a b is_op same below) past)
      (eq-or-lt_of_le up_to)

  -- another one that isn't later comes before
  pub apart-before : (a b : OpId) → IsOp h b → a.session ≡ b.session → a.index ≤ b.index → ¬ (b ≡ a) → SourceOrder h a b
  apart-before a b is_op same up_to apart = ⊎_elim
      (λ (here : a.index ≡ b.index). absurd (apart (sym (same_op a b same here))))
      (λ (below : a.index < b.index). earlier-before a b is_op same below)
      (eq-or-lt_of_le up_to)

  -- what a raise rests on that comes behind n others is known of all raises
  pub premise-later : (o : OpId) (raises : List Raise) (m n : ℕ) → m ≤ n → (p : OpId × OpId) → IsPremise h o raises m p → IsPremise h o raises n p
  premise-later o raises m n up p is = record {
    before = ⊎_elim
        (λ (leads : SourceOrder h p.0 p.1). inl leads)
        (λ (r : (j : ℕ) × (j < m) × IsRaisedBy raises p j). let below = r.1 in inr (r.0, omega arith, r.2))
        is.before;
    past = is.past;
  }

  -- the pairs that a raise rests on, and its read
  pub grounded-premises : (o : OpId) (raises : List Raise) → AreGrounded h o raises → (n : ℕ) (e : Raise) → slice_get raises n ≡ Some e
      → ArePremises (IsPremise h o raises (length raises)) e
  grounded-premises o raises grounded n e at =
      let below = slice_get_within raises n e at in
      rests-each (IsPremise h o raises n) (IsPremise h o raises (length raises)) (premise-later o raises n (length raises) (omega arith)) (last_of e) e.op e.cause
      (grounded.each n e at).premises

  pub grounded-before : (o : OpId) (raises : List Raise) → AreGrounded h o raises → (n : ℕ) (e : Raise) → slice_get raises n ≡ Some e
      → ArePremises (IsBefore h raises n) e
  grounded-before o raises grounded n e at =
      rests-each (IsPremise h o raises n) (IsBefore h raises n) (λ p is. is.before) (last_of e) e.op e.cause (grounded.each n e at).premises

  pub grounded-read : (o : OpId) (raises : List Raise) → AreGrounded h o raises → (n : ℕ) (e : Raise) → slice_get raises n ≡ Some e
      → (r : OpId) → e.cause ≡ Read r → IsRule h o (last_of e) e.op (Read r)
  grounded-read o raises grounded n e at r is = subst (λ (c : Cause). IsRule h o (last_of e) e.op c) is (grounded.each n e at).rule

module _ (h : MemoryHistory) (causal strict : Counts) (order : CountsSourceOrder h causal) (begun : AreStrictOf h causal strict) where
  -- what the vectors count without their own operations comes before
  strict-before : (a b : OpId) → IsOp h b → IsCounted strict b a → SourceOrder h a b
  strict-before a b is_op counted = ⊎_elim
      (λ (same : a.session ≡ b.session).
      let own = begun.own b is_op in
      let here : a.index < count strict b b.session = subst (λ (s : ℕ). a.index < count strict b s) same counted in
      earlier-before h a b is_op same (omega arith))
      (λ (apart : a.session ≡ b.session → ⊥).
      let other = begun.others b a.session is_op apart in
      ⊎_elim
      (λ (same : a ≡ b). absurd (apart (ap (λ (c : OpId). c.session) same)))
      (λ (before : SourceOrder h a b). before)
      ((order.counted b a is_op).0 (omega arith)))
      (cases_eq a.session b.session)

  -- the causal order has what is reached, or a raise gives it
  reached-before : (raises : List Raise) (n : ℕ) (a b : OpId) (c : ℕ) → IsOp h b → a.index < c → IsReached strict raises n b a.session c
      → IsBefore h raises n (a, b)
  reached-before raises n a b c is_op below reached = ⊎_elim
      (λ (counted : c ≤ count strict b a.session). inl (strict-before a b is_op (omega arith)))
      (λ (r : (j : ℕ) × (e : Raise) × (j < n) × (slice_get raises j ≡ Some e) × (e.op ≡ b) × (e.session ≡ a.session) × (c ≤ e.count)).
      let enough = r.6 in inr (r.0, r.2, (r.1, r.3, (r.4, r.5, omega arith))))
      reached

  module _ (distinct : IsDifferentiated h) (o : OpId) (is_op : IsOp h o) (raises : List Raise) (right : AreRightRaises h o strict raises) where
    inside : (a : OpId) → IsPast h o a → IsSourcePast h o a
    inside a past = (
      is_op,
      ⊎_elim
          (λ (same : a ≡ o). inl same)
          (λ (leads : CO h a o). inr (CO-by_sources h distinct a o leads))
          past,
    )

    -- what is before an operation of the past of o is in it, where what raises count is
    raised-inside : (n : ℕ) → ((j : ℕ) (e : Raise) → j < n → slice_get raises j ≡ Some e → IsSourcePast h o (last_of e))
        → (a b : OpId) → IsBefore h raises n (a, b) → IsSourcePast h o b → IsSourcePast h o a
    raised-inside n lasts a b before past = ⊎_elim
        (λ (leads : SourceOrder h a b). before-inside h o a b leads past)
        (λ (r : (j : ℕ) × (j < n) × IsRaisedBy raises (a, b) j).
        let e = r.2.0 in
        let last = lasts r.0 e r.1 r.2.1 in
        let above = r.2.2.2 in
        earlier-inside h o a (last_of e) (inside-of_history h o (last_of e) last) (sym r.2.2.1) (omega arith) last)
        before

    module _ (n : ℕ) (e : Raise) (exists : IsOp h e.op) (past : IsPast h o e.op) (some : 0 < e.count)
        (lasts : (j : ℕ) (d : Raise) → j < n → slice_get raises j ≡ Some d → IsSourcePast h o (last_of d)) where
      middle-before : (m : OpId) → IsReached strict raises n e.op m.session (m.index + 1) ⊎ Precedes m e.op → IsBefore h raises n (m, e.op)
      middle-before m counted = ⊎_elim
          (λ (reached : IsReached strict raises n e.op m.session (m.index + 1)).
          reached-before raises n m e.op (m.index + 1) exists (omega arith) reached)
          (λ (precedes : Precedes m e.op). inl (earlier-before h m e.op exists precedes.0 precedes.1))
          counted

      last-before : (m : OpId) → IsOp h m → IsReached strict raises n m e.session e.count → IsBefore h raises n (last_of e, m)
      last-before m named reached = reached-before raises n (last_of e) m e.count named (omega arith) reached

      -- a right raise rests on what is before it, and what it counts is in the past of o
      cause-grounded : (c : Cause) → IsOp h (operation_of c) → IsRightCause h o strict raises n e c
          → IsSourcePast h o (last_of e) × IsRule h o (last_of e) e.op c × RestsOn (IsPremise h o raises n) (last_of e) e.op c
      cause-grounded (Through m) named cause =
          let above = middle-before m cause.0 in
          let below = last-before m named cause.1 in
          let at_op = inside e.op past in
          let at_middle = raised-inside n lasts m e.op above at_op in (
            raised-inside n lasts (last_of e) m below at_middle,
            tt,
            (record { before = below; past = at_middle }, record { before = above; past = at_op }),
          )
      cause-grounded (Read r) named cause =
          let below = last-before r named cause.3 in
          let at_read = inside r (past-program h o r is_op cause.0) in (
            raised-inside n lasts (last_of e) r below at_read,
            (cause.0, cause.1, cause.2),
            record { before = below; past = at_read },
          )

    last-inside : (bound n : ℕ) (e : Raise) → n < bound → slice_get raises n ≡ Some e → IsSourcePast h o (last_of e)
    last-inside zero n e below at = absurd (omega arith)
    last-inside (suc bound) n e below at =
        let is = right.each n e at in
        (cause-grounded n e is.is_op is.past is.some (λ j d less there. last-inside bound j d (omega arith) there) e.cause is.named is.cause).0

    pub right-grounded : AreGrounded h o raises
    right-grounded = record {
      each = λ n e at.
          let is = right.each n e at in
          let all = cause-grounded n e is.is_op is.past is.some (λ j d less there. last-inside n j d less there) e.cause is.named is.cause in
          record { some = is.some; past = all.0; rule = all.1; premises = all.2 };
    }

module _ (h : MemoryHistory) (distinct : IsDifferentiated h) (relation : OpId × Counts × List Raise) (is : IsRelation h relation) where
  -- the raises of a relation rest on what is before them
  pub relation-grounded : AreGrounded h relation.0 relation.2
  relation-grounded = right-grounded h is.causal is.strict is.order is.begun distinct relation.0 is.is_op relation.2 is.raises

  -- the causal order has a pair of a relation, or a raise gives it
  pub relation-before : (p : OpId × OpId) → HB h relation.0 p.0 p.1 → IsBefore h relation.2 (length relation.2) p × IsSourcePast h relation.0 p.1
  relation-before p happened =
      let past = (HB-inside h is.causal is.order distinct relation.0 is.is_op p.0 p.1 happened).1 in
      let exists = past-of_history h relation.0 p.1 is.is_op past in
      let counted = (is.counts.exact p.0 p.1 past).1 happened in (
        reached-before h is.causal is.strict is.order is.begun relation.2 (length relation.2) p.0 p.1 (count relation.1 p.1 p.0.session) exists counted
            (is.reached p.1 p.0.session),
        inside h is.causal is.strict is.order is.begun distinct relation.0 is.is_op relation.2 is.raises p.1 past,
      )

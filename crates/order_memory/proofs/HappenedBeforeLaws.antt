-- What follows for the happened-before relation of an operation.
use Rattle.std.proofs.Common.{◌≡◌, ◌≤◌, ⊎_elim, inl, inr, Bool, true, false, ◌&&◌, length, arith, refl, sym, ◌∙◌, subst, lt-ltb, ltb-true, le-leb, leb-true, eq-eqb, eqb-true, ltb, leb, eqb}
use Rattle.std.specs.Prelude.{◌↔◌, IsTrue}
use Rattle.std.proofs.lemmas.Bool.{and_parts, and_from, cases_eq, cases_lt}
use Rattle.model_history.specs.declared.op_id.OpId.{OpId}
use Rattle.model_history.specs.History.{IsOp, Precedes, session}
use Rattle.order_memory.specs.Memory.{MemoryHistory, IsDifferentiated}
use Rattle.order_causal.specs.Orders.{Order, program_past}
use Rattle.order_memory.specs.Relations.{ReadsFrom, IsEdge, CO, AreRivalWrites, IsPast, IsClosed, HB, IsClosedWithin, HBWithin}
use Rattle.order_memory.specs.SourceOrder.{CountsSourceOrder, SourceOrder}
use Rattle.order_causal.specs.Vectors.{Counts, count}
use Rattle.order_memory.proofs.FirstWrites.{CO-from_sources, CO-by_sources}
use Rattle.order_causal.proofs.OrdersLaws.{same_op}
use Rattle.order_causal.proofs.PathsLaws.{leads-edge, leads-leads}
use Rattle.order_memory.proofs.RelationsLaws.{CO-of_history}

-- what an operation has before it in program order is a session and an index
pub program_past-parts : (o a : OpId) → IsTrue (program_past o a) → (a.session ≡ o.session) × (a.index ≤ o.index)
program_past-parts o a before =
    let parts = and_parts (eqb a.session o.session) (leb a.index o.index) before in
    (eqb-true a.session o.session parts.0, leb-true a.index o.index parts.1)

pub program_past-from : (o a : OpId) → a.session ≡ o.session → a.index ≤ o.index → IsTrue (program_past o a)
program_past-from o a same up_to =
    and_from (eqb a.session o.session) (leb a.index o.index) (eq-eqb a.session o.session same) (le-leb a.index o.index up_to)

-- whether the vector of o counts an operation
abbrev pub in_past : Counts → OpId → OpId → Bool
in_past v o a = ltb a.index (count v o a.session)

-- what is before an operation that is before o is before o
pub program_past-earlier : (o p a : OpId) → IsTrue (program_past o p) → IsTrue (program_past p a) → IsTrue (program_past o a)
program_past-earlier o p a before earlier =
    let first = program_past-parts o p before in
    let second = program_past-parts p a earlier in
    program_past-from o a (second.0 ∙ first.0) (let one = first.1 in let two = second.1 in omega arith)

module _ (h : MemoryHistory) where
  -- what comes before an operation of the past of o is of it
  pub past-before : (o a b : OpId) → CO h a b → IsPast h o b → IsPast h o a
  past-before o a b leads in_past = ⊎_elim
      (λ (same : b ≡ o). inr (subst (λ (c : OpId). CO h a c) same leads))
      (λ (before : CO h b o). inr (leads-leads (IsEdge h) a b o leads before))
      in_past

  -- the past of an operation of the past of o is in it
  pub past-past : (o p a : OpId) → IsPast h o p → IsPast h p a → IsPast h o a
  past-past o p a in_past earlier = ⊎_elim
      (λ (same : a ≡ p). subst (λ (c : OpId). IsPast h o c) (sym same) in_past)
      (λ (before : CO h a p). past-before o a p before in_past)
      earlier

  -- what is before o in program order is in its past
  pub past-program : (o p : OpId) → IsOp h o → IsTrue (program_past o p) → IsPast h o p
  past-program o p is_op before =
      let parts = program_past-parts o p before in
      ⊎_elim
      (λ (same : p.index ≡ o.index). inl (same_op p o parts.0 same))
      (λ (other : p.index ≡ o.index → ⊥).
      let up_to = parts.1 in
      inr (leads-edge (IsEdge h) p o (inl ((parts.0, omega arith), is_op))))
      (cases_eq p.index o.index)

  -- what is in the past of an operation of the history is of the history
  pub past-of_history : (o a : OpId) → IsOp h o → IsPast h o a → IsOp h a
  past-of_history o a is_op in_past = ⊎_elim
      (λ (same : a ≡ o). subst (λ (p : OpId). IsOp h p) (sym same) is_op)
      (λ (before : CO h a o). (CO-of_history h a o before).0)
      in_past

  module _ (o : OpId) where
    -- on its past the relation has what CO has
    pub HB-causal : (a b : OpId) → IsPast h o a → IsPast h o b → CO h a b → HB h o a b
    HB-causal a b in_a in_b leads order closed = closed.causal a b in_a in_b leads

    pub HB-transitive : (a b c : OpId) → HB h o a b → HB h o b c → HB h o a c
    HB-transitive a b c first second order closed = closed.transitive a b c (first order closed) (second order closed)

    -- a write before a read of another write of its variable is before that one
    pub HB-read : (a b r : OpId) → AreRivalWrites h a b → ReadsFrom h b r → IsTrue (program_past o r) → HB h o a r → HB h o a b
    HB-read a b r rivals reads kept before order closed = closed.read a b r rivals reads kept (before order closed)

  -- an order that is closed for an operation is closed for those before it in program order
  closed-earlier : (o p : OpId) (order : Order) → IsOp h o → IsTrue (program_past o p) → IsClosed h o order → IsClosed h p order
  closed-earlier o p order is_op before closed =
      let in_past = past-program o p is_op before in
      record {
        causal = λ a b in_a in_b leads. closed.causal a b (past-past o p a in_past in_a) (past-past o p b in_past in_b) leads;
        transitive = closed.transitive;
        read = λ a b r rivals reads kept earlier. closed.read a b r rivals reads (program_past-earlier o p r before kept) earlier;
      }

  -- the relations of a session grow from one operation to the next
  pub HB-earlier : (o p : OpId) → IsOp h o → IsTrue (program_past o p) → (a b : OpId) → HB h p a b → HB h o a b
  HB-earlier o p is_op before a b happened order closed = happened order (closed-earlier o p order is_op before closed)

  -- for an operation that is not of the history no pair is needed
  nothing-closed : (o : OpId) → (IsOp h o → ⊥) → IsClosedWithin h o (λ a b. false)
  nothing-closed o no_op = record {
    closed = record {
      causal = λ a b in_a in_b leads. absurd (⊎_elim
          (λ (same : b ≡ o). no_op (subst (λ (p : OpId). IsOp h p) same (CO-of_history h a b leads).1))
          (λ (before : CO h b o). no_op (CO-of_history h b o before).1)
          in_b);
      transitive = λ a b c first second. first;
      read = λ a b r rivals reads kept before. before;
    };
    within = λ a b related. absurd cc;
  }

  -- an operation whose relation has a pair is of the history
  pub HBWithin-of_history : (o a b : OpId) → HBWithin h o a b → IsOp h o
  HBWithin-of_history o a b happened = ⊎_elim
      (λ (is_op : IsOp h o). is_op)
      (λ (past : length (session h o.session) ≤ o.index).
      let no_op : IsOp h o → ⊥ = λ is_op. omega arith in
      let no : false ≡ true = happened (λ c d. false) (nothing-closed o no_op) in absurd cc)
      (cases_lt o.index (length (session h o.session)))

  -- what all closed orders have, those that are confined to the past have
  pub HB-within : (o a b : OpId) → HB h o a b → HBWithin h o a b
  HB-within o a b happened order confined = happened order confined.closed

  pub HB-of_history : (o a b : OpId) → HB h o a b → IsOp h o
  HB-of_history o a b happened = HBWithin-of_history o a b (HB-within o a b happened)

  module _ (v : Counts) (counts : CountsSourceOrder h v) (distinct : IsDifferentiated h) (o : OpId) (is_op : IsOp h o) where
    pub in_past-from : (a : OpId) → IsPast h o a → IsTrue (in_past v o a)
    in_past-from a past = lt-ltb a.index (count v o a.session) ((counts.counted o a is_op).1 (⊎_elim
        (λ (same : a ≡ o). inl same)
        (λ (before : CO h a o). inr (CO-by_sources h distinct a o before))
        past))

    pub in_past-true : (a : OpId) → IsTrue (in_past v o a) → IsPast h o a
    in_past-true a counted = ⊎_elim
        (λ (same : a ≡ o). inl same)
        (λ (before : SourceOrder h a o). inr (CO-from_sources h a o before))
        ((counts.counted o a is_op).0 (ltb-true a.index (count v o a.session) counted))

    -- an order without the pairs that are not in the past of o
    abbrev confined : Order → Order
    confined order a b = in_past v o a && (in_past v o b && order a b)

    confined-parts : (order : Order) (a b : OpId) → IsTrue (confined order a b) → IsPast h o a × IsPast h o b × IsTrue (order a b)
    confined-parts order a b related =
        let first = and_parts (in_past v o a) (in_past v o b && order a b) related in
        let second = and_parts (in_past v o b) (order a b) first.1 in
        (in_past-true a first.0, in_past-true b second.0, second.1)

    confined-from : (order : Order) (a b : OpId) → IsPast h o a → IsPast h o b → IsTrue (order a b) → IsTrue (confined order a b)
    confined-from order a b in_a in_b related =
        and_from (in_past v o a) (in_past v o b && order a b) (in_past-from a in_a)
        (and_from (in_past v o b) (order a b) (in_past-from b in_b) related)

    confined-closed : (order : Order) → IsClosed h o order → IsClosedWithin h o (confined order)
    confined-closed order closed = record {
      closed = record {
        causal = λ a b in_a in_b leads. confined-from order a b in_a in_b (closed.causal a b in_a in_b leads);
        transitive = λ a b c one two.
            let first = confined-parts order a b one in
            let second = confined-parts order b c two in
            confined-from order a c first.0 second.1 (closed.transitive a b c first.2 second.2);
        read = λ a b r rivals reads kept before.
            let parts = confined-parts order a r before in
            let source = past-before o b r (leads-edge (IsEdge h) b r (inr reads)) parts.1 in
            confined-from order a b parts.0 source (closed.read a b r rivals reads kept parts.2);
      };
      within = λ a b related. let parts = confined-parts order a b related in (parts.0, parts.1);
    }

    everything-closed : IsClosed h o (λ a b. true)
    everything-closed = record {
      causal = λ a b in_a in_b leads. refl;
      transitive = λ a b c first second. refl;
      read = λ a b r rivals reads kept before. refl;
    }

    -- the relation is on the past of o
    pub HB-inside : (a b : OpId) → HB h o a b → IsPast h o a × IsPast h o b
    HB-inside a b happened =
        let whole = confined-closed (λ c d. true) everything-closed in
        whole.within a b (happened (confined (λ c d. true)) whole.closed)

    -- and it is the same where the orders are confined to the past
    pub HB-confined : (a b : OpId) → HBWithin h o a b → HB h o a b
    HB-confined a b happened order closed =
        (confined-parts order a b (happened (confined order) (confined-closed order closed))).2

    -- what is before an operation in program order is before all that that one is before
    pub HB-prefix : (a p b : OpId) → Precedes a p → HB h o p b → HB h o a b
    HB-prefix a p b before happened =
        let in_p = (HB-inside p b happened).0 in
        let leads = leads-edge (IsEdge h) a p (inl (before, past-of_history o p is_op in_p)) in
        HB-transitive o a p b (HB-causal o a p (past-before o a p leads in_p) in_p leads) happened

  module _ (v : Counts) (counts : CountsSourceOrder h v) (distinct : IsDifferentiated h) (o a b : OpId) where
    -- the same for any operation o
    pub HB-on_past : HB h o a b → IsPast h o a × IsPast h o b
    HB-on_past happened = HB-inside v counts distinct o (HB-of_history o a b happened) a b happened

    pub HB-exact : HB h o a b ↔ HBWithin h o a b
    HB-exact = (
      HB-within o a b,
      λ happened. HB-confined v counts distinct o (HBWithin-of_history o a b happened) a b happened,
    )

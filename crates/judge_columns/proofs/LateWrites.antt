-- For each write one edge from each session represents all conflicts of the session with it.
use Rattle.std.specs.Prelude.{◌≡◌, ◌≢◌, ◌⊎◌, ℕ, ◌+◌, ◌-◌, ◌<◌, ◌≤◌, List}
use Rattle.std.proofs.Common.{arith, refl, ap, sym, ◌∙◌, subst, inl, inr, ⊎_elim}
use Rattle.std.proofs.lemmas.Bool.{cases_eq}
use Rattle.model_history.specs.declared.op_id.OpId.{OpId}
use Rattle.model_history.specs.History.{IsOp, Precedes, many_before, number}
use Rattle.order_causal.specs.Orders.{Leads}
use Rattle.order_causal.proofs.Items.{cases-op}
use Rattle.order_causal.proofs.PathsLaws.{leads-edge, leads-leads, leads-within}
use Rattle.order_memory.specs.Memory.{MemoryHistory, IsDifferentiated}
use Rattle.order_memory.specs.Relations.{CO, CF}
use Rattle.order_memory.specs.SourceOrder.{IsCyclic}
use Rattle.order_memory.proofs.MemoryLaws.{same_read, write-of_history}
use Rattle.judge_memory.specs.Steps.{IsStep, IsStepWith, AreOfHistory, IsOrderWith}
use Rattle.judge_columns.specs.Columns.{ArePastEnds, AreFirsts}
use Rattle.judge_columns.specs.Conflicts.{IsLateTable, IsLateEdge, IsReducedIn}
use Rattle.judge_columns.specs.LastWrites.{WritesTo, IsLastIn, HasOverwrittenReadBy, IsLastBeside}
use Rattle.judge_columns.specs.Visits.{IsGreater}
use Rattle.judge_memory.proofs.Numbers.{number-once, number-up_to}
use Rattle.judge_memory.proofs.Steps.{program-steps, program-causal, steps-from_causal, steps-with, step-causal}
use Rattle.judge_memory.proofs.Orders.{order-acyclic}
use Rattle.judge_columns.proofs.LastWrites.{are-writes, last-once}
use Rattle.judge_columns.proofs.Visits.{one-source}
use Rattle.judge_columns.proofs.Overwrites.{rival-writes, last-before, last-after, after-earlier, read-exact}

-- a read has one source, and at most one last write beside it
pub beside-once : (h : MemoryHistory) (t : ℕ) (ends : ℕ → ℕ) → IsDifferentiated h → (w r a : OpId) → IsLastBeside h t ends w r a
    → (u b : OpId) → IsLastBeside h t ends u r b → (u ≡ w) × (b ≡ a)
beside-once h t ends distinct w r a (mine, last, _) u b (from, is, apart) =
    let same = same_read h r from.0 from.1 mine.0 mine.1 from.3 mine.3 in (
      one-source h distinct u w r from mine,
      last-once h (WritesTo h) (are-writes h) t mine.0 (ends (number h r)) b a
          (subst (λ (x : ℕ). IsLastIn h (WritesTo h) t x (ends (number h r)) b) same.0 is) last,
    )

module _ (h : MemoryHistory) (t : ℕ) (ends firsts : ℕ → ℕ) where
  -- before any read is seen the table is empty
  pub late-first : (seen : OpId → Type 0) → ((r : OpId) → ¬ seen r) → (late : ℕ → ℕ) → ((n : ℕ) → late n ≡ 0)
      → IsLateTable h t ends firsts seen late
  late-first seen unseen late none = record {
    sound = λ w n is_op is. let empty = none (number h w) in absurd (omega arith);
    each = λ w r a is_seen beside. absurd (unseen r is_seen);
  }

  -- a table with the same numbers
  pub late-same : (seen : OpId → Type 0) (late made : ℕ → ℕ) → ((n : ℕ) → made n ≡ late n) → IsLateTable h t ends firsts seen late
      → IsLateTable h t ends firsts seen made
  late-same seen late made same now = record {
    sound = λ w n is_op is. now.sound w n is_op (sym (same (number h w)) ∙ is);
    each = λ w r a is_seen beside. ⊎_elim
        (λ (later : firsts (number h w) ≤ number h a). inl later)
        (λ (rest : (number h a < ends (number h w)) ⊎ (number h a < late (number h w))). ⊎_elim
        (λ (first : number h a < ends (number h w)). inr (inl first))
        (λ (below : number h a < late (number h w)). let value = same (number h w) in inr (inr (omega arith)))
        rest)
        (now.each w r a is_seen beside);
  }

  -- the read r is seen
  module _ (seen wider : OpId → Type 0) (late : ℕ → ℕ) (now : IsLateTable h t ends firsts seen late) (r : OpId)
      (more : (q : OpId) → wider q → seen q ⊎ (q ≡ r)) where
    -- where no last write is beside its source, or only one that comes after it or before it in CO, the table stays
    pub late-kept : ((w a : OpId) → IsLastBeside h t ends w r a → (firsts (number h w) ≤ number h a) ⊎ (number h a < ends (number h w)))
        → IsLateTable h t ends firsts wider late
    late-kept clear = record {
      sound = now.sound;
      each = λ w q a is_seen beside. ⊎_elim
          (λ (before : seen q). now.each w q a before beside)
          (λ (same : q ≡ r). ⊎_elim
          (λ (later : firsts (number h w) ≤ number h a). inl later)
          (λ (first : number h a < ends (number h w)). inr (inl first))
          (clear w a (subst (λ (p : OpId). IsLastBeside h t ends w p a) same beside)))
          (more q is_seen);
    }

    -- else the number after it is put into the place of the source, if it is the greater
    module _ (distinct : IsDifferentiated h) (w a : OpId) (beside : IsLastBeside h t ends w r a) (made : ℕ → ℕ)
        (here : IsGreater (late (number h w)) (number h a + 1) (made (number h w)))
        (others : (n : ℕ) → n ≢ number h w → made n ≡ late n) where
      is_w : IsOp h w
      is_w = write-of_history h w beside.0.0 beside.0.1 beside.0.2

      sound-now : (u : OpId) (n : ℕ) → IsOp h u → made (number h u) ≡ n + 1
          → (q b : OpId) × IsLastBeside h t ends u q b × (number h b ≡ n)
      sound-now u n is_u is = ⊎_elim
          (λ (place : number h u ≡ number h w).
          let value = ap made place in
          subst (λ (p : OpId). (q b : OpId) × IsLastBeside h t ends p q b × (number h b ≡ n)) (sym (number-once h u w is_u is_w place))
          (⊎_elim
          (λ (old : made (number h w) ≡ late (number h w)). now.sound w n is_w (omega arith))
          (λ (new : made (number h w) ≡ number h a + 1). (r, a, beside, omega arith))
          here.one))
          (λ (apart : number h u ≢ number h w). now.sound u n is_u (sym (others (number h u) apart) ∙ is))
          (cases_eq (number h u) (number h w))

      late-grows : (n : ℕ) → late n ≤ made n
      late-grows n = ⊎_elim
          (λ (place : n ≡ number h w). let value = ap made place in let old = ap late place in let first = here.first in omega arith)
          (λ (apart : n ≢ number h w). let kept = others n apart in omega arith)
          (cases_eq n (number h w))

      each-now : (u q b : OpId) → wider q → IsLastBeside h t ends u q b
          → (firsts (number h u) ≤ number h b) ⊎ ((number h b < ends (number h u)) ⊎ (number h b < made (number h u)))
      each-now u q b is_seen is_beside = ⊎_elim
          (λ (before : seen q). ⊎_elim
          (λ (later : firsts (number h u) ≤ number h b). inl later)
          (λ (rest : (number h b < ends (number h u)) ⊎ (number h b < late (number h u))). ⊎_elim
          (λ (first : number h b < ends (number h u)). inr (inl first))
          (λ (old : number h b < late (number h u)). let grows = late-grows (number h u) in inr (inr (omega arith)))
          rest)
          (now.each u q b before is_beside))
          (λ (same : q ≡ r).
          let is = beside-once h t ends distinct w r a beside u b (subst (λ (p : OpId). IsLastBeside h t ends u p b) same is_beside) in
          let source = ap (λ (p : OpId). made (number h p)) is.0 in
          let last = ap (number h) is.1 in
          let second = here.second in
          inr (inr (omega arith)))
          (more q is_seen)

      pub late-raised : IsLateTable h t ends firsts wider made
      late-raised = record { sound = sound-now; each = each-now }

  -- once all reads are seen, the edges of the table represent the conflicts
  module _ (straight : ¬ IsCyclic h) (column : ArePastEnds h t ends) (are_firsts : AreFirsts h t firsts)
      (clear : ¬ HasOverwrittenReadBy h t) (seen : OpId → Type 0) (all : (w r a : OpId) → IsLastBeside h t ends w r a → seen r)
      (late : ℕ → ℕ) (now : IsLateTable h t ends firsts seen late) where
    conflict : (w r a b : OpId) → IsLastBeside h t ends w r a → a ≡ b → CF h b w
    conflict w r a b (from, is, apart) same = subst (λ (q : OpId). CF h q w) same (
      (apart, (from.0, is.wrote.0, from.1, is.wrote.1, from.2)),
      (r, last-before h t ends column a r from.0 from.0 from.1 from.3 is, from),
    )

    sound-edge : (a w : OpId) → IsLateEdge h late a w → (a.session ≡ t) × CF h a w
    sound-edge a w (is_a, is_w, is) =
        let found = now.sound w (number h a) is_w is in
        let last = found.2.1 in
        let same = number-once h found.1 a (write-of_history h found.1 found.2.0.0 last.wrote.0 last.wrote.1) is_a found.3 in
        (sym (ap (λ (q : OpId). q.session) same) ∙ last.of_session, conflict w found.0 found.1 a found.2 same)

    each-conflict : (b w : OpId) → b.session ≡ t → CF h b w → CO h b w ⊎ ((a : OpId) × ((b ≡ a) ⊎ Precedes b a) × IsLateEdge h late a w)
    each-conflict b w of_t (rivals, (r, leads, from)) =
        let wrote = rival-writes h b w from.0 from.1 from.2 rivals in
        let found = last-after h t ends column b r from.0 from.0 from.1 wrote from.3 of_t leads in
        let a : OpId = found.0 in
        let is_w = write-of_history h w from.0 from.1 from.2 in
        let is_a = write-of_history h a from.0 found.1.wrote.0 found.1.wrote.1 in
        ⊎_elim
        (λ (itself : a ≡ w). inl (⊎_elim
        (λ (same : b ≡ a). absurd (rivals.0 (same ∙ itself)))
        (λ (before : Precedes b a). subst (CO h b) itself (program-causal h b a before is_a))
        found.2))
        (λ (apart : a ≢ w). ⊎_elim
        (λ (later : firsts (number h w) ≤ number h a).
        absurd (clear ((read-exact h t ends column straight firsts are_firsts).1 (r, (w, a, (from, found.1, apart), later)))))
        (λ (rest : (number h a < ends (number h w)) ⊎ (number h a < late (number h w))). ⊎_elim
        (λ (first : number h a < ends (number h w)). inl (⊎_elim
        (λ (same : a ≡ w). absurd (apart same))
        (λ (before : CO h a w). after-earlier h t ends column b a w is_a found.2 before)
        ((column w a is_w is_a found.1.of_session).0 first)))
        (λ (edge : number h a < late (number h w)).
        let later = now.sound w (late (number h w) - 1) is_w (omega arith) in
        let last = later.2.1 in
        let c : OpId = later.1 in
        let is_c = write-of_history h c later.2.0.0 last.wrote.0 last.wrote.1 in
        let same = later.3 in
        let from_b : number h b ≤ number h a = ⊎_elim
        (λ (same : b ≡ a). let here = ap (number h) same in omega arith)
        (λ (before : Precedes b a). let less = before.1 in let start = ap (λ (s : ℕ). many_before h s) before.0 in omega arith)
        found.2 in
        inr (c, number-up_to h b c (of_t ∙ sym last.of_session) (omega arith), (is_c, is_w, omega arith)))
        rest)
        (now.each w r a (all w r a (from, found.1, apart)) (from, found.1, apart)))
        (cases-op a w)

    pub reduced-made : IsReducedIn h t (IsLateEdge h late)
    reduced-made = record { sound = λ a w edge. (sound-edge a w edge).1; each = each-conflict }

module _ (h : MemoryHistory) where
  abbrev pub InConflict : OpId → OpId → Type 0
  InConflict a b = CO h a b ⊎ CF h a b

  module _ (edge : OpId → OpId → Type 0) (reduced : (t : ℕ) → IsReducedIn h t edge) where
    reduced-of_history : AreOfHistory h edge
    reduced-of_history a w is =
        let rivals = ((reduced 0).sound a w is).0.1 in
        (write-of_history h a rivals.0 rivals.1 rivals.3, write-of_history h w rivals.0 rivals.2 rivals.4)

    -- such edges lead where CO and the conflicts lead
    pub conflicts-from_reduced : (a b : OpId) → Leads (IsStepWith h edge) a b → Leads InConflict a b
    conflicts-from_reduced = leads-within (IsStepWith h edge) (Leads InConflict) (λ a b step. leads-edge InConflict a b (⊎_elim
        (λ (plain : IsStep h a b). inl (step-causal h a b plain))
        (λ (is : edge a b). inr ((reduced 0).sound a b is))
        step))
        (leads-leads InConflict)

    causal-leads : (a b : OpId) → CO h a b → Leads (IsStepWith h edge) a b
    causal-leads a b leads = steps-with h edge a b (steps-from_causal h a b leads)

    conflict-leads : (b w : OpId) → CF h b w → Leads (IsStepWith h edge) b w
    conflict-leads b w conflict = ⊎_elim
        (λ (before : CO h b w). causal-leads b w before)
        (λ (some : (a : OpId) × ((b ≡ a) ⊎ Precedes b a) × edge a w).
        let last = leads-edge (IsStepWith h edge) some.0 w (inr some.2) in
        ⊎_elim
        (λ (same : b ≡ some.0). subst (λ (q : OpId). Leads (IsStepWith h edge) q w) (sym same) last)
        (λ (before : Precedes b some.0). leads-leads (IsStepWith h edge) b some.0 w
        (steps-with h edge b some.0 (program-steps h b some.0 before (reduced-of_history some.0 w some.2).0)) last)
        some.1)
        ((reduced b.session).each b w refl conflict)

    reduced-from_conflicts : (a b : OpId) → Leads InConflict a b → Leads (IsStepWith h edge) a b
    reduced-from_conflicts = leads-within InConflict (Leads (IsStepWith h edge)) (λ a b edge_of. ⊎_elim
        (λ (before : CO h a b). causal-leads a b before)
        (λ (conflict : CF h a b). conflict-leads a b conflict)
        edge_of)
        (leads-leads (IsStepWith h edge))

    -- so where they have an order, nothing in CO and in conflict leads to itself
    pub reduced-acyclic : (order : List ℕ) → IsOrderWith h edge order → (a : OpId) → ¬ Leads InConflict a a
    reduced-acyclic order ordered a leads = order-acyclic h edge reduced-of_history order ordered a (reduced-from_conflicts a a leads)

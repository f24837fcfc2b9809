-- The kinds of happened-before exclude causal memory.
use Rattle.std.proofs.Common.{◌≡◌, ℕ, ◌<◌, ◌≤◌, ⊎_elim, false, true, List, length, sym, ap, ◌∙◌, subst, refl, arith, eq-eqb, le-leb, eq-or-lt_of_le}
use Rattle.std.specs.Prelude.{◌==◌, nat_le, slice_get, IsTrue}
use Rattle.std.proofs.lemmas.Bool.{and_from, or_left, or_right, cases_lt}
use Rattle.std.proofs.lemmas.Option.{same_Some}
use Rattle.model_history.specs.declared.op_id.OpId.{OpId}
use Rattle.model_history.specs.History.{IsOp, session}
use Rattle.order_causal.specs.Orders.{Order, only, past, program_past, StandsAt, IsLinearization}
use Rattle.order_memory.specs.Memory.{MemoryHistory, memory_answer, initial, Writes, IsDifferentiated}
use Rattle.order_memory.proofs.MemoryLaws.{same_written}
use Rattle.order_memory.specs.Relations.{ReadsFrom, CO, AreRivalWrites, IsPast, IsClosed, HB}
use Rattle.order_memory.proofs.RelationsLaws.{CO-of_history}
use Rattle.cert_check.specs.Criteria.{IsCausalOrder, Explains, IsCausalMemory}
use Rattle.cert_check.proofs.ConvergentLaws.{only-same}
use Rattle.cert_check.proofs.FilteredLaws.{StandBoth}
use Rattle.pattern_check.specs.declared.kind.Kind.TheVariants.{WriteHBInitRead, CyclicHB}
use Rattle.pattern_check.specs.Kinds.{Shows}
use Rattle.pattern_check.proofs.Exclusion.{EachIsExplained, contains_CO}
use Rattle.pattern_check.proofs.ReadPasts.{itself, no_write_at, source-stands_at}
use Rattle.pattern_check.proofs.Standing.{comes, comes-true, comes-from}

-- an operation is in its program past
only-past : (o a : OpId) → IsTrue (only o a) → IsTrue (program_past o a)
only-past o a alone =
    let itself_past : IsTrue (program_past o o) =
    and_from (o.session == o.session) (nat_le o.index o.index) (eq-eqb o.session o.session refl) (le-leb o.index o.index (omega arith)) in
    subst (λ (b : OpId). IsTrue (program_past o b)) (sym (only-same o a alone)) itself_past

module _ (h : MemoryHistory) where
  -- an operation that is not of the history has nothing in its happened-before relation
  HB-of_history : (o a b : OpId) → HB h o a b → IsOp h o
  HB-of_history o a b happened =
      ⊎_elim
      (λ (is_op : IsOp h o). is_op)
      (λ (past : length (session h o.session) ≤ o.index).
      let no_op : IsOp h o → ⊥ = λ is_op. omega arith in
      let empty : IsClosed h o (λ c d. false) = record {
        causal = λ c d in_c in_d leads. absurd (⊎_elim
            (λ (same : d ≡ o). no_op (subst (λ (e : OpId). IsOp h e) same (CO-of_history h c d leads).1))
            (λ (above : CO h d o). no_op (CO-of_history h d o above).1)
            in_d);
        transitive = λ c d e first second. first;
        read = λ c d r rivals reads kept before. before;
      } in
      let no : false ≡ true = happened (λ c d. false) empty in absurd cc)
      (cases_lt o.index (length (session h o.session)))

  module _ (distinct : IsDifferentiated h) (co : Order) (causal : IsCausalOrder h co) (each : EachIsExplained h co)
      (o : OpId) (ops : List OpId) (linear : IsLinearization (past co o) co ops) (explains : Explains memory_answer h ops (program_past o)) where
    past-stands : (a : OpId) → IsPast h o a → (k : ℕ) × StandsAt ops k a
    past-stands a in_past = linear.each a (⊎_elim
        (λ (same : a ≡ o). or_left (only o a) (co a o) (subst (λ (b : OpId). IsTrue (only o b)) (sym same) (itself o)))
        (λ (leads : CO h a o). or_right (only o a) (co a o) (contains_CO h distinct co causal each a o leads))
        in_past)

    -- another write of the variable that stands before a read stands before the write that is read
    rival-comes : (a b r : OpId) → AreRivalWrites h a b → ReadsFrom h b r → IsTrue (program_past o r) → StandBoth ops a r → StandBoth ops a b
    rival-comes a b r (apart, (y, u, t, first, second)) (x, v, wrote, reads, other) kept (j, n, below, at_a, at_r) =
        let same = same_written h b x v y t wrote second in
        let rival : Writes h a x u = rw same.0 first in
        let source = source-stands_at h distinct ops (program_past o) explains r kept n at_r x v reads other b wrote in
        ⊎_elim
        (λ (tie : j ≡ source.0). absurd (apart (same_Some a b (sym at_a ∙ ap (slice_get ops) tie ∙ source.1))))
        (λ (before : j < source.0). (j, source.0, before, at_a, source.1))
        (eq-or-lt_of_le (source.2 a u j below at_a rival))

    -- what stands before what in the list is closed for the operation
    comes-closed : IsClosed h o (comes ops)
    comes-closed = record {
      causal = λ a b in_a in_b leads.
          let at_a = past-stands a in_a in
          let at_b = past-stands b in_b in
          let before = linear.ordered at_a.0 at_b.0 a b at_a.1 at_b.1 (contains_CO h distinct co causal each a b leads) in
          comes-true ops a b (at_a.0, at_b.0, before, at_a.1, at_b.1);
      transitive = λ a b c yes_ab yes_bc.
          let first = comes-from ops a b yes_ab in
          let second = comes-from ops b c yes_bc in
          let same = linear.once first.1 second.0 b first.4 second.3 in
          let below = first.2 in
          let above = second.2 in
          comes-true ops a c (first.0, second.1, omega arith, first.3, second.4);
      read = λ a b r rivals reads kept yes.
          comes-true ops a b (rival-comes a b r rivals reads kept (comes-from ops a r yes));
    }

    -- what happened before stands before
    HB-stands : (a b : OpId) → HB h o a b → StandBoth ops a b
    HB-stands a b happened = comes-from ops a b (happened (comes ops) comes-closed)

  module _ (distinct : IsDifferentiated h) (co : Order) (causal : IsCausalOrder h co)
      (explained : (o : OpId) → IsOp h o → (ops : List OpId) × IsLinearization (past co o) co ops × Explains memory_answer h ops (program_past o)) where
    each-explained : EachIsExplained h co
    each-explained o is_op =
        let piece = explained o is_op in
        (piece.0, piece.1, λ k a c r at alone is. piece.2 k a c r at (only-past o a alone) is)

    cyclic_HB-absurd : ¬ Shows h CyclicHB
    cyclic_HB-absurd (o, a, cycle) =
        let piece = explained o (HB-of_history o a a cycle) in
        let both = HB-stands distinct co causal each-explained o piece.0 piece.1 piece.2 a a cycle in
        let same = piece.1.once both.0 both.1 a both.3 both.4 in
        let below = both.2 in
        absurd (omega arith)

    initial_read_HB-absurd : ¬ Shows h WriteHBInitRead
    initial_read_HB-absurd (o, w, r, x, v, wrote, reads, kept, before) =
        let piece = explained o (HB-of_history o w r before) in
        let both = HB-stands distinct co causal each-explained o piece.0 piece.1 piece.2 w r before in
        no_write_at h distinct piece.0 (program_past o) piece.2 r kept both.1 both.4 x (initial h x) reads refl w v wrote both.0 both.2 both.3

  -- a cycle of happened-before excludes causal memory
  pub cyclic_HB-excluded : IsDifferentiated h → Shows h CyclicHB → ¬ IsCausalMemory memory_answer h
  cyclic_HB-excluded distinct shown (co, causal, explained) = cyclic_HB-absurd distinct co causal explained shown

  -- a write that happened before a read of the initial value excludes it
  pub initial_read_HB-excluded : IsDifferentiated h → Shows h WriteHBInitRead → ¬ IsCausalMemory memory_answer h
  initial_read_HB-excluded distinct shown (co, causal, explained) = initial_read_HB-absurd distinct co causal explained shown

-- Each kind of bad pattern excludes the criteria that it is against.
use Rattle.std.proofs.Common.{◌≡◌, ℕ, ◌<◌, ◌⊎◌, ⊎_elim, List, take, sym, ap, ◌∙◌, refl, arith, lt-ltb, length, eq-or-lt_of_le}
use Rattle.std.specs.Prelude.{slice_get, filter, IsTrue}
use Rattle.std.proofs.lemmas.Option.{slice_get_within, same_Some}
use Rattle.model_history.specs.declared.op_id.OpId.{OpId}
use Rattle.model_history.specs.History.{IsOp, session}
use Rattle.order_causal.specs.Orders.{Order, only, past, IsLinearization}
use Rattle.order_memory.specs.Memory.{MemoryHistory, memory_answer, initial, Writes, Reads, IsDifferentiated}
use Rattle.order_memory.specs.Relations.{ReadsFrom, IsEdge, CO, CF}
use Rattle.order_memory.proofs.MemoryLaws.{same_written}
use Rattle.cert_check.specs.declared.criterion.Criterion.TheVariants.{Cc}
use Rattle.cert_check.specs.Criteria.{every, IsCausalOrder, Explains, IsCausallyConsistent, IsCausallyConvergent}
use Rattle.cert_check.proofs.FilteredLaws.{StandBoth, filter_in_order}
use Rattle.cert_check.proofs.ConvergentLaws.{cut_is_linearization}
use Rattle.pattern_check.specs.declared.kind.Kind.{Kind}
use Rattle.pattern_check.specs.declared.kind.Kind.TheVariants.{CyclicCO, ThinAirRead, WriteCOInitRead, WriteCORead, WriteHBInitRead, CyclicHB, CyclicCF}
use Rattle.pattern_check.specs.Kinds.{is_against, Shows}
use Rattle.order_memory.proofs.LastWrites.{IsUnwritten, IsLastWrite}
use Rattle.pattern_check.proofs.Leads.{leads_in}
use Rattle.pattern_check.proofs.ReadPasts.{place, stands_before, value-cases, no_write_before, source-stands, source-before}

module _ (h : MemoryHistory) where
  -- under an order the past of each operation has a linearization that explains what the operation returned
  abbrev pub EachIsExplained : Order → Type 0
  EachIsExplained co =
      (o : OpId) → IsOp h o → (ops : List OpId) × IsLinearization (past co o) co ops × Explains memory_answer h ops (only o)

  read-of_history : (r : OpId) (x v : ℕ) → Reads h r x v → IsOp h r
  read-of_history r x v reads = slice_get_within (session h r.session) r.index _ reads

  module _ (distinct : IsDifferentiated h) (co : Order) (causal : IsCausalOrder h co) (explained : EachIsExplained co) where
    edge-in_order : (a b : OpId) → IsEdge h a b → IsTrue (co a b)
    edge-in_order a b edge =
        ⊎_elim
        (λ (later : (◌≡◌ a.session b.session × (a.index < b.index)) × IsOp h b). causal.program_order a b later.1 later.0)
        (λ (reads_from : ReadsFrom h a b).
        let read = reads_from.3 in
        let piece = explained b (read-of_history b reads_from.0 reads_from.1 read) in
        source-before h distinct co b piece.0 piece.1 piece.2 reads_from.0 reads_from.1 read reads_from.4 a reads_from.2)
        edge

    -- an order that explains each operation contains the causal order of the history
    pub contains_CO : (a b : OpId) → CO h a b → IsTrue (co a b)
    contains_CO = leads_in (IsEdge h) (λ a b. IsTrue (co a b)) causal.transitive edge-in_order

    cyclic_CO-absurd : ¬ Shows h CyclicCO
    cyclic_CO-absurd (a, cycle) = causal.irreflexive a (contains_CO a a cycle)

    initial_read-absurd : ¬ Shows h WriteCOInitRead
    initial_read-absurd (w, r, x, v, wrote, reads, before) =
        let piece = explained r (read-of_history r x (initial h x) reads) in
        no_write_before h distinct co r piece.0 piece.1 piece.2 x (initial h x) reads refl w v wrote (contains_CO w r before)

    overwritten_read-absurd : ¬ Shows h WriteCORead
    overwritten_read-absurd (a, b, r, (x, v, wrote, reads, other), (apart, (y, u, t, first, second)), above, below) =
        let piece = explained r (read-of_history r x v reads) in
        let same = same_written h a x v y u wrote first in
        let rival : Writes h b x t = rw same.0 second in
        let source = source-stands h distinct co r piece.0 piece.1 piece.2 x v reads other a wrote in
        let between = stands_before h distinct co r piece.0 piece.1 piece.2 x v reads b (contains_CO b r below) in
        let after = piece.1.ordered source.0 between.0 a b source.1 between.2 (contains_CO a b above) in
        let last = source.2 b t between.0 between.1 between.2 rival in
        absurd (omega arith)

    thin_air-absurd : ¬ Shows h ThinAirRead
    thin_air-absurd (r, (x, v, reads, other, unwritten)) =
        let piece = explained r (read-of_history r x v reads) in
        let before = take (place h distinct co r piece.0 piece.1 piece.2 x v reads).0 piece.0 in
        ⊎_elim
        (λ (none : IsUnwritten h x before × (v ≡ initial h x)). other none.1)
        (λ (some : (w : OpId) × IsLastWrite h x before w v). unwritten some.0 some.1.writes)
        (value-cases h distinct co r piece.0 piece.1 piece.2 x v reads)

  -- each kind against causal consistency excludes it
  pub consistency-excluded : IsDifferentiated h → (kind : Kind) → IsTrue (is_against kind Cc) → Shows h kind → ¬ IsCausallyConsistent memory_answer h
  consistency-excluded distinct CyclicCO against shown (co, causal, explained) = cyclic_CO-absurd distinct co causal explained shown
  consistency-excluded distinct ThinAirRead against shown (co, causal, explained) = thin_air-absurd distinct co causal explained shown
  consistency-excluded distinct WriteCOInitRead against shown (co, causal, explained) = initial_read-absurd distinct co causal explained shown
  consistency-excluded distinct WriteCORead against shown (co, causal, explained) = overwritten_read-absurd distinct co causal explained shown
  consistency-excluded distinct WriteHBInitRead against shown (co, causal, explained) = absurd cc
  consistency-excluded distinct CyclicHB against shown (co, causal, explained) = absurd cc
  consistency-excluded distinct CyclicCF against shown (co, causal, explained) = absurd cc

  module _ (distinct : IsDifferentiated h) (co : Order) (causal : IsCausalOrder h co) (arb : List OpId) (whole : IsLinearization (every h) co arb)
      (explained : (o : OpId) → IsOp h o → Explains memory_answer h (filter (past co o) arb) (only o)) where
    each-explained : EachIsExplained co
    each-explained o is_op = (filter (past co o) arb, cut_is_linearization h co causal arb whole o is_op, explained o is_op)

    before-in_list : (a b : OpId) → IsTrue (co a b) → StandBoth arb a b
    before-in_list a b before =
        let ops = causal.of_history a b before in
        let first = whole.each a (lt-ltb a.index (length (session h a.session)) ops.0) in
        let second = whole.each b (lt-ltb b.index (length (session h b.session)) ops.1) in
        (first.0, second.0, whole.ordered first.0 second.0 a b first.1 second.1 before, first.1, second.1)

    -- of two rival writes the one that is read is the later one in the list, where the other is in the past of the read
    conflict-in_list : (a b : OpId) → CF h a b → StandBoth arb a b
    conflict-in_list a b ((apart, (y, u, t, first, second)), (r, above, (x, v, wrote, reads, other))) =
        let is_op = read-of_history r x v reads in
        let ops = filter (past co r) arb in
        let linear = cut_is_linearization h co causal arb whole r is_op in
        let same = same_written h b x v y t wrote second in
        let rival : Writes h a x u = rw same.0 first in
        let source = source-stands h distinct co r ops linear (explained r is_op) x v reads other b wrote in
        let there = stands_before h distinct co r ops linear (explained r is_op) x v reads a (contains_CO distinct co causal each-explained a r above) in
        let up_to = source.2 a u there.0 there.1 there.2 rival in
        ⊎_elim
        (λ (tie : there.0 ≡ source.0).
        absurd (apart (same_Some a b (sym there.2 ∙ ap (slice_get ops) tie ∙ source.1))))
        (λ (below : there.0 < source.0). filter_in_order (past co r) arb there.0 source.0 a b below there.2 source.1)
        (eq-or-lt_of_le up_to)

    list-transitive : (a b c : OpId) → StandBoth arb a b → StandBoth arb b c → StandBoth arb a c
    list-transitive a b c first second =
        let same = whole.once first.1 second.0 b first.4 second.3 in
        (first.0, second.1, (let below = first.2 in let above = second.2 in omega arith), first.3, second.4)

    cyclic_CF-absurd : ¬ Shows h CyclicCF
    cyclic_CF-absurd (a, cycle) =
        let both = leads_in (λ b c. CO h b c ⊎ CF h b c) (λ b c. StandBoth arb b c) list-transitive
        (λ b c step. ⊎_elim
        (λ (causally : CO h b c). before-in_list b c (contains_CO distinct co causal each-explained b c causally))
        (λ (conflict : CF h b c). conflict-in_list b c conflict)
        step) a a cycle in
        let same = whole.once both.0 both.1 a both.3 both.4 in
        let below = both.2 in
        absurd (omega arith)

  -- a cycle of the causal order and conflicts excludes causal convergence
  pub convergence-excluded : IsDifferentiated h → Shows h CyclicCF → ¬ IsCausallyConvergent memory_answer h
  convergence-excluded distinct shown (co, arb, causal, whole, explained) = cyclic_CF-absurd distinct co causal arb whole explained shown

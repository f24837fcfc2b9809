-- Where no read of an initial value comes behind a write of its variable, each piece of a certificate by conflicts
-- explains its operation.
use Rattle.std.proofs.Common.{◌≡◌, ℕ, ◌<◌, ◌≤◌, List, length, filter, inl, inr, sym, ap, subst, subst₂, ◌∙◌, arith, ⊎_elim, lt-ltb, ltb-true, eq-or-lt_of_le}
use Rattle.std.specs.Prelude.{◌≢◌, slice_get}
use Rattle.std.proofs.lemmas.Bool.{cases_eq, cases_lt}
use Rattle.std.proofs.lemmas.Option.{same_Some}
use Rattle.model_history.specs.declared.op_id.OpId.{OpId}
use Rattle.model_history.specs.History.{IsOp, session}
use Rattle.order_memory.proofs.FirstWrites.{CO-from_sources}
use Rattle.order_memory.proofs.MemoryLaws.{same_read, write-or_read}
use Rattle.order_memory.proofs.ReadAnswers.{Fits, AnswersBehind, answers-source, answers-start}
use Rattle.order_causal.proofs.PathsLaws.{leads-edge}
use Rattle.order_memory.proofs.SourcesExist.{read-source}
use Rattle.order_memory.proofs.SourceVectors.{counts-before, before-counted, counted-of_history, order-vector_ok}
use Rattle.order_memory.specs.Memory.{MemoryHistory, memory_answer, initial, Writes, Reads}
use Rattle.order_causal.specs.Orders.{only, StandsAt}
use Rattle.order_memory.specs.OverwrittenReads.{HasOverwrittenStart}
use Rattle.order_memory.specs.SourceOrder.{CountsSourceOrder, IsSource, IsSourceEdge, SourceOrder}
use Rattle.order_causal.specs.Vectors.{Counts, count, IsCounted}
use Rattle.cert_check.specs.declared.certificate.Certificate.{Certificate}
use Rattle.cert_check.specs.declared.certificate.Certificate.TheVariants.{Cc, Cm, Ccv}
use Rattle.cert_check.specs.Certificates.{counted, HasShapeOf, IsArbitratedPiece, IsExplainedThroughout}
use Rattle.cert_check.specs.Schedules.{named, StandsBefore}
use Rattle.order_causal.specs.Schedules.{placed}
use Rattle.cert_check.proofs.ConvergentLaws.{only-same}
use Rattle.cert_check.proofs.FilteredLaws.{filter_keeps, filter_from, filter_in_order}
use Rattle.cert_check.proofs.Named.{named_is, named_each, named_once, before_from_counted}
use Rattle.cert_make.proofs.ReadPieces.{explains-reads}
use Rattle.cert_make.proofs.WalkedSchedules.{next-is}
use Rattle.cert_make_ccv.specs.ByConflicts.{ComesFirst, GoesByRule, IsByConflicts}

module _ (h : MemoryHistory) (list : List ℕ) (by_rule : GoesByRule h list) where
  -- what has to stand before an operation stands before it
  first-stands : (k : ℕ) (a b : OpId) → StandsAt (named list) k b → ComesFirst h a b → StandsBefore (named list) k a
  first-stands k a b stands first =
      let can = by_rule.can k b.session (named_is list k b stands).0 in
      before_from_counted list k a (can.ready a (subst (λ (x : OpId). ComesFirst h a x) (sym (next-is list k b stands)) first))

  module _ (v : Counts) (o : OpId) where
    -- the list cut to what the vector of o counts
    abbrev cut : List OpId
    cut = filter (counted v o) (named list)

    -- what stands in it stands in the list and is counted
    cut-counted : (k : ℕ) (a : OpId) → StandsAt cut k a → IsCounted v o a
    cut-counted k a stands = ltb-true a.index (count v o a.session) (filter_from (counted v o) (named list) k a stands).2

    -- of two operations that stand in it, the one that has to stand first does
    cut-in_order : (j k : ℕ) (a b : OpId) → StandsAt cut j a → StandsAt cut k b → ComesFirst h a b → j < k
    cut-in_order j k a b at_j at_k first =
        let b_there = filter_from (counted v o) (named list) k b at_k in
        let a_there = first-stands b_there.0 a b b_there.1 first in
        ⊎_elim
        (λ (below : j < k). below)
        (λ (above : k ≤ j). ⊎_elim
        (λ (same : k ≡ j).
        let one : a ≡ b = same_Some a b (sym at_j ∙ ap (λ (n : ℕ). slice_get cut n) (sym same) ∙ at_k) in
        let place = named_once list a_there.0 b_there.0 b (subst (λ (x : OpId). StandsAt (named list) a_there.0 x) one a_there.2) b_there.1 in
        let earlier = a_there.1 in
        absurd (omega arith))
        (λ (below : k < j).
        let both = filter_in_order (counted v o) (named list) k j b a below at_k at_j in
        let first_place = named_once list both.0 b_there.0 b both.3 b_there.1 in
        let second_place = named_once list both.1 a_there.0 a both.4 a_there.2 in
        let earlier = a_there.1 in
        let later = both.2 in
        absurd (omega arith))
        (eq-or-lt_of_le above))
        (cases_lt j k)

    -- each operation stands in it once
    cut-once : (j k : ℕ) (a : OpId) → StandsAt cut j a → StandsAt cut k a → ¬ (j < k)
    cut-once j k a at_j at_k below =
        let both = filter_in_order (counted v o) (named list) j k a a below at_j at_k in
        let place = named_once list both.0 both.1 a both.3 both.4 in
        let apart = both.2 in
        omega arith

    module _ (order : CountsSourceOrder h v) (is_op : IsOp h o) (whole : (s : ℕ) → placed list s ≡ length (session h s)) where
      -- what is counted stands in it
      cut-stands : (a : OpId) → IsCounted v o a → (k : ℕ) × StandsAt cut k a
      cut-stands a counts =
          let a_op = counted-of_history h v order o a is_op counts in
          let times_a = whole a.session in
          let there = named_each list a (omega arith) in
          filter_keeps (counted v o) (named list) there.0 a there.1 (lt-ltb a.index (count v o a.session) counts)

      -- a write in it comes before a known read
      write-before : (x u : ℕ) → Reads h o x u → (i : ℕ) (b : OpId) (t : ℕ) → StandsAt cut i b → Writes h b x t → SourceOrder h b o
      write-before x u reads i b t stands wrote =
          before-counted h v order o b is_op (cut-counted i b stands) (write-or_read h b o x t x u wrote reads)

      module _ (k x u : ℕ) (reads : Reads h o x u) (stands : StandsAt cut k o) (w : OpId) (source : IsSource h w o) where
        before : SourceOrder h w o
        before = leads-edge (IsSourceEdge h) w o (inr source)

        wrote : Writes h w x u
        wrote =
            let same = same_read h o x u source.0.0 source.0.1 reads source.0.3 in
            subst₂ (λ (y t : ℕ). Writes h w y t) (sym same.0) (sym same.1) source.0.2

        there : (p : ℕ) × StandsAt cut p w
        there = cut-stands w (counts-before h v order o w is_op before)

        -- another write of the variable has to stand before the source
        none_behind : (i : ℕ) (b : OpId) (t : ℕ) → StandsAt cut i b → Writes h b x t → ¬ (there.0 < i)
        none_behind i b t at writes behind =
            let other : b ≢ w = λ same. cut-once there.0 i w there.1 (subst (λ (a : OpId). StandsAt cut i a) same at) behind in
            let conflict : ComesFirst h b w = inr ((other, (x, t, u, writes, wrote)), (o, write-before x u reads i b t at writes, source)) in
            let earlier = cut-in_order i there.0 b w at there.1 conflict in
            omega arith

        source-answers : AnswersBehind h cut k x u
        source-answers = answers-source h cut k there.0 w x u wrote there.1 (cut-in_order there.0 k w o there.1 stands (inl before))
            (λ i b t below at writes. ⊎_elim
            (λ (behind : there.0 < i). absurd (none_behind i b t at writes behind))
            (λ (up_to : i ≤ there.0). up_to)
            (cases_lt there.0 i))

      module _ (start : ¬ HasOverwrittenStart h) where
        start-answers : (k x : ℕ) → Reads h o x (initial h x) → AnswersBehind h cut k x (initial h x)
        start-answers k x reads = answers-start h cut k x
            (λ i b t below at wrote. start (b, o, x, t, wrote, reads, CO-from_sources h b o (write-before x (initial h x) reads i b t at wrote)))

        read-answers : (k x u : ℕ) → Reads h o x u → StandsAt cut k o → AnswersBehind h cut k x u
        read-answers k x u reads stands = ⊎_elim
            (λ (value : u ≡ initial h x).
            subst (λ (n : ℕ). AnswersBehind h cut k x n) (sym value) (start-answers k x (subst (λ (n : ℕ). Reads h o x n) value reads)))
            (λ (apart : u ≢ initial h x).
            let source = read-source h order.sources o x u reads apart in
            source-answers k x u reads stands source.0 source.1)
            (cases_eq u (initial h x))

        -- the piece of an operation
        conflict-piece : Fits h → IsArbitratedPiece memory_answer h v list o
        conflict-piece fits = record {
          vector = order-vector_ok h v order o is_op;
          after_counted = λ k a stands counts apart. first-stands k a o stands (inl (before-counted h v order o a is_op counts apart));
          explains = explains-reads h cut fits (only o) (λ k r x u stands alone reads.
              let same = only-same o r alone in
              read-answers k x u (subst (λ (a : OpId). Reads h a x u) same reads) (subst (λ (a : OpId). StandsAt cut k a) same stands));
        }

-- each piece explains its operation
pub conflicts-explain : (h : MemoryHistory) → Fits h → ¬ HasOverwrittenStart h
    → (c : Certificate) → HasShapeOf h c → IsByConflicts h c → IsExplainedThroughout memory_answer h c
conflicts-explain h fits start (Cc v schedules) shape by = absurd by
conflicts-explain h fits start (Cm v schedules) shape by = absurd by
conflicts-explain h fits start (Ccv v list) shape by = λ o is_op.
    conflict-piece h list by.by_rule v o by.order is_op shape.1 start fits

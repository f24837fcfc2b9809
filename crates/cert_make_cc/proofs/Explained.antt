-- Where no read comes too late for what it returned, each piece of a certificate by sources explains its operation.
use Rattle.std.proofs.Common.{◌≡◌, ℕ, ◌<◌, ◌≤◌, List, [], length, inr, sym, subst, subst₂, arith, ⊎_elim}
use Rattle.std.specs.Prelude.{◌≢◌, Option, Some, None, MatchOption}
use Rattle.std.proofs.lemmas.Bool.{cases_lt}
use Rattle.model_history.specs.declared.op_id.OpId.{OpId}
use Rattle.model_history.specs.History.{IsOp}
use Rattle.order_memory.proofs.FirstWrites.{CO-from_sources}
use Rattle.order_memory.proofs.MemoryLaws.{same_read, write-or_read}
use Rattle.order_memory.proofs.ReadAnswers.{Fits, AnswersBehind, answers-source, answers-start}
use Rattle.order_causal.proofs.PathsLaws.{leads-edge}
use Rattle.order_memory.proofs.SourceVectors.{counts-before, before-counted, counted-of_history, order-vector_ok}
use Rattle.order_memory.specs.Memory.{MemoryHistory, memory_answer, initial, Writes, Reads}
use Rattle.order_causal.specs.Orders.{only, StandsAt}
use Rattle.order_memory.specs.OverwrittenReads.{HasOverwrittenStart, HasOverwrittenRead}
use Rattle.order_memory.specs.SourceOrder.{CountsSourceOrder, IsSource, IsSourceEdge, IsSourceOf, SourceOrder}
use Rattle.order_causal.specs.Topological.{IsFullWalk}
use Rattle.order_causal.specs.Vectors.{Counts, list_of, IsCounted}
use Rattle.cert_check.specs.declared.certificate.Certificate.{Certificate}
use Rattle.cert_check.specs.declared.certificate.Certificate.TheVariants.{Cc, Cm, Ccv}
use Rattle.cert_check.specs.Certificates.{IsScheduledPiece, IsExplainedThroughout}
use Rattle.cert_check.specs.Criteria.{Explains}
use Rattle.cert_check.specs.Schedules.{named, IsSchedule}
use Rattle.cert_check.proofs.ConvergentLaws.{only-same}
use Rattle.cert_check.proofs.Named.{named_within, named_once}
use Rattle.cert_make.proofs.ReadPieces.{explains-reads}
use Rattle.cert_make.proofs.WalkedSchedules.{plain-schedule}
use Rattle.cert_make_cc.specs.BySources.{IsBySource, IsBySources}
use Rattle.cert_make_cc.proofs.SourceSchedules.{write-stands, source-schedule, behind-write}

module _ (h : MemoryHistory) (fits : Fits h) (v : Counts) (order : CountsSourceOrder h v) (o : OpId) (is_op : IsOp h o) (schedule : List ℕ) where
  -- an operation that has no source
  module _ (start : ¬ HasOverwrittenStart h) (plain : (x u : ℕ) → Reads h o x u → u ≡ initial h x) (full : IsFullWalk v (list_of v o) [] schedule) where
    unwritten : (x : ℕ) → Reads h o x (initial h x) → (i : ℕ) (b : OpId) (t : ℕ) → StandsAt (named schedule) i b → ¬ Writes h b x t
    unwritten x reads i b t stands wrote =
        let within = named_within schedule i b stands in
        let ends = (plain-schedule h v order schedule o is_op full).ends b.session in
        let counts : IsCounted v o b = omega arith in
        let apart = write-or_read h b o x t x (initial h x) wrote reads in
        start (b, o, x, t, wrote, reads, CO-from_sources h b o (before-counted h v order o b is_op counts apart))

    plain-explains : Explains memory_answer h (named schedule) (only o)
    plain-explains = explains-reads h (named schedule) fits (only o) (λ k r x u stands alone reads.
        let here : Reads h o x u = subst (λ (a : OpId). Reads h a x u) (only-same o r alone) reads in
        let value = plain x u here in
        subst (λ (n : ℕ). AnswersBehind h (named schedule) k x n) (sym value)
        (answers-start h (named schedule) k x (λ i b t below at. unwritten x (subst (λ (n : ℕ). Reads h o x n) value here) i b t at)))

    plain-piece : IsScheduledPiece memory_answer h v schedule o (only o)
    plain-piece = record {
      vector = order-vector_ok h v order o is_op;
      schedules = plain-schedule h v order schedule o is_op full;
      explains = plain-explains;
    }

  -- an operation that has a source
  module _ (read : ¬ HasOverwrittenRead h) (w : OpId) (source : IsSource h w o) (by : IsBySource v o w schedule) where
    before : SourceOrder h w o
    before = leads-edge (IsSourceEdge h) w o (inr source)

    scheduled : IsSchedule h v o schedule
    scheduled = source-schedule h v order o w is_op before by.limits by.apart by.before by.first schedule by.rest

    stands_there : StandsAt (named schedule) (length by.before) w
    stands_there = write-stands h v order o w is_op before by.limits by.apart by.before by.first schedule by.rest

    module _ (x u : ℕ) (reads : Reads h o x u) where
      wrote : Writes h w x u
      wrote =
          let same = same_read h o x u source.0.0 source.0.1 reads source.0.3 in
          subst₂ (λ (y t : ℕ). Writes h w y t) (sym same.0) (sym same.1) source.0.2

      -- the source stands before the read
      source-earlier : (k : ℕ) → StandsAt (named schedule) k o → length by.before < k
      source-earlier k stands =
          let apart = write-or_read h w o x u x u wrote reads in
          let there = scheduled.after_counted k o w stands (counts-before h v order o w is_op before) apart in
          let same : there.0 ≡ length by.before = named_once schedule there.0 (length by.before) w there.2 stands_there in
          let below = there.1 in
          omega arith

      -- and no other write of the variable stands behind it
      none_behind : (i : ℕ) (b : OpId) (t : ℕ) → StandsAt (named schedule) i b → Writes h b x t → ¬ (length by.before < i)
      none_behind i b t stands writes behind =
          let both = behind-write h v order o w is_op before by.limits by.apart by.before by.first schedule by.rest i b stands behind in
          let b_op = counted-of_history h v order o b is_op both.0 in
          let other : w ≢ b = λ same.
          let place = named_once schedule (length by.before) i b (subst (λ (a : OpId). StandsAt (named schedule) (length by.before) a) same stands_there) stands in
          omega arith in
          let above = before-counted h v order b w b_op both.1 other in
          let below = before-counted h v order o b is_op both.0 (write-or_read h b o x t x u writes reads) in
          read (w, b, o, source.0, (other, (x, u, t, wrote, writes)), CO-from_sources h w b above, CO-from_sources h b o below)

      source-answers : (k : ℕ) → StandsAt (named schedule) k o → AnswersBehind h (named schedule) k x u
      source-answers k stands = answers-source h (named schedule) k (length by.before) w x u wrote stands_there (source-earlier k stands)
          (λ i b t below at writes. ⊎_elim
          (λ (behind : length by.before < i). absurd (none_behind i b t at writes behind))
          (λ (up_to : i ≤ length by.before). up_to)
          (cases_lt (length by.before) i))

    source-piece : IsScheduledPiece memory_answer h v schedule o (only o)
    source-piece = record {
      vector = order-vector_ok h v order o is_op;
      schedules = scheduled;
      explains = explains-reads h (named schedule) fits (only o) (λ k r x u stands alone reads.
          let same = only-same o r alone in
          source-answers x u (subst (λ (a : OpId). Reads h a x u) same reads) k (subst (λ (a : OpId). StandsAt (named schedule) k a) same stands));
    }

  -- each operation has a source or none
  piece-for : ¬ HasOverwrittenStart h → ¬ HasOverwrittenRead h → (e : Option OpId) → IsSourceOf h o e
      → MatchOption e (IsFullWalk v (list_of v o) [] schedule) (λ w. IsBySource v o w schedule) → IsScheduledPiece memory_answer h v schedule o (only o)
  piece-for start read None plain full = plain-piece start plain full
  piece-for start read (Some w) source by = source-piece read w source by

-- each piece explains its operation
pub sources-explain : (h : MemoryHistory) → Fits h → ¬ HasOverwrittenStart h → ¬ HasOverwrittenRead h
    → (c : Certificate) → IsBySources h c → IsExplainedThroughout memory_answer h c
sources-explain h fits start read (Cc v schedules) by = λ o is_op.
    let scheduled = by.each o is_op in
    piece-for h fits v by.order o is_op (list_of schedules o) start read scheduled.source scheduled.is_source scheduled.walk
sources-explain h fits start read (Cm v schedules) by = absurd by
sources-explain h fits start read (Ccv v arbitration) by = absurd by

-- Where happened-before relations show nothing bad, each piece of a certificate by turns explains what is before its operation
-- in program order.
use Rattle.std.proofs.Common.{◌≡◌, ℕ, ◌+◌, ◌<◌, ◌≤◌, List, inr, sym, subst, subst₂, arith, ⊎_elim}
use Rattle.std.specs.Prelude.{◌≢◌, IsTrue}
use Rattle.std.proofs.lemmas.Bool.{cases_eq, cases_lt}
use Rattle.model_history.specs.declared.op_id.OpId.{OpId}
use Rattle.model_history.specs.History.{IsOp}
use Rattle.order_memory.proofs.HappenedBeforeLaws.{program_past-parts, HB-read}
use Rattle.order_memory.proofs.MemoryLaws.{same_read}
use Rattle.order_memory.proofs.ReadAnswers.{Fits, AnswersBehind, answers-source, answers-start}
use Rattle.order_causal.proofs.PathsLaws.{leads-edge}
use Rattle.order_memory.proofs.SourcesExist.{read-source}
use Rattle.order_memory.proofs.SourceVectors.{order-vector_ok}
use Rattle.order_memory.specs.HappenedBeforePatterns.{HasHBCycle, HasStartOverwrittenInHB}
use Rattle.order_memory.specs.HappenedBeforeVectors.{IsHBVectors}
use Rattle.order_memory.specs.Memory.{MemoryHistory, memory_answer, initial, IsDifferentiated, Writes, Reads}
use Rattle.order_causal.specs.Orders.{program_past, StandsAt}
use Rattle.order_memory.specs.Relations.{IsEdge, ReadsFrom, HB}
use Rattle.order_memory.specs.SourceOrder.{CountsSourceOrder}
use Rattle.order_causal.specs.Vectors.{Counts, list_of}
use Rattle.cert_check.specs.declared.certificate.Certificate.{Certificate}
use Rattle.cert_check.specs.declared.certificate.Certificate.TheVariants.{Cc, Cm, Ccv}
use Rattle.cert_check.specs.Certificates.{IsScheduledPiece, IsExplainedThroughout}
use Rattle.cert_check.specs.Schedules.{named, StandsBefore}
use Rattle.cert_check.proofs.Named.{named_once}
use Rattle.cert_make.proofs.ReadPieces.{explains-reads}
use Rattle.cert_make_cm.specs.ByTurns.{IsByTurns}
use Rattle.cert_make_cm.specs.Turns.{AreTurns}
use Rattle.cert_make_cm.proofs.TurnPieces.{happened-stands, stands-happened, causal-stands, turns-schedule}

module _ (h : MemoryHistory) (fits : Fits h) (v : Counts) (order : CountsSourceOrder h v) (distinct : IsDifferentiated h)
    (o : OpId) (is_op : IsOp h o) (now : Counts) (happened : IsHBVectors h o now) (acyclic : (a : OpId) → ¬ HB h o a a)
    (schedule : List ℕ) (turns : AreTurns now o.session (o.index + 1) schedule) where
  module _ (k : ℕ) (r : OpId) (x u : ℕ) (stands : StandsAt (named schedule) k r) (inside : IsTrue (program_past o r))
      (reads : Reads h r x u) where
    -- what stands before a read that is the operation or before it in its session is before it in the relation
    before-read : (i : ℕ) (b : OpId) → i < k → StandsAt (named schedule) i b → HB h o b r
    before-read i b below at =
        stands-happened h v order distinct o is_op now happened acyclic schedule turns k b r stands
        (program_past-parts o r inside).0 (i, below, at)

    module _ (w : OpId) (from : ReadsFrom h w r) where
      wrote : Writes h w x u
      wrote =
          let same = same_read h r x u from.0 from.1 reads from.3 in
          subst₂ (λ (y t : ℕ). Writes h w y t) (sym same.0) (sym same.1) from.2

      source-stands : StandsBefore (named schedule) k w
      source-stands = causal-stands h v order distinct o is_op now happened acyclic schedule turns k w r stands
          (leads-edge (IsEdge h) w r (inr from))

      -- no other write of the variable stands between its source and the read
      none_between : (p i : ℕ) (b : OpId) (t : ℕ) → StandsAt (named schedule) p w → i < k → StandsAt (named schedule) i b
          → Writes h b x t → ¬ (p < i)
      none_between p i b t at_w below at writes behind =
          let other : b ≢ w = λ same.
          let place = named_once schedule p i w at_w (subst (λ (a : OpId). StandsAt (named schedule) i a) same at) in
          omega arith in
          let before = HB-read h o b w r (other, (x, t, u, writes, wrote)) from inside (before-read i b below at) in
          let there = happened-stands h v order distinct o is_op now happened acyclic schedule turns p b w at_w before in
          let place = named_once schedule there.0 i b there.2 at in
          let earlier = there.1 in
          omega arith

      source-answers : AnswersBehind h (named schedule) k x u
      source-answers =
          let there = source-stands in
          answers-source h (named schedule) k there.0 w x u wrote there.2 there.1
          (λ i b t below at writes. ⊎_elim
          (λ (behind : there.0 < i). absurd (none_between there.0 i b t there.2 below at writes behind))
          (λ (up_to : i ≤ there.0). up_to)
          (cases_lt there.0 i))

    -- the read is answered what it returned
    read-answers : ((w : OpId) (t : ℕ) → Writes h w x t → u ≡ initial h x → ¬ HB h o w r) → AnswersBehind h (named schedule) k x u
    read-answers start = ⊎_elim
        (λ (plain : u ≡ initial h x).
        subst (λ (n : ℕ). AnswersBehind h (named schedule) k x n) (sym plain)
        (answers-start h (named schedule) k x (λ i b t below at writes. start b t writes plain (before-read i b below at))))
        (λ (apart : u ≢ initial h x).
        let source = read-source h order.sources r x u reads apart in
        source-answers source.0 source.1.0)
        (cases_eq u (initial h x))

  -- the piece of the operation explains what is before it in program order
  pub turns-piece : ((w r : OpId) (x t : ℕ) → Writes h w x t → Reads h r x (initial h x) → IsTrue (program_past o r) → ¬ HB h o w r)
      → IsScheduledPiece memory_answer h v schedule o (program_past o)
  turns-piece start = record {
    vector = order-vector_ok h v order o is_op;
    schedules = turns-schedule h v order distinct o is_op now happened acyclic schedule turns;
    explains = explains-reads h (named schedule) fits (program_past o) (λ k r x u stands inside reads.
        read-answers k r x u stands inside reads (λ w t writes plain.
        start w r x t writes (subst (λ (n : ℕ). Reads h r x n) plain reads) inside));
  }

-- each piece explains its operation
pub turns-explain : (h : MemoryHistory) → Fits h → IsDifferentiated h → ¬ HasHBCycle h → ¬ HasStartOverwrittenInHB h
    → (c : Certificate) → IsByTurns h c → IsExplainedThroughout memory_answer h c
turns-explain h fits distinct cycle start (Cc v schedules) by = absurd by
turns-explain h fits distinct cycle start (Cm v schedules) by = λ o is_op.
    let scheduled = by.each o is_op in
    turns-piece h fits v by.order distinct o is_op scheduled.vectors scheduled.happened (λ a before. cycle (o, a, before))
    (list_of schedules o) scheduled.turns
    (λ w r x t writes reads inside before. start (o, w, r, x, t, writes, reads, inside, before))
turns-explain h fits distinct cycle start (Ccv v arbitration) by = absurd by

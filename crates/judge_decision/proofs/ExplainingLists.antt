-- Where a list of the past of a session's last operation explains the session's known returns, it does so cut to the past of each
-- operation of the session.
use Rattle.std.proofs.Common.{◌≡◌, ℕ, ◌-◌, ◌<◌, ◌≤◌, List, take, length, inr, ⊎_elim, sym, ap, refl, subst, ◌∙◌, arith, eq-or-lt_of_le, lt_of_not-le}
use Rattle.std.specs.Prelude.{IsTrue, filter, slice_get}
use Rattle.std.proofs.lemmas.Bool.{cases_lt}
use Rattle.std.proofs.lemmas.Option.{same_Some}
use Rattle.model_objects.specs.declared.register.RegisterCall.TheVariants.{Read}
use Rattle.model_objects.specs.declared.register.RegisterRet.TheVariants.{Value}
use Rattle.model_history.specs.declared.op_id.OpId.{OpId}
use Rattle.model_history.specs.History.{IsOp, session}
use Rattle.order_causal.specs.Orders.{Order, op, past, program_past, StandsAt, IsLinearization}
use Rattle.order_causal.specs.Vectors.{Counts, count, IsCounted, IsVectorOk}
use Rattle.order_causal.proofs.Fronts.{take-from, take-stands}
use Rattle.order_causal.proofs.OrdersLaws.{session-of_history}
use Rattle.order_causal.proofs.PathsLaws.{leads-edge}
use Rattle.order_memory.specs.Memory.{MemoryCall, MemoryHistory, memory_answer, initial, IsDifferentiated, Writes, Reads}
use Rattle.order_memory.specs.Relations.{ReadsFrom}
use Rattle.order_memory.specs.SourceOrder.{CountsSourceOrder, IsSourceEdge}
use Rattle.order_memory.proofs.FirstWrites.{distinct-source}
use Rattle.order_memory.proofs.HappenedBeforeLaws.{program_past-parts, program_past-from, program_past-earlier}
use Rattle.order_memory.proofs.LastWrites.{IsUnwritten, IsLastWrite, answer-cases}
use Rattle.order_memory.proofs.MemoryLaws.{write-or_read, read-of_history}
use Rattle.order_memory.proofs.ReadAnswers.{Fits, AnswersBehind, answers-source, answers-start}
use Rattle.order_memory.proofs.SourceVectors.{order-vector_ok, counts-before, counted-counted, counted-within, own-count}
use Rattle.cert_check.specs.Criteria.{Explains, IsCausalMemory}
use Rattle.cert_check.specs.Witnesses.{counted_before}
use Rattle.cert_check.proofs.ConvergentLaws.{cut_to_past}
use Rattle.cert_check.proofs.FilteredLaws.{filter_from, filter_keeps, filter_in_order}
use Rattle.cert_check.proofs.Pasts.{counted_before-causal, counted-from_past, past-from_counted}
use Rattle.cert_make.proofs.ReadPieces.{explains-reads}
use Rattle.judge_decision.specs.Steps.ExplainingLists.{IsExplainingList, IsListedSession}

module _ (h : MemoryHistory) (fits : Fits h) (distinct : IsDifferentiated h) (v : Counts) (order : CountsSourceOrder h v) where
  good : (o : OpId) → IsOp h o → IsVectorOk h v o
  good = order-vector_ok h v order

  abbrev co : Order
  co = counted_before h v

  module _ (o a : OpId) (is_op : IsOp h o) (earlier : IsTrue (program_past o a)) (ops : List OpId) (list : IsExplainingList h v o ops) where
    -- those of the list's operations that are in the past of a
    abbrev cut : List OpId
    cut = filter (past co a) ops

    earlier-op : IsOp h a
    earlier-op =
        let parts = program_past-parts o a earlier in
        let long : length (session h a.session) ≡ length (session h o.session) = ap (λ (s : ℕ). length (session h s)) parts.0 in
        let up_to = parts.1 in
        omega arith

    past-within : (b : OpId) → IsTrue (past co a b) → IsTrue (past co o b)
    past-within b inside =
        let parts = program_past-parts o a earlier in
        let up_to = parts.1 in
        let own = own-count h v order o is_op in
        let itself : count v o a.session ≡ count v o o.session = ap (count v o) parts.0 in
        let counts = counted-from_past h v good a b earlier-op inside in
        let more = counted-within h v order o a is_op (omega arith) b.session in
        past-from_counted h v good o b is_op (omega arith)

    cut-linear : IsLinearization (past co a) co cut
    cut-linear = cut_to_past h co (counted_before-causal h v good) (past co o) ops list.linear a past-within

    module _ (k : ℕ) (r : OpId) (x u : ℕ) (stands : StandsAt cut k r) (inside : IsTrue (program_past a r)) (reads : Reads h r x u) where
      -- where the read stands in the whole list, and what stands before it
      there : (j : ℕ) × StandsAt ops j r × IsTrue (past co a r)
      there = filter_from (past co a) ops k r stands

      before : (i : ℕ) (b : OpId) → i < k → StandsAt cut i b → (j : ℕ) × (j < there.0) × StandsAt ops j b
      before i b below at =
          let both = filter_in_order (past co a) ops i k b r below at stands in
          let same : both.1 ≡ there.0 = list.linear.once both.1 there.0 r both.4 there.1 in
          let less = both.2 in
          (both.0, omega arith, both.3)

      -- where no write of the variable stands before it, none does in the cut list
      start-answers : IsUnwritten h x (take there.0 ops) → AnswersBehind h cut k x (initial h x)
      start-answers none = answers-start h cut k x (λ i b t below at writes.
          let p = before i b below at in
          none p.0 b t (take-stands there.0 ops p.0 b p.1 p.2) writes)

      -- the last write before it is its source, so it is in the past and stays the last one
      module _ (w : OpId) (last : IsLastWrite h x (take there.0 ops) w u) where
        place : (last.place < there.0) × StandsAt ops last.place w
        place = take-from there.0 ops last.place w last.stands

        from : ReadsFrom h w r
        from = (x, u, last.writes, reads, distinct.not_initial w x u last.writes)

        source-inside : IsTrue (past co a w)
        source-inside =
            let counted : IsCounted v r w =
            counts-before h v order r w (read-of_history h r x u reads)
            (leads-edge (IsSourceEdge h) w r (inr (distinct-source h distinct w r from))) in
            let of_read : IsCounted v a r = counted-from_past h v good a r earlier-op there.2 in
            past-from_counted h v good a w earlier-op (counted-counted h v order a r w earlier-op of_read counted)

        kept : (i : ℕ) × StandsAt cut i w
        kept = filter_keeps (past co a) ops last.place w place.1 source-inside

        kept-before : kept.0 < k
        kept-before = lt_of_not-le (λ above. ⊎_elim
            (λ (same : k ≡ kept.0).
            write-or_read h w r x u x u last.writes reads (same_Some w r (sym kept.1 ∙ ap (slice_get cut) (sym same) ∙ stands)))
            (λ (behind : k < kept.0).
            let both = filter_in_order (past co a) ops k kept.0 r w behind stands kept.1 in
            let first : both.0 ≡ there.0 = list.linear.once both.0 there.0 r both.3 there.1 in
            let second : both.1 ≡ last.place = list.linear.once both.1 last.place w both.4 place.1 in
            let less = both.2 in
            let before_read = place.0 in
            omega arith)
            (eq-or-lt_of_le above))

        none-behind : (i : ℕ) (b : OpId) (t : ℕ) → i < k → StandsAt cut i b → Writes h b x t → i ≤ kept.0
        none-behind i b t below at writes = ⊎_elim
            (λ (behind : kept.0 < i).
            let both = filter_in_order (past co a) ops kept.0 i w b behind kept.1 at in
            let p = before i b below at in
            let first : both.0 ≡ last.place = list.linear.once both.0 last.place w both.3 place.1 in
            let second : both.1 ≡ p.0 = list.linear.once both.1 p.0 b both.4 p.2 in
            let up_to = last.last p.0 b t (take-stands there.0 ops p.0 b p.1 p.2) writes in
            let less = both.2 in
            absurd (omega arith))
            (λ (up_to : i ≤ kept.0). up_to)
            (cases_lt kept.0 i)

        source-answers : AnswersBehind h cut k x u
        source-answers = answers-source h cut k kept.0 w x u last.writes kept.1 kept-before none-behind

      read-answers : AnswersBehind h cut k x u
      read-answers =
          let call : MemoryCall = record { key = x; call = Read } in
          let answer = list.explains there.0 r call (Value u) there.1 (program_past-earlier o a r earlier inside) reads in
          ⊎_elim
          (λ (none : IsUnwritten h x (take there.0 ops) × (u ≡ initial h x)).
          subst (λ (n : ℕ). AnswersBehind h cut k x n) (sym none.1) (start-answers none.0))
          (λ (some : (w : OpId) × IsLastWrite h x (take there.0 ops) w u). source-answers some.0 some.1)
          (answer-cases h x (take there.0 ops) u answer)

    cut-explains : Explains memory_answer h cut (program_past a)
    cut-explains = explains-reads h cut fits (program_past a) read-answers

  -- so where each session has such a list, the history meets causal memory
  pub lists-meet : ((s : ℕ) → s < length h.1 → IsListedSession h v s) → IsCausalMemory memory_answer h
  lists-meet listed = (
    co,
    counted_before-causal h v good,
    λ a is_op.
        let i : ℕ = length (session h a.session) - 1 in
        let found = listed a.session (session-of_history h a is_op) i (omega arith) in
        let last : IsOp h (op a.session i) = omega arith in
        let earlier = program_past-from (op a.session i) a refl (omega arith) in (
          filter (past co a) found.0,
          cut-linear (op a.session i) a last earlier found.0 found.1,
          cut-explains (op a.session i) a last earlier found.0 found.1,
        ),
  )

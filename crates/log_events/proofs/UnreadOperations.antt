-- What a history meets it meets without an operation whose value no known read returns.
use Rattle.std.proofs.Common.{◌≡◌, ℕ, List, refl, ap, sym, ◌∙◌, ⊎_elim, arith}
use Rattle.std.specs.Prelude.{IsTrue, Some, filter, option_map}
use Rattle.std.proofs.lemmas.Option.{same_Some}
use Rattle.model_objects.specs.declared.register.RegisterCall.{RegisterCall}
use Rattle.model_objects.specs.declared.register.RegisterCall.TheVariants.{Write, Read}
use Rattle.model_objects.specs.declared.register.RegisterRet.TheVariants.{Value}
use Rattle.model_objects.specs.Register.{last_written, answer as register_answer}
use Rattle.model_objects.specs.Keyed.{calls_at}
use Rattle.model_history.specs.declared.op_id.OpId.{OpId}
use Rattle.model_history.specs.History.{calls, entry}
use Rattle.order_causal.specs.Orders.{Ops}
use Rattle.order_memory.specs.Memory.{MemoryHistory, memory_answer, initial, Reads, Writes}
use Rattle.order_memory.proofs.LastWrites.{IsUnwritten, IsLastWrite, answer-cases, last_write-answers, unwritten-answers}
use Rattle.cert_check.specs.declared.criterion.Criterion.{Criterion}
use Rattle.cert_check.specs.Criteria.{Meets}
use Rattle.cert_check.proofs.CutSteps.{filter_stands}
use Rattle.cert_subhistories.proofs.Cuts.{KeepsAnswers, meets-cut}
use Rattle.cert_subhistories.proofs.KeptLists.{passing_before, passing_before-le, filter_place}
use Rattle.log_events.specs.Histories.{Operation}
use Rattle.log_events.specs.Insertions.{IsInserted, IsUnread}
use Rattle.log_events.proofs.InsertedOperations.{is_other, new_place, old_place, is_other-from, entry-inserted, inserted-embedded}

module _ (h : MemoryHistory) (kept : Ops) where
  -- with each known read what it may have read is kept
  abbrev pub KeepsWrites : Type 0
  KeepsWrites = (w r : OpId) (x v : ℕ) → Writes h w x v → Reads h r x v → IsTrue (kept r) → IsTrue (kept w)

  kept-unwritten : (x : ℕ) (ops : List OpId) → IsUnwritten h x ops → IsUnwritten h x (filter kept ops)
  kept-unwritten x ops unwritten k a u at = let r = filter_place kept ops k a at in unwritten r.0 a u r.1

  kept-last_write : (x : ℕ) (ops : List OpId) (w : OpId) (v : ℕ) → IsTrue (kept w) → IsLastWrite h x ops w v → IsLastWrite h x (filter kept ops) w v
  kept-last_write x ops w v holds last = record {
    place = passing_before kept ops last.place;
    stands = filter_stands kept ops last.place w last.stands holds;
    writes = last.writes;
    last = λ k a u at wrote.
        let r = filter_place kept ops k a at in
        let below = passing_before-le kept ops r.0 last.place (last.last r.0 a u r.1 wrote) in
        let many = r.4 in
        omega arith;
  }

  kept-read : KeepsWrites → (ops : List OpId) (o : OpId) (x v : ℕ) → IsTrue (kept o) → Reads h o x v
      → Value v ≡ memory_answer h.0 (calls h ops) (record { key = x; call = Read })
      → Value v ≡ memory_answer h.0 (calls h (filter kept ops)) (record { key = x; call = Read })
  kept-read keeps ops o x v holds reads answered = ⊎_elim
      (λ (none : IsUnwritten h x ops × (v ≡ initial h x)).
      ap Value none.1 ∙ unwritten-answers h x (filter kept ops) (kept-unwritten x ops none.0))
      (λ (some : (w : OpId) × IsLastWrite h x ops w v).
      let source = keeps some.0 o x v some.1.writes reads holds in
      last_write-answers h x (filter kept ops) some.0 v (kept-last_write x ops some.0 v source some.1))
      (answer-cases h x ops v answered)

  pub writes-keep_answers : KeepsWrites → KeepsAnswers memory_answer h kept
  writes-keep_answers keeps ops o c r holds is answered =
      elim c.call as (λ (call : RegisterCall). c.call ≡ call
      → r ≡ register_answer (initial h c.key) (calls_at c.key (calls h ops)) call
      → r ≡ register_answer (initial h c.key) (calls_at c.key (calls h (filter kept ops))) call) [
        | Write u ↦ λ _ done. done
        | Read ↦ λ read value.
            let v = last_written (initial h c.key) (calls_at c.key (calls h ops)) in
            let reads : Reads h o c.key v = is ∙ (λ i. Some (record { key = c.key; call = read i }, Some (value i))) in
            value ∙ kept-read keeps ops o c.key v holds reads refl
      ] refl answered

module _ (h whole : MemoryHistory) (s i : ℕ) (e : Operation) (more : IsInserted h whole s i e) (unread : IsUnread whole e) where
  keeps-others : KeepsWrites whole (is_other s i)
  keeps-others w r x v writes reads _ = is_other-from s i w (λ same.
      let here : option_map (λ (d : Operation). d.0) (Some e) ≡ Some (record { key = x; call = Write v }) =
      ap (option_map (λ (d : Operation). d.0)) (sym (entry-inserted h whole s i e more) ∙ ap (entry whole) (sym same)) ∙ writes in
      unread r x v reads (same_Some _ _ here))

  pub unread-left_out : (criterion : Criterion) → Meets memory_answer whole criterion → Meets memory_answer h criterion
  unread-left_out = meets-cut memory_answer whole h (is_other s i) (new_place s i) (old_place s i) (inserted-embedded h whole s i e more)
      (writes-keep_answers whole (is_other s i) keeps-others)

-- The part of a memory history of distinct values that keeps the sources of its reads meets what the whole meets.
use Rattle.std.proofs.Common.{◌≡◌, ℕ, Bool, List, refl, ap, ◌∙◌, ⊎_elim, arith}
use Rattle.std.specs.Prelude.{IsTrue, Some, filter}
use Rattle.model_objects.specs.declared.register.RegisterCall.{RegisterCall}
use Rattle.model_objects.specs.declared.register.RegisterCall.TheVariants.{Write, Read}
use Rattle.model_objects.specs.declared.register.RegisterRet.TheVariants.{Value}
use Rattle.model_objects.specs.Register.{last_written, answer as register_answer}
use Rattle.model_objects.specs.Keyed.{calls_at}
use Rattle.model_history.specs.declared.op_id.OpId.{OpId}
use Rattle.model_history.specs.History.{calls}
use Rattle.order_memory.specs.Memory.{MemoryCall, MemoryHistory, memory_answer, initial, Reads, IsDifferentiated}
use Rattle.order_memory.proofs.LastWrites.{IsUnwritten, IsLastWrite, answer-cases, last_write-answers, unwritten-answers}
use Rattle.cert_check.specs.declared.criterion.Criterion.{Criterion}
use Rattle.cert_check.specs.Criteria.{Meets}
use Rattle.cert_check.proofs.CutSteps.{filter_stands}
use Rattle.cert_subhistories.specs.Parts.{part_by, kept_of}
use Rattle.cert_subhistories.specs.Sources.{KeepsSources}
use Rattle.cert_subhistories.proofs.Cuts.{KeepsAnswers}
use Rattle.cert_subhistories.proofs.KeptLists.{passing_before, passing_before-le, filter_place}
use Rattle.cert_subhistories.proofs.PartEmbeddings.{meets-part}

module _ (h : MemoryHistory) (kept : OpId → Bool) where
  -- a variable that a list doesn't write isn't written by what is kept of it
  kept-unwritten : (x : ℕ) (ops : List OpId) → IsUnwritten h x ops → IsUnwritten h x (filter kept ops)
  kept-unwritten x ops unwritten k a u at = let r = filter_place kept ops k a at in unwritten r.0 a u r.1

  -- the last write of a list, where it is kept, is the last write of what is kept
  kept-last_write : (x : ℕ) (ops : List OpId) (w : OpId) (v : ℕ) → IsTrue (kept w) → IsLastWrite h x ops w v → IsLastWrite h x (filter kept ops) w v
  kept-last_write x ops w v holds last = record {
    place = passing_before kept ops last.place;
    stands = filter_stands kept ops last.place w last.stands holds;
    writes = last.writes;
    last = λ k a u at wrote.
        let r = filter_place kept ops k a at in
        let below = passing_before-le kept ops r.0 last.place (last.last r.0 a u r.1 wrote) in
        let many = r.4 in
        omega arith;
  }

module _ (h : MemoryHistory) (kept : OpId → MemoryCall → Bool) (distinct : IsDifferentiated h) (keeps : KeepsSources kept h) where
  -- what a known read that is kept returned is what is read after the operations that are kept
  kept-read : (ops : List OpId) (o : OpId) (x v : ℕ) → IsTrue (kept_of kept h o) → Reads h o x v
      → Value v ≡ memory_answer h.0 (calls h ops) (record { key = x; call = Read })
      → Value v ≡ memory_answer h.0 (calls h (filter (kept_of kept h) ops)) (record { key = x; call = Read })
  kept-read ops o x v holds reads answered = ⊎_elim
      (λ (none : IsUnwritten h x ops × (v ≡ initial h x)).
      ap Value none.1 ∙ unwritten-answers h x (filter (kept_of kept h) ops) (kept-unwritten h (kept_of kept h) x ops none.0))
      (λ (some : (w : OpId) × IsLastWrite h x ops w v).
      let source = keeps some.0 o (x, v, some.1.writes, reads, distinct.not_initial some.0 x v some.1.writes) holds in
      last_write-answers h x (filter (kept_of kept h) ops) some.0 v (kept-last_write h (kept_of kept h) x ops some.0 v source some.1))
      (answer-cases h x ops v answered)

  sources-keep_answers : KeepsAnswers memory_answer h (kept_of kept h)
  sources-keep_answers ops o c r holds is answered =
      elim c.call as (λ (call : RegisterCall). c.call ≡ call
      → r ≡ register_answer (initial h c.key) (calls_at c.key (calls h ops)) call
      → r ≡ register_answer (initial h c.key) (calls_at c.key (calls h (filter (kept_of kept h) ops))) call) [
        | Write u ↦ λ _ done. done
        | Read ↦ λ read value.
            let v = last_written (initial h c.key) (calls_at c.key (calls h ops)) in
            let reads : Reads h o c.key v = is ∙ (λ i. Some (record { key = c.key; call = read i }, Some (value i))) in
            value ∙ kept-read ops o c.key v holds reads refl
      ] refl answered

  -- the part meets what the whole meets
  pub part_with_sources-meets : (criterion : Criterion) → Meets memory_answer h criterion → Meets memory_answer (part_by kept h) criterion
  part_with_sources-meets = meets-part memory_answer kept h sources-keep_answers

-- What a history meets, it meets with a harmless operation more.
use Rattle.std.proofs.Common.{◌≡◌, ℕ, ◌<◌, ◌≤◌, Bool, true, false, cond, List, [], ◌∷◌, ◌++◌, length, map, refl, ap, sym, subst, ◌∙◌, inl, inr, ⊎_elim, arith}
use Rattle.std.specs.Prelude.{◌≢◌, ◌&&◌, IsTrue, Option, filter}
use Rattle.std.proofs.lemmas.Bool.{and_from, and_parts, both_ways, cases_lt}
use Rattle.model_history.specs.declared.op_id.OpId.{OpId}
use Rattle.model_history.specs.History.{IsOp, session}
use Rattle.order_causal.specs.Orders.{Ops, Order, only, past, op, IsLinearization}
use Rattle.order_causal.proofs.Items.{cases-op}
use Rattle.order_memory.specs.Memory.{MemoryHistory, memory_answer}
use Rattle.cert_check.specs.declared.criterion.Criterion.{Criterion}
use Rattle.cert_check.specs.declared.criterion.Criterion.TheVariants.{Cc, Cm, Ccv}
use Rattle.cert_check.specs.Criteria.{every, IsCausalOrder, Explains, IsCausallyConvergent, Meets}
use Rattle.cert_check.proofs.ConvergentLaws.{only-same, cut_is_linearization}
use Rattle.cert_check.proofs.Pasts.{every-op, op-every}
use Rattle.cert_subhistories.proofs.Embeddings.{cut}
use Rattle.log_events.specs.Histories.{Operation}
use Rattle.log_events.specs.Insertions.{IsInserted}
use Rattle.log_events.proofs.InsertedOperations.{new_place, old_place, is_other, is_other-inserted, is_other-from, is_other-apart, is_other-new_place, each-place, new_place-apart, new_place-old_place, new_place-op, inserted-op}
use Rattle.log_events.proofs.InsertedPlaces.{with_inserted, cut-with_inserted}
use Rattle.log_events.proofs.InsertedOrders.{IsSourceOfInserted, whole_order, is_after-parts, new_old-from, new_new-none, new_place-is_op, order-causal, inserted-linear}
use Rattle.log_events.proofs.InsertedAnswers.{inserted-explains}
use Rattle.log_events.proofs.InsertedPasts.{IsHarmless, cut-pushed_inserted, pushed-linear, old_past-from, old_past-to, new-after, new-right, only-shown, consistent-inserted, memory-inserted}

-- two tests that answer yes together are one
same_tests : (a b : Bool) → (IsTrue a → IsTrue b) → (IsTrue b → IsTrue a) → a ≡ b
same_tests true b to from = sym (to refl)
same_tests false true to from = from refl
same_tests false false to from = refl

-- what passes two tests that agree, cut to the shorter history
cut-filter : (s i : ℕ) (set whole_set : Ops) → ((a : OpId) → whole_set (new_place s i a) ≡ set a) → (ops : List OpId)
    → cut (is_other s i) (old_place s i) (filter whole_set ops) ≡ filter set (cut (is_other s i) (old_place s i) ops)
cut-filter s i set whole_set alike [] = refl
cut-filter s i set whole_set alike (b ∷ ops) =
    let rest = cut-filter s i set whole_set alike ops in
    elim (is_other s i b) as (λ t. is_other s i b ≡ t → map (old_place s i) (filter (is_other s i) (cond (whole_set b) (b ∷ filter whole_set ops) (filter whole_set ops)))
    ≡ filter set (map (old_place s i) (cond t (b ∷ filter (is_other s i) ops) (filter (is_other s i) ops)))) [
      | true ↦ λ holds.
          let one : set (old_place s i b) ≡ whole_set b = sym (alike (old_place s i b)) ∙ ap whole_set (new_place-old_place s i b (is_other-apart s i b holds)) in
          elim (whole_set b) as (λ u. whole_set b ≡ u → map (old_place s i) (filter (is_other s i) (cond u (b ∷ filter whole_set ops) (filter whole_set ops)))
          ≡ filter set (old_place s i b ∷ cut (is_other s i) (old_place s i) ops)) [
            | true ↦ λ among. rw (one ∙ among, holds) (ap (λ (l : List OpId). old_place s i b ∷ l) rest)
            | false ↦ λ out. rw (one ∙ out) rest
          ] refl
      | false ↦ λ fails. elim (whole_set b) as (λ u. map (old_place s i) (filter (is_other s i) (cond u (b ∷ filter whole_set ops) (filter whole_set ops)))
          ≡ filter set (cut (is_other s i) (old_place s i) ops)) [
            | true ↦ rw fails rest
            | false ↦ rest
          ]
    ] refl

module _ (h whole : MemoryHistory) (s i : ℕ) (e : Operation) (more : IsInserted h whole s i e) (from : Option OpId) (source : IsSourceOfInserted h s i from)
    (harmless : IsHarmless h whole s i e from) where
  module _ (co : Order) (arb : List OpId) (causal : IsCausalOrder h co) (linear : IsLinearization (every h) co arb)
      (each : (o : OpId) → IsOp h o → Explains memory_answer h (filter (past co o) arb) (only o)) where
    abbrev order : Order
    order = whole_order h s i from co

    abbrev IsWholeList : List OpId → Type 0
    IsWholeList ops = IsLinearization (every whole) order ops × (cut (is_other s i) (old_place s i) ops ≡ arb)

    inside-list : IsOp h (op s i) → IsWholeList (with_inserted s i arb)
    inside-list is_op = (
      inserted-linear h whole s i e more from source co causal (every h) (every whole) (every-op h)
          (λ a inside. op-every h a (new_place-is_op h whole s i e more from source co causal a (every-op whole (new_place s i a) inside)))
          (λ a inside. op-every whole (new_place s i a) (new_place-op h whole s i e more a (every-op h a inside)))
          (λ _. op-every h (op s i) is_op) (λ _. op-every whole (op s i) (inserted-op h whole s i e more)) arb linear,
      cut-with_inserted s i arb,
    )

    abbrev is_earlier : Ops
    is_earlier a = every whole a && is_other s i a

    outside-list : ¬ IsOp h (op s i) → IsWholeList (with_inserted s i arb ++ op s i ∷ [])
    outside-list outside = (
      pushed-linear order is_earlier (every whole) (op s i) (with_inserted s i arb)
          (inserted-linear h whole s i e more from source co causal (every h) is_earlier (every-op h)
          (λ a inside. let both = and_parts (every whole (new_place s i a)) (is_other s i (new_place s i a)) inside in
          op-every h a (new_place-is_op h whole s i e more from source co causal a (every-op whole (new_place s i a) both.0)))
          (λ a inside. and_from (every whole (new_place s i a)) (is_other s i (new_place s i a))
          (op-every whole (new_place s i a) (new_place-op h whole s i e more a (every-op h a inside))) (is_other-new_place s i a))
          (λ inside. absurd (both_ways (is_other s i (op s i)) (is_other-inserted s i) (and_parts (every whole (op s i)) (is_other s i (op s i)) inside).1))
          (λ inside. absurd (outside (every-op h (op s i) inside)))
          arb linear)
          (λ a inside. ⊎_elim
          (λ (same : a ≡ op s i). inl same)
          (λ (apart : a ≢ op s i). inr (and_from (every whole a) (is_other s i a) inside (is_other-from s i a apart)))
          (cases-op a (op s i)))
          (λ a inside. (and_parts (every whole a) (is_other s i a) inside).0)
          (op-every whole (op s i) (inserted-op h whole s i e more))
          (λ inside. both_ways (is_other s i (op s i)) (is_other-inserted s i) (and_parts (every whole (op s i)) (is_other s i (op s i)) inside).1)
          (λ a _. each-place s i (λ (b : OpId). ¬ IsTrue (order (op s i) b)) (new_new-none h whole s i e more from source co causal)
          (λ b before. outside (is_after-parts h whole s i e more from source co causal b (new_old-from h whole s i e more from source co causal b before)).0) a)
          (new_new-none h whole s i e more from source co causal),
      cut-pushed_inserted s i arb,
    )

    whole-list : (ops : List OpId) × IsWholeList ops
    whole-list = ⊎_elim
        (λ (inside : i < length (session h s)). (with_inserted s i arb, inside-list inside))
        (λ (outside : length (session h s) ≤ i). (with_inserted s i arb ++ op s i ∷ [], outside-list (λ inside. omega arith)))
        (cases_lt i (length (session h s)))

    past-same : (o a : OpId) → past order (new_place s i o) (new_place s i a) ≡ past co o a
    past-same o a = same_tests (past order (new_place s i o) (new_place s i a)) (past co o a)
        (old_past-from h whole s i e more from source harmless co causal o a) (old_past-to h whole s i e more from source harmless co causal o a)

    module _ (ops : List OpId) (all : IsLinearization (every whole) order ops) (cut_same : cut (is_other s i) (old_place s i) ops ≡ arb) where
      of_past : (o : OpId) → IsOp whole o → IsLinearization (past order o) order (filter (past order o) ops)
      of_past o is_op = cut_is_linearization whole order (order-causal h whole s i e more from source co causal) ops all o is_op

      new-explained : Explains memory_answer whole (filter (past order (op s i)) ops) (only (op s i))
      new-explained =
          inserted-explains h whole s i e more (filter (past order (op s i)) ops) (λ _. false) (only (op s i))
          (λ a same. absurd (new_place-apart s i a (only-same (op s i) (new_place s i a) same)))
          (λ j k a d at there below same is. absurd (new_place-apart s i a (only-same (op s i) (new_place s i a) same)))
          (λ k r at _ is. new-right h whole s i e more from source harmless co causal (filter (past order (op s i)) ops) (of_past (op s i) (inserted-op h whole s i e more)) k r at is)
          (λ k o c r at none is. absurd cc)

      old-explained : (o : OpId) → IsOp h o → Explains memory_answer whole (filter (past order (new_place s i o)) ops) (only (new_place s i o))
      old-explained o is_op =
          let same : cut (is_other s i) (old_place s i) (filter (past order (new_place s i o)) ops) ≡ filter (past co o) arb =
          cut-filter s i (past co o) (past order (new_place s i o)) (past-same o) ops ∙ ap (filter (past co o)) cut_same in
          inserted-explains h whole s i e more (filter (past order (new_place s i o)) ops) (only o) (only (new_place s i o))
          ((only-shown h whole s i e more from source harmless).old_shown o)
          (λ j k a d at there below kept_a is.
          let inside = (of_past (new_place s i o) (new_place-op h whole s i e more o is_op)).no_other j (op s i) at in
          let after = new-after h whole s i e more from source harmless co causal o inside in
          harmless.quiet (is_after-parts h whole s i e more from source co causal o after).0 a d is)
          (λ k r at itself is. absurd (new_place-apart s i o (sym (only-same (new_place s i o) (op s i) itself))))
          (subst (λ (l : List OpId). Explains memory_answer h l (only o)) (sym same) (each o is_op))

    converged : IsCausallyConvergent memory_answer whole
    converged =
        let found = whole-list in (
          order,
          found.0,
          order-causal h whole s i e more from source co causal,
          found.1.0,
          each-place s i (λ (o : OpId). IsOp whole o → Explains memory_answer whole (filter (past order o) found.0) (only o))
              (λ _. new-explained found.0 found.1.0 found.1.1)
              (λ o is_op. old-explained found.0 found.1.0 found.1.1 o (new_place-is_op h whole s i e more from source co causal o is_op)),
        )

  -- what the history meets, it meets with the operation
  pub inserted-meets : (criterion : Criterion) → Meets memory_answer h criterion → Meets memory_answer whole criterion
  inserted-meets Cc = consistent-inserted h whole s i e more from source harmless
  inserted-meets Cm = memory-inserted h whole s i e more from source harmless
  inserted-meets Ccv = λ met. converged met.0 met.1 met.2 met.3 met.4

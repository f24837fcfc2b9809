-- What a part meets: what the whole meets, where the known returns that are kept don't rest on calls that are left out.
use Rattle.std.proofs.Common.{◌≡◌, ◌<◌, Bool, true, false, cond, List, [], ◌∷◌, map, take, refl, ap, ap₂, sym, subst, ◌∙◌, ⊎_elim, arith, suc, eq-or-lt_of_le}
use Rattle.std.specs.Prelude.{IsTrue, Option, Some, option_map, filter}
use Rattle.std.specs.List.{cons_option}
use Rattle.model_history.specs.declared.op_id.OpId.{OpId}
use Rattle.model_history.specs.History.{HistoryValue, IsOp, entry, calls}
use Rattle.order_causal.specs.Orders.{Ops, Order, only, program_past, past}
use Rattle.order_causal.proofs.Fronts.{take-from}
use Rattle.order_causal.proofs.OrdersLaws.{same_op}
use Rattle.order_memory.proofs.HappenedBeforeLaws.{program_past-parts, program_past-from}
use Rattle.cert_check.specs.declared.criterion.Criterion.{Criterion}
use Rattle.cert_check.specs.declared.criterion.Criterion.TheVariants.{Cc, Cm, Ccv}
use Rattle.cert_check.specs.Criteria.{every, Explains, ExplainsEachPast, IsCausallyConvergent, Meets}
use Rattle.cert_check.proofs.ConvergentLaws.{only-same, past_of_history}
use Rattle.cert_check.proofs.FilteredLaws.{filter_from}
use Rattle.cert_check.proofs.Pasts.{only-itself, every-op, op-every}
use Rattle.cert_subhistories.proofs.Embeddings.{IsEmbedded, part_order, cut, AreOps, part_order-causal, past-of_part, past-in_part, cut_place, cut-is_linearization}

-- two tests that answer yes together are one
same_tests : (a b : Bool) → (IsTrue a → IsTrue b) → (IsTrue b → IsTrue a) → a ≡ b
same_tests true b to from = sym (to refl)
same_tests false true to from = from refl
same_tests false false to from = refl

module _ {S C R : Type 0} (answer : S → List C → C → R) (h : HistoryValue S C R) where
  -- a known return that is kept and is the answer after some operations is the answer after those of them that are kept
  abbrev pub KeepsAnswers : Ops → Type 0
  KeepsAnswers kept =
      (ops : List OpId) (o : OpId) (c : C) (r : R) → IsTrue (kept o) → entry h o ≡ Some (c, Some r)
      → r ≡ answer h.0 (calls h ops) c → r ≡ answer h.0 (calls h (filter kept ops)) c

module _ {S C R : Type 0} (answer : S → List C → C → R) (h part : HistoryValue S C R) (kept : Ops) (whole_of part_of : OpId → OpId)
    (embedded : IsEmbedded h part kept whole_of part_of) (keeps : KeepsAnswers answer h kept) where
  -- the calls of a list that is cut are those of its operations that are kept
  calls-cut : (ops : List OpId) → AreOps h ops → calls part (cut kept part_of ops) ≡ calls h (filter kept ops)
  calls-cut [] are_ops = refl
  calls-cut (b ∷ ops) are_ops =
      let rest = calls-cut ops (λ k a at. are_ops (suc k) a at) in
      elim (kept b) as (λ t. kept b ≡ t → calls part (map part_of (cond t (b ∷ filter kept ops) (filter kept ops))) ≡ calls h (cond t (b ∷ filter kept ops) (filter kept ops))) [
        | true ↦ λ holds.
            let is_op = are_ops 0 b refl in
            let same : entry part (part_of b) ≡ entry h b =
            sym (embedded.same_entry (part_of b) (embedded.in_part b is_op holds)) ∙ ap (entry h) (embedded.forth b is_op holds) in
            ap₂ (λ (e : Option (C × Option R)) (cs : List C). cons_option (option_map (λ (x : C × Option R). x.0) e) cs) same rest
        | false ↦ λ _. rest
      ] refl

  -- a list that explains known returns, cut to the part, explains those of the part
  cut-explains : (shown part_shown : Ops) (ops : List OpId) → AreOps h ops
      → ((a : OpId) → IsOp part a → IsTrue (part_shown a) → IsTrue (shown (whole_of a)))
      → Explains answer h ops shown → Explains answer part (cut kept part_of ops) part_shown
  cut-explains shown part_shown ops are_ops same_shown explains k o c r at among is =
      let place = cut_place h part kept whole_of part_of embedded ops are_ops k o at in
      let in_whole : entry h (whole_of o) ≡ Some (c, Some r) = embedded.same_entry o place.2 ∙ is in
      let answered = explains place.0 (whole_of o) c r place.1 (same_shown o place.2 among) in_whole in
      let still = keeps (take place.0 ops) (whole_of o) c r (embedded.is_kept o place.2) in_whole answered in
      let front : calls part (take k (cut kept part_of ops)) ≡ calls h (filter kept (take place.0 ops)) =
      ap (calls part) (sym place.3) ∙ calls-cut (take place.0 ops) (λ j a there. are_ops j a (take-from place.0 ops j a there).1) in
      still ∙ ap₂ (λ (s : S) (cs : List C). answer s cs c) (sym embedded.start) (sym front)

  -- what is shown of the past of an operation of the part is shown of that operation in the whole
  abbrev IsShownAlike : (OpId → Ops) → Type 0
  IsShownAlike shown = (o a : OpId) → IsOp part o → IsOp part a → IsTrue (shown o a) → IsTrue (shown (whole_of o) (whole_of a))

  each_past-cut : (shown : OpId → Ops) → IsShownAlike shown → ExplainsEachPast answer h shown → ExplainsEachPast answer part shown
  each_past-cut shown alike (co, causal, each) = (
    part_order part whole_of co,
    part_order-causal h part kept whole_of part_of embedded co causal,
    λ o is_op.
        let whole = each (whole_of o) (embedded.is_op o is_op) in
        let are_ops : AreOps h whole.0 = λ k a at. every-op h a (past_of_history h co causal (whole_of o) a (embedded.is_op o is_op) (whole.1.no_other k a at)) in (
          cut kept part_of whole.0,
          cut-is_linearization h part kept whole_of part_of embedded co (past co (whole_of o)) (past (part_order part whole_of co) o) whole.0 are_ops whole.1
              (λ a. past-of_part h part kept whole_of part_of embedded co o a is_op)
              (λ a inside. past-in_part h part kept whole_of part_of embedded co o a is_op inside),
          cut-explains (shown (whole_of o)) (shown o) whole.0 are_ops (λ a inside. alike o a is_op inside) whole.2,
        ),
  )

  only-alike : IsShownAlike only
  only-alike o a is_op inside alone =
      subst (λ (b : OpId). IsTrue (only (whole_of o) (whole_of b))) (sym (only-same o a alone)) (only-itself (whole_of o))

  program_past-alike : IsShownAlike program_past
  program_past-alike o a is_op inside before =
      let parts = program_past-parts o a before in
      ⊎_elim
      (λ (same : a.index ≡ o.index). let one : a ≡ o = same_op a o parts.0 same in
      subst (λ (b : OpId). IsTrue (program_past (whole_of o) (whole_of b))) (sym one) (program_past-from (whole_of o) (whole_of o) refl (omega arith)))
      (λ (below : a.index < o.index). let order = embedded.in_order a o is_op (parts.0, below) in
      let less = order.1 in
      program_past-from (whole_of o) (whole_of a) order.0 (omega arith))
      (eq-or-lt_of_le parts.1)

  -- a list cut to the part and then to a set is the list cut to the set in the whole and then to the part
  filter-cut : (set part_set : Ops) (ops : List OpId) → AreOps h ops
      → ((b : OpId) → IsOp h b → IsTrue (kept b) → part_set (part_of b) ≡ set b)
      → filter part_set (cut kept part_of ops) ≡ cut kept part_of (filter set ops)
  filter-cut set part_set [] are_ops same = refl
  filter-cut set part_set (b ∷ ops) are_ops same =
      let rest = filter-cut set part_set ops (λ k a at. are_ops (suc k) a at) same in
      elim (kept b) as (λ t. kept b ≡ t → filter part_set (map part_of (cond t (b ∷ filter kept ops) (filter kept ops)))
      ≡ map part_of (filter kept (cond (set b) (b ∷ filter set ops) (filter set ops)))) [
        | true ↦ λ holds. let one = same b (are_ops 0 b refl) holds in
            elim (set b) as (λ u. set b ≡ u → filter part_set (part_of b ∷ cut kept part_of ops) ≡ map part_of (filter kept (cond u (b ∷ filter set ops) (filter set ops)))) [
              | true ↦ λ among. rw (one ∙ among, holds) (ap (λ (xs : List OpId). part_of b ∷ xs) rest)
              | false ↦ λ out. rw (one ∙ out) rest
            ] refl
        | false ↦ λ fails. elim (set b) as (λ u. filter part_set (cut kept part_of ops) ≡ map part_of (filter kept (cond u (b ∷ filter set ops) (filter set ops)))) [
          | true ↦ rw fails rest
          | false ↦ rest
        ]
      ] refl

  past-alike : (co : Order) (o b : OpId) → IsOp part o → IsOp h b → IsTrue (kept b)
      → past (part_order part whole_of co) o (part_of b) ≡ past co (whole_of o) b
  past-alike co o b is_op in_whole holds = same_tests (past (part_order part whole_of co) o (part_of b)) (past co (whole_of o) b)
      (λ inside. subst (λ (c : OpId). IsTrue (past co (whole_of o) c)) (embedded.forth b in_whole holds)
      (past-of_part h part kept whole_of part_of embedded co o (part_of b) is_op inside).1)
      (λ inside. past-in_part h part kept whole_of part_of embedded co o (part_of b) is_op (embedded.in_part b in_whole holds)
      (subst (λ (c : OpId). IsTrue (past co (whole_of o) c)) (sym (embedded.forth b in_whole holds)) inside))

  converged-cut : IsCausallyConvergent answer h → IsCausallyConvergent answer part
  converged-cut (co, arb, causal, whole, explained) =
      let are_ops : AreOps h arb = λ k a at. every-op h a (whole.no_other k a at) in (
        part_order part whole_of co,
        cut kept part_of arb,
        part_order-causal h part kept whole_of part_of embedded co causal,
        cut-is_linearization h part kept whole_of part_of embedded co (every h) (every part) arb are_ops whole
            (λ a among. let inside = every-op part a among in (inside, op-every h (whole_of a) (embedded.is_op a inside)))
            (λ a inside _. op-every part a inside),
        λ o is_op. subst (λ (ops : List OpId). Explains answer part ops (only o))
            (sym (filter-cut (past co (whole_of o)) (past (part_order part whole_of co) o) arb are_ops (λ b. past-alike co o b is_op)))
            (cut-explains (only (whole_of o)) (only o) (filter (past co (whole_of o)) arb)
            (λ k a at. let r = filter_from (past co (whole_of o)) arb k a at in are_ops r.0 a r.1)
            (λ a inside. only-alike o a is_op inside)
            (explained (whole_of o) (embedded.is_op o is_op))),
      )

  -- the part meets each criterion that the whole meets
  pub meets-cut : (criterion : Criterion) → Meets answer h criterion → Meets answer part criterion
  meets-cut Cc = each_past-cut only only-alike
  meets-cut Cm = each_past-cut program_past program_past-alike
  meets-cut Ccv = converged-cut

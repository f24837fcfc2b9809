-- What lists of pasts explain, they explain with a harmless operation more: causal consistency and causal memory.
use Rattle.std.proofs.Common.{◌≡◌, ℕ, ◌+◌, ◌<◌, ◌≤◌, true, false, cond, List, [], ◌∷◌, ◌++◌, length, map, take, refl, ap, sym, subst, ◌∙◌, inl, inr, ⊎_elim, arith}
use Rattle.std.specs.Prelude.{◌⊎◌, IsTrue, Option, Some, None, filter}
use Rattle.std.proofs.lemmas.Bool.{cases_lt}
use Rattle.std.proofs.lemmas.Option.{same_Some, slice_get_within}
use Rattle.model_objects.specs.declared.register.RegisterRet.{RegisterRet}
use Rattle.model_history.specs.declared.op_id.OpId.{OpId}
use Rattle.model_history.specs.History.{IsOp, Precedes, entry, calls}
use Rattle.order_causal.specs.Orders.{Ops, Order, only, program_past, past, op, StandsAt, IsLinearization}
use Rattle.order_causal.proofs.OrdersLaws.{same_op}
use Rattle.order_causal.proofs.Fronts.{take-from, take-stands}
use Rattle.order_causal.proofs.WaitRoutes.{stands-cases, stands-left, stands-pushed}
use Rattle.order_memory.specs.Memory.{MemoryCall, MemoryHistory, memory_answer}
use Rattle.cert_check.specs.Criteria.{IsCausalOrder, Explains, ExplainsEachPast}
use Rattle.cert_check.proofs.ConvergentLaws.{only-same}
use Rattle.cert_check.proofs.Counting.{past-of_history}
use Rattle.cert_check.proofs.Pasts.{only-itself}
use Rattle.order_memory.proofs.HappenedBeforeLaws.{program_past-parts, program_past-from}
use Rattle.cert_subhistories.proofs.Embeddings.{cut}
use Rattle.log_events.specs.Histories.{Operation}
use Rattle.log_events.specs.Insertions.{IsInserted}
use Rattle.log_events.proofs.InsertedOperations.{new_place, old_place, is_other, is_other-inserted, each-place, new_place-cases, new_place-apart, new_place-order_back, old_place-new_place}
use Rattle.log_events.proofs.InsertedPlaces.{with_inserted, cut-with_inserted, inserted-next}
use Rattle.log_events.proofs.InsertedOrders.{IsSourceOfInserted, is_before, past-parts, past-from, is_before-parts, is_before-from, is_after, whole_order, is_after-parts, is_after-from, is_before-old, is_before-op, new_old-to, new_old-from, old_new-to, old_new-from, old_old-to, old_old-from, new_new-none, new_place-is_op, order-causal, order-transitive, inserted-linear}
use Rattle.log_events.proofs.InsertedAnswers.{IsSilent, inserted-explains}

-- the new operation disturbs nothing: where it comes before another operation, it is a read or no operation has its key, and its return
-- is right anywhere; and its return is right after what comes before it
pub record IsHarmless (h whole : MemoryHistory) (s i : ℕ) (e : Operation) (from : Option OpId) : Type 0 where
  pub quiet : IsOp h (op s i) → (a : OpId) (d : Operation) → entry h a ≡ Some d → IsSilent e d.0.key
  pub anywhere : IsOp h (op s i) → (r : RegisterRet) → e.1 ≡ Some r → (cs : List MemoryCall) → r ≡ memory_answer whole.0 cs e.0
  pub own : (r : RegisterRet) → e.1 ≡ Some r → (ops : List OpId)
      → ((q : OpId) → from ≡ Some q → (k : ℕ) × StandsAt ops k (new_place s i q))
      → ((j k : ℕ) (a : OpId) → StandsAt ops j a → StandsAt ops k a → j ≡ k)
      → r ≡ memory_answer whole.0 (calls whole ops) e.0

-- the new operation at the end of a list is cut off
cut-pushed : (s i : ℕ) (ops : List OpId) → cut (is_other s i) (old_place s i) (ops ++ op s i ∷ []) ≡ cut (is_other s i) (old_place s i) ops
cut-pushed s i [] = rw (is_other-inserted s i) refl
cut-pushed s i (b ∷ ops) =
    let rest = cut-pushed s i ops in
    elim (is_other s i b) as (λ t. map (old_place s i) (cond t (b ∷ filter (is_other s i) (ops ++ op s i ∷ [])) (filter (is_other s i) (ops ++ op s i ∷ [])))
    ≡ map (old_place s i) (cond t (b ∷ filter (is_other s i) ops) (filter (is_other s i) ops))) [
      | true ↦ ap (λ (l : List OpId). old_place s i b ∷ l) rest
      | false ↦ rest
    ]

pub cut-pushed_inserted : (s i : ℕ) (ops : List OpId) → cut (is_other s i) (old_place s i) (with_inserted s i ops ++ op s i ∷ []) ≡ ops
cut-pushed_inserted s i ops = cut-pushed s i (with_inserted s i ops) ∙ cut-with_inserted s i ops

-- a linearization with one operation more at its end
module _ (co : Order) (set more_set : Ops) (last : OpId) (ops : List OpId) (linear : IsLinearization set co ops)
    (to : (a : OpId) → IsTrue (more_set a) → (a ≡ last) ⊎ IsTrue (set a)) (from : (a : OpId) → IsTrue (set a) → IsTrue (more_set a))
    (itself : IsTrue (more_set last)) (new : ¬ IsTrue (set last)) (none_after : (a : OpId) → IsTrue (set a) → ¬ IsTrue (co last a))
    (straight : ¬ IsTrue (co last last)) where
  pub pushed-linear : IsLinearization more_set co (ops ++ last ∷ [])
  pushed-linear = record {
    each = λ a inside. ⊎_elim
        (λ (same : a ≡ last).
        (length ops, subst (λ (b : OpId). StandsAt (ops ++ last ∷ []) (length ops) b) (sym same) (stands-pushed ops last (length ops) refl)))
        (λ (earlier : IsTrue (set a)). let k = linear.each a earlier in (k.0, stands-left ops last k.0 a k.1))
        (to a inside);
    no_other = λ k a at. ⊎_elim
        (λ (earlier : StandsAt ops k a). from a (linear.no_other k a earlier))
        (λ (end : (k ≡ length ops) × (last ≡ a)). subst (λ (b : OpId). IsTrue (more_set b)) end.1 itself)
        (stands-cases ops last k a at);
    once = λ j k a first second. ⊎_elim
        (λ (earlier : StandsAt ops j a). ⊎_elim
        (λ (earlier2 : StandsAt ops k a). linear.once j k a earlier earlier2)
        (λ (end : (k ≡ length ops) × (last ≡ a)). absurd (new (subst (λ (b : OpId). IsTrue (set b)) (sym end.1) (linear.no_other j a earlier))))
        (stands-cases ops last k a second))
        (λ (end : (j ≡ length ops) × (last ≡ a)). ⊎_elim
        (λ (earlier2 : StandsAt ops k a). absurd (new (subst (λ (b : OpId). IsTrue (set b)) (sym end.1) (linear.no_other k a earlier2))))
        (λ (end2 : (k ≡ length ops) × (last ≡ a)). end.0 ∙ sym end2.0)
        (stands-cases ops last k a second))
        (stands-cases ops last j a first);
    ordered = λ j k a b first second before. ⊎_elim
        (λ (earlier : StandsAt ops j a). ⊎_elim
        (λ (earlier2 : StandsAt ops k b). linear.ordered j k a b earlier earlier2 before)
        (λ (end : (k ≡ length ops) × (last ≡ b)). let within = slice_get_within ops j a earlier in let size = end.0 in omega arith)
        (stands-cases ops last k b second))
        (λ (end : (j ≡ length ops) × (last ≡ a)). let again = subst (λ (c : OpId). IsTrue (co c b)) (sym end.1) before in ⊎_elim
        (λ (earlier2 : StandsAt ops k b). absurd (none_after b (linear.no_other k b earlier2) again))
        (λ (end2 : (k ≡ length ops) × (last ≡ b)). absurd (straight (subst (λ (c : OpId). IsTrue (co last c)) (sym end2.1) again)))
        (stands-cases ops last k b second))
        (stands-cases ops last j a first);
  }

module _ (h whole : MemoryHistory) (s i : ℕ) (e : Operation) (more : IsInserted h whole s i e) (from : Option OpId) (source : IsSourceOfInserted h s i from)
    (harmless : IsHarmless h whole s i e from) where
  abbrev new_op : OpId
  new_op = op s i

  module _ (co : Order) (causal : IsCausalOrder h co) where
    abbrev order : Order
    order = whole_order h s i from co

    -- the past of an operation of the shorter history
    pub old_past-from : (o a : OpId) → IsTrue (past order (new_place s i o) (new_place s i a)) → IsTrue (past co o a)
    old_past-from o a inside = ⊎_elim
        (λ (same : new_place s i a ≡ new_place s i o). past-from co o a (inl (sym (old_place-new_place s i a) ∙ ap (old_place s i) same ∙ old_place-new_place s i o)))
        (λ (before : IsTrue (order (new_place s i a) (new_place s i o))). past-from co o a (inr (old_old-from h whole s i e more from source co causal a o before)))
        (past-parts order (new_place s i o) (new_place s i a) inside)

    pub old_past-to : (o a : OpId) → IsTrue (past co o a) → IsTrue (past order (new_place s i o) (new_place s i a))
    old_past-to o a inside = ⊎_elim
        (λ (same : a ≡ o). past-from order (new_place s i o) (new_place s i a) (inl (ap (new_place s i) same)))
        (λ (before : IsTrue (co a o)). past-from order (new_place s i o) (new_place s i a) (inr (old_old-to h whole s i e more from source co causal a o before)))
        (past-parts co o a inside)

    pub new-after : (o : OpId) → IsTrue (past order (new_place s i o) new_op) → IsTrue (is_after h s i from co o)
    new-after o inside = ⊎_elim
        (λ (same : new_op ≡ new_place s i o). absurd (new_place-apart s i o (sym same)))
        (λ (before : IsTrue (order new_op (new_place s i o))). new_old-from h whole s i e more from source co causal o before)
        (past-parts order (new_place s i o) new_op inside)

    new_past-from : (o : OpId) → IsTrue (past order (new_place s i o) new_op) → IsTrue (past co o new_op)
    new_past-from o inside = past-from co o new_op (is_after-parts h whole s i e more from source co causal o (new-after o inside)).1

    new_past-to : (o : OpId) → IsOp h o → IsTrue (past co o new_op) → IsTrue (past order (new_place s i o) new_op)
    new_past-to o is_op inside =
        past-from order (new_place s i o) new_op (inr (new_old-to h whole s i e more from source co causal o
        (is_after-from h whole s i e more from source co causal o (past-of_history h co causal o new_op is_op inside) (past-parts co o new_op inside))))

    -- the return of the new one is right in a linearization of its past
    pub new-right : (ops : List OpId) → IsLinearization (past order new_op) order ops → (k : ℕ) (r : RegisterRet) → StandsAt ops k new_op → e.1 ≡ Some r
        → r ≡ memory_answer whole.0 (calls whole (take k ops)) e.0
    new-right ops linear k r at is = harmless.own r is (take k ops)
        (λ q same.
        let inside : IsTrue (order (new_place s i q) new_op) = old_new-to h whole s i e more from source co causal q (is_before-from co from q q same (past-from co q q (inl refl))) in
        let j = linear.each (new_place s i q) (past-from order new_op (new_place s i q) (inr inside)) in
        (j.0, take-stands k ops j.0 (new_place s i q) (linear.ordered j.0 k (new_place s i q) new_op j.1 at inside) j.1))
        (λ j l a first second. linear.once j l a (take-from k ops j a first).1 (take-from k ops l a second).1)

    own-linear : (ops : List OpId) → IsLinearization (is_before co from) co ops → IsLinearization (past order new_op) order (with_inserted s i ops ++ new_op ∷ [])
    own-linear ops linear =
        pushed-linear order (λ (a : OpId). order a new_op) (past order new_op) new_op (with_inserted s i ops)
        (inserted-linear h whole s i e more from source co causal (is_before co from) (λ (a : OpId). order a new_op)
        (is_before-op h whole s i e more from source co causal)
        (old_new-from h whole s i e more from source co causal)
        (old_new-to h whole s i e more from source co causal)
        (λ itself. absurd (new_new-none h whole s i e more from source co causal itself))
        (λ inside. absurd (causal.irreflexive new_op (is_before-old h whole s i e more from source co causal new_op inside (is_before-op h whole s i e more from source co causal new_op inside))))
        ops linear)
        (λ a inside. past-parts order new_op a inside)
        (λ a inside. past-from order new_op a (inr inside))
        (past-from order new_op new_op (inl refl))
        (new_new-none h whole s i e more from source co causal)
        (λ a inside before. new_new-none h whole s i e more from source co causal (order-transitive h whole s i e more from source co causal new_op a new_op before inside))
        (new_new-none h whole s i e more from source co causal)

  -- which returns are explained in the past of an operation
  pub record IsShown (kept : OpId → Ops) : Type 0 where
    pub old_shown : (o a : OpId) → IsTrue (kept (new_place s i o) (new_place s i a)) → IsTrue (kept o a)
    pub new_shown : (a q : OpId) → from ≡ Some q → IsOp h a → IsTrue (kept new_op (new_place s i a)) → IsTrue (kept q a)

  module _ (kept : OpId → Ops) (shown : IsShown kept) (co : Order) (causal : IsCausalOrder h co) where
    -- a list explains the past of an operation of the longer history
    abbrev IsExplained : OpId → Type 0
    IsExplained o =
        (ops : List OpId) × IsLinearization (past (order co causal) o) (order co causal) ops × Explains memory_answer whole ops (kept o)

    old-list : (o : OpId) → IsOp h o → (ops : List OpId) → IsLinearization (past co o) co ops → Explains memory_answer h ops (kept o)
        → IsExplained (new_place s i o)
    old-list o is_op ops linear explains = (
      with_inserted s i ops,
      inserted-linear h whole s i e more from source co causal (past co o) (past (order co causal) (new_place s i o))
          (λ a. past-of_history h co causal o a is_op) (old_past-from co causal o) (old_past-to co causal o) (new_past-from co causal o)
          (new_past-to co causal o is_op) ops linear,
      inserted-explains h whole s i e more (with_inserted s i ops) (kept o) (kept (new_place s i o)) (shown.old_shown o)
          (λ j k a d at there below kept_a is.
          let n = inserted-next s i ops j at in
          harmless.quiet (past-of_history h co causal o new_op is_op (linear.no_other n.0.0 new_op n.0.1)) a d is)
          (λ k t at kept_new is.
          let n = inserted-next s i ops k at in
          harmless.anywhere (past-of_history h co causal o new_op is_op (linear.no_other n.0.0 new_op n.0.1)) t is
          (calls whole (take k (with_inserted s i ops))))
          (subst (λ (l : List OpId). Explains memory_answer h l (kept o)) (sym (cut-with_inserted s i ops)) explains),
    )

    new-explains : (ops : List OpId) → IsLinearization (past (order co causal) new_op) (order co causal) (with_inserted s i ops ++ new_op ∷ [])
        → Explains memory_answer h ops (λ (a : OpId). kept new_op (new_place s i a))
        → Explains memory_answer whole (with_inserted s i ops ++ new_op ∷ []) (kept new_op)
    new-explains ops all explains =
        inserted-explains h whole s i e more (with_inserted s i ops ++ new_op ∷ []) (λ (a : OpId). kept new_op (new_place s i a)) (kept new_op)
        (λ a kept_a. kept_a)
        (λ j k a d at there below kept_a is. ⊎_elim
        (λ (same : new_place s i a ≡ new_op). absurd (new_place-apart s i a same))
        (λ (before : IsTrue (order co causal (new_place s i a) new_op)).
        let less = all.ordered k j (new_place s i a) new_op there at before in absurd (omega arith))
        (past-parts (order co causal) new_op (new_place s i a) (all.no_other k (new_place s i a) there)))
        (λ k t at kept_new is. new-right co causal (with_inserted s i ops ++ new_op ∷ []) all k t at is)
        (subst (λ (l : List OpId). Explains memory_answer h l (λ (a : OpId). kept new_op (new_place s i a))) (sym (cut-pushed_inserted s i ops)) explains)

    -- what comes before the new operation, and then itself
    new-list : (ops : List OpId) → IsLinearization (is_before co from) co ops → ((q : OpId) → from ≡ Some q → Explains memory_answer h ops (kept q))
        → IsExplained new_op
    new-list ops linear explains = (
      with_inserted s i ops ++ new_op ∷ [],
      own-linear co causal ops linear,
      new-explains ops (own-linear co causal ops linear)
          (λ k o c t at kept_o is.
          let inside = linear.no_other k o at in
          let (q, some, below) = is_before-parts co from o inside in
          explains q some k o c t at (shown.new_shown o q some (is_before-op h whole s i e more from source co causal o inside) kept_o) is),
    )

    own-list : ((o : OpId) → IsOp h o → (ops : List OpId) × IsLinearization (past co o) co ops × Explains memory_answer h ops (kept o))
        → IsExplained new_op
    own-list each = elim from as (λ (o : Option OpId). from ≡ o → IsExplained new_op) [
      | None ↦ λ none. new-list [] (record {
        each = λ a inside. let (q, is, _) = is_before-parts co from a inside in absurd cc;
        no_other = λ k a at. absurd cc;
        once = λ j k a at. absurd cc;
        ordered = λ j k a b at. absurd cc;
      })
          (λ q is. absurd cc)
      | Some q ↦ λ some.
          let (ops, linear, explains) = each q (source.is_op q some) in
          new-list ops (subst (λ (o : Option OpId). IsLinearization (is_before co o) co ops) (sym some) linear)
          (λ p is. subst (λ (b : OpId). Explains memory_answer h ops (kept b)) (same_Some q p (sym some ∙ is)) explains)
    ] refl

  each_past-inserted : (kept : OpId → Ops) → IsShown kept → ExplainsEachPast memory_answer h kept → ExplainsEachPast memory_answer whole kept
  each_past-inserted kept shown (co, causal, each) = (
    order co causal,
    order-causal h whole s i e more from source co causal,
    each-place s i (λ (o : OpId). IsOp whole o → IsExplained kept shown co causal o)
        (λ _. own-list kept shown co causal each)
        (λ o is_op.
        let is_old = new_place-is_op h whole s i e more from source co causal o is_op in
        let (ops, linear, explains) = each o is_old in
        old-list kept shown co causal o is_old ops linear explains),
  )

  pub only-shown : IsShown only
  only-shown = record {
    old_shown = λ o a same.
        let one : a ≡ o = sym (old_place-new_place s i a) ∙ ap (old_place s i) (only-same (new_place s i o) (new_place s i a) same) ∙ old_place-new_place s i o in
        subst (λ (b : OpId). IsTrue (only o b)) (sym one) (only-itself o);
    new_shown = λ a q some is_op same. absurd (new_place-apart s i a (only-same new_op (new_place s i a) same));
  }

  program_past-shown : IsShown program_past
  program_past-shown = record {
    old_shown = λ o a inside.
        let parts = program_past-parts (new_place s i o) (new_place s i a) inside in
        ⊎_elim
        (λ (less : (new_place s i a).index < (new_place s i o).index).
        let before = new_place-order_back s i a o (parts.0, less) in
        let low = before.1 in program_past-from o a before.0 (omega arith))
        (λ (least : (new_place s i o).index ≤ (new_place s i a).index).
        let up_to = parts.1 in
        let same : new_place s i a ≡ new_place s i o = same_op (new_place s i a) (new_place s i o) parts.0 (omega arith) in
        let one : a ≡ o = sym (old_place-new_place s i a) ∙ ap (old_place s i) same ∙ old_place-new_place s i o in
        subst (λ (b : OpId). IsTrue (program_past o b)) (sym one) (program_past-from o o refl (omega arith)))
        (cases_lt (new_place s i a).index (new_place s i o).index);
    new_shown = λ a q some is_op inside.
        let parts = program_past-parts new_op (new_place s i a) inside in
        ⊎_elim
        (λ (up : (a.session ≡ s) × (i ≤ a.index) × (new_place s i a ≡ op a.session (a.index + 1))).
        let index : (new_place s i a).index ≡ a.index + 1 = ap (λ (b : OpId). b.index) up.2 in
        let high = up.1 in let low = parts.1 in absurd (omega arith))
        (λ (still : (a.session ≡ s → a.index < i) × (new_place s i a ≡ a)).
        let session : a.session ≡ s = ap (λ (b : OpId). b.session) (sym still.1) ∙ parts.0 in
        let (p, is, up_to) = source.covers a is_op session (still.0 session) in
        let same : p ≡ q = same_Some _ _ (sym is ∙ some) in
        subst (λ (b : OpId). IsTrue (program_past b a)) same (⊎_elim
        (λ (one : a ≡ p). subst (λ (b : OpId). IsTrue (program_past p b)) (sym one) (program_past-from p p refl (omega arith)))
        (λ (before : Precedes a p). let less = before.1 in program_past-from p a before.0 (omega arith))
        up_to))
        (new_place-cases s i a);
  }

  pub consistent-inserted : ExplainsEachPast memory_answer h only → ExplainsEachPast memory_answer whole only
  consistent-inserted = each_past-inserted only only-shown

  pub memory-inserted : ExplainsEachPast memory_answer h program_past → ExplainsEachPast memory_answer whole program_past
  memory-inserted = each_past-inserted program_past program_past-shown

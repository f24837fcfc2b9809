-- What a history meets, one meets whose operations are operations of it, but for some whose return is unknown.
use Rattle.std.proofs.Common.{◌≡◌, ℕ, zero, suc, ◌<◌, true, false, List, [], ◌∷◌, ◌++◌, length, take, refl, ap, sym, subst, ◌∙◌, inl, inr, ⊎_elim, arith, eq-or-lt_of_le}
use Rattle.std.specs.Prelude.{◌≢◌, IsTrue, Option, Some, filter_map}
use Rattle.std.proofs.lemmas.Bool.{cases_Bool}
use Rattle.std.proofs.lemmas.List.{take-append-le}
use Rattle.std.proofs.lemmas.Option.{same_Some, slice_get_within}
use Rattle.model_objects.specs.declared.register.RegisterRet.TheVariants.{Value}
use Rattle.model_history.specs.declared.op_id.OpId.{OpId}
use Rattle.model_history.specs.History.{IsOp, calls}
use Rattle.order_causal.specs.Orders.{Ops, Order, only, program_past, past, op, StandsAt, IsLinearization}
use Rattle.order_causal.proofs.OrdersLaws.{same_op}
use Rattle.order_causal.proofs.Fronts.{take-from}
use Rattle.order_causal.proofs.WaitRoutes.{stands-cases}
use Rattle.order_memory.specs.Memory.{MemoryHistory, memory_answer, initial, Reads, Writes}
use Rattle.order_memory.proofs.HappenedBeforeLaws.{program_past-parts, program_past-from}
use Rattle.order_memory.proofs.LastWrites.{IsUnwritten, IsLastWrite, answer-cases}
use Rattle.order_memory.proofs.MemoryLaws.{read-of_history, write-or_read}
use Rattle.cert_check.specs.Criteria.{IsCausalOrder, Explains, ExplainsEachPast}
use Rattle.cert_check.proofs.ConvergentLaws.{only-same}
use Rattle.cert_check.proofs.Pasts.{only-itself}
use Rattle.log_events.proofs.InsertedOrders.{past-parts, past-from}
use Rattle.log_events.proofs.InsertedPasts.{pushed-linear}
use Rattle.log_events.proofs.Shadows.{has_return, is_known, AreReadsAfter, IsShadow, shadow_order, before-known_to, before-known_from, before-open_from, order-to, order-from, shadow-causal, image-once}
use Rattle.log_events.proofs.ShadowLists.{shadow-linear, shadow-explains}

-- in a list of the past of a read that explains it, what it read was written in its past
pub read-after : (h : MemoryHistory) (co : Order) (kept : Ops) (ops : List OpId) (r : OpId) (x v k : ℕ)
    → ((j : ℕ) (a : OpId) → StandsAt ops j a → IsTrue (past co r a)) → Explains memory_answer h ops kept → StandsAt ops k r → IsTrue (kept r)
    → Reads h r x v → v ≢ initial h x → (w : OpId) × Writes h w x v × IsTrue (co w r)
read-after h co kept ops r x v k inside explains at among reads other = ⊎_elim
    (λ (none : IsUnwritten h x (take k ops) × (v ≡ initial h x)). absurd (other none.1))
    (λ (some : (w : OpId) × IsLastWrite h x (take k ops) w v).
    let last = some.1 in
    let stands = (take-from k ops last.place some.0 last.stands).1 in (
      some.0,
      last.writes,
      ⊎_elim
          (λ (same : some.0 ≡ r). absurd (write-or_read h some.0 r x v x v last.writes reads same))
          (λ (earlier : IsTrue (co some.0 r)). earlier)
          (past-parts co r some.0 (inside last.place some.0 stands)),
    ))
    (answer-cases h x (take k ops) v (explains k r _ (Value v) at among reads))

module _ (h c : MemoryHistory) (image origin : OpId → Option OpId) (shadow : IsShadow h c image origin) where
  module _ (co : Order) (causal : IsCausalOrder h co) (after : AreReadsAfter h co) where
    abbrev order : Order
    order = shadow_order c image co

    order-causal : IsCausalOrder c order
    order-causal = shadow-causal h c image origin shadow co causal after

    -- the past of an operation with a known return is that of its image
    pub past-to : (o p a : OpId) → IsTrue (is_known c o) → image o ≡ Some p → IsTrue (past order o a)
        → (q : OpId) × (image a ≡ Some q) × IsTrue (past co p q)
    past-to o p a known im inside = ⊎_elim
        (λ (same : a ≡ o). (p, ap image same ∙ im, past-from co p p (inl refl)))
        (λ (less : IsTrue (order a o)).
        let r = order-from c image co a o less in
        (r.1, r.2, past-from co p r.1 (inr (before-known_from c image co o p r.1 known im r.3))))
        (past-parts order o a inside)

    pub past-of : (o p a q : OpId) → IsTrue (is_known c o) → image o ≡ Some p → image a ≡ Some q → IsTrue (past co p q) → IsTrue (past order o a)
    past-of o p a q known im there inside = past-from order o a (⊎_elim
        (λ (same : q ≡ p). inl (image-once h c image origin shadow co causal after a o p (there ∙ ap (λ (t : OpId). Some t) same) im))
        (λ (less : IsTrue (co q p)). inr (order-to c image co a o q (shadow.forth o p im).0 there (before-known_to c image co o p q known im less)))
        (past-parts co p q inside))

    -- the past of an operation whose return is unknown is that of the one before it, and itself
    module _ (o : OpId) (is_op : IsOp c o) (unknown : is_known c o ≡ false) where
      not_known : ¬ IsTrue (is_known c o)
      not_known known = let wrong : false ≡ true = sym unknown ∙ known in absurd cc

      last-linear : (i : ℕ) → o.index ≡ suc i → (ops : List OpId) → IsLinearization (past order (op o.session i)) order ops
          → IsLinearization (past order o) order (ops ++ o ∷ [])
      last-linear i is ops linear =
          pushed-linear order (past order (op o.session i)) (past order o) o ops linear
          (λ a inside. ⊎_elim
          (λ (same : a ≡ o). inl same)
          (λ (less : IsTrue (order a o)). inr (earlier a less))
          (past-parts order o a inside))
          (λ a inside. past-from order o a (inr (up_to a inside)))
          (past-from order o o (inl refl))
          (λ inside. order-causal.irreflexive o (up_to o inside))
          (λ a inside before. order-causal.irreflexive o (order-causal.transitive o a o before (up_to a inside)))
          (order-causal.irreflexive o)
        where
          next : IsTrue (order (op o.session i) o)
          next = order-causal.program_order (op o.session i) o is_op (refl, omega arith)

          up_to : (a : OpId) → IsTrue (past order (op o.session i) a) → IsTrue (order a o)
          up_to a inside = ⊎_elim
              (λ (same : a ≡ op o.session i). subst (λ (t : OpId). IsTrue (order t o)) (sym same) next)
              (λ (less : IsTrue (order a (op o.session i))). order-causal.transitive a (op o.session i) o less next)
              (past-parts order (op o.session i) a inside)

          earlier : (a : OpId) → IsTrue (order a o) → IsTrue (past order (op o.session i) a)
          earlier a less =
              let r = order-from c image co a o less in
              let (j, place, q, there, inside) = before-open_from c image co o r.1 unknown r.3 in
              let same : op o.session j ≡ op o.session i = same_op _ _ refl (omega arith) in
              let im : image (op o.session i) ≡ Some q = ap image (sym same) ∙ there in
              let known = shadow.first (op o.session i) o is_op (refl, omega arith) in
              past-of (op o.session i) q a r.1 known im r.2 inside

      first-linear : o.index ≡ zero → IsLinearization (past order o) order (o ∷ [])
      first-linear is =
          pushed-linear order (λ _. false) (past order o) o [] (record {
            each = λ a wrong. let no : false ≡ true = wrong in absurd cc;
            no_other = λ k a at. absurd cc;
            once = λ j k a at. absurd cc;
            ordered = λ j k a b at. absurd cc;
          })
          (λ a inside. ⊎_elim
          (λ (same : a ≡ o). inl same)
          (λ (less : IsTrue (order a o)).
          let r = order-from c image co a o less in
          let (j, place, _, _, _) = before-open_from c image co o r.1 unknown r.3 in absurd (omega arith))
          (past-parts order o a inside))
          (λ a wrong. let no : false ≡ true = wrong in absurd cc)
          (past-from order o o (inl refl))
          (λ wrong. let no : false ≡ true = wrong in absurd cc)
          (λ a wrong _. let no : false ≡ true = wrong in absurd cc)
          (order-causal.irreflexive o)

      -- its own return is hidden
      last-explains : (ops : List OpId) (set last_set : Ops) → ((a : OpId) → IsTrue (is_known c a) → IsTrue (last_set a) → IsTrue (set a))
          → Explains memory_answer c ops set → Explains memory_answer c (ops ++ o ∷ []) last_set
      last-explains ops set last_set alike explains k a call r at among is = ⊎_elim
          (λ (earlier : StandsAt ops k a).
          let within = slice_get_within ops k a earlier in
          explains k a call r earlier (alike a (ap has_return is) among) is
          ∙ ap (λ (front : List OpId). memory_answer c.0 (calls c front) call) (sym (take-append-le k ops (o ∷ []) (omega arith))))
          (λ (end : (k ≡ length ops) × (o ≡ a)).
          absurd (not_known (ap (is_known c) end.1 ∙ ap has_return is)))
          (stands-cases ops o k a at)

  -- what is shown of the past of an operation: of its image, where its return is known, and of the one before it, where it isn't
  pub record IsShownAlike (shown : OpId → Ops) : Type 0 where
    itself : (o : OpId) → IsTrue (shown o o)
    of_image : (o a p q : OpId) → IsTrue (is_known c o) → IsTrue (is_known c a) → image o ≡ Some p → image a ≡ Some q → IsTrue (shown o a)
        → IsTrue (shown p q)
    of_last : (o a : OpId) (i : ℕ) → IsTrue (is_known c a) → is_known c o ≡ false → o.index ≡ suc i → IsTrue (shown o a)
        → IsTrue (shown (op o.session i) a)

  pub each_past : (shown : OpId → Ops) → IsShownAlike shown → ExplainsEachPast memory_answer h shown → ExplainsEachPast memory_answer c shown
  each_past shown alike (co, causal, each) = (shadow_order c image co, shadow-causal h c image origin shadow co causal after, shown_of)
    where
      after : AreReadsAfter h co
      after r x v reads other =
          let (ops, linear, explains) = each r (read-of_history h r x v reads) in
          let (k, at) = linear.each r (past-from co r r (inl refl)) in
          read-after h co (shown r) ops r x v k linear.no_other explains at (alike.itself r) reads other

      known_of : (o : OpId) → IsTrue (is_known c o)
          → (ops : List OpId) × IsLinearization (past (shadow_order c image co) o) (shadow_order c image co) ops × Explains memory_answer c ops (shown o)
      known_of o known =
          let (p, im) = shadow.known o known in
          let (ops, linear, explains) = each p (shadow.forth o p im).1 in (
            filter_map origin ops,
            shadow-linear h c image origin shadow co causal after (past co p) (past (shadow_order c image co) o)
                (λ a. past-to co causal after o p a known im)
                (λ a q. past-of co causal after o p a q known im)
                ops linear,
            shadow-explains h c image origin shadow (shown p) (shown o) ops (λ a q known_a there. alike.of_image o a p q known known_a im there) explains,
          )

      shown_of : (o : OpId) → IsOp c o
          → (ops : List OpId) × IsLinearization (past (shadow_order c image co) o) (shadow_order c image co) ops × Explains memory_answer c ops (shown o)
      shown_of o is_op = ⊎_elim
          (λ (known : is_known c o ≡ true). known_of o known)
          (λ (unknown : is_known c o ≡ false). elim o.index as (λ n. o.index ≡ n
          → (ops : List OpId) × IsLinearization (past (shadow_order c image co) o) (shadow_order c image co) ops × Explains memory_answer c ops (shown o)) [
            | zero ↦ λ is. (
              [] ++ o ∷ [],
              first-linear co causal after o is_op unknown is,
              last-explains co causal after o is_op unknown [] (shown o) (shown o) (λ a _ among. among) (λ k a call r at. absurd cc),
            )
            | suc i ↦ λ is.
                let (ops, linear, explains) = known_of (op o.session i) (shadow.first (op o.session i) o is_op (refl, omega arith)) in (
                  ops ++ o ∷ [],
                  last-linear co causal after o is_op unknown i is ops linear,
                  last-explains co causal after o is_op unknown ops (shown (op o.session i)) (shown o)
                      (λ a known among. alike.of_last o a i known unknown is among) explains,
                )
          ] refl)
          (cases_Bool (is_known c o))

  unlike : (o a : OpId) → IsTrue (is_known c a) → is_known c o ≡ false → a ≢ o
  unlike o a known unknown same = let wrong : false ≡ true = sym unknown ∙ ap (is_known c) (sym same) ∙ known in absurd cc

  pub only-alike : IsShownAlike only
  only-alike = record {
    itself = only-itself;
    of_image = λ o a p q _ _ im there among.
        let same : q ≡ p = same_Some _ _ (sym there ∙ ap image (only-same o a among) ∙ im) in
        subst (λ (t : OpId). IsTrue (only p t)) (sym same) (only-itself p);
    of_last = λ o a i known unknown _ among. absurd (unlike o a known unknown (only-same o a among));
  }

  pub program_past-alike : IsShownAlike program_past
  program_past-alike = record {
    itself = λ o. program_past-from o o refl (omega arith);
    of_image = λ o a p q known _ im there among.
        let parts = program_past-parts o a among in
        ⊎_elim
        (λ (same : a.index ≡ o.index).
        let one : q ≡ p = same_Some _ _ (sym there ∙ ap image (same_op a o parts.0 same) ∙ im) in
        subst (λ (t : OpId). IsTrue (program_past p t)) (sym one) (program_past-from p p refl (omega arith)))
        (λ (below : a.index < o.index).
        let order = shadow.in_order a o q p known (parts.0, below) there im in
        let less = order.1 in
        program_past-from p q order.0 (omega arith))
        (eq-or-lt_of_le parts.1);
    of_last = λ o a i known unknown is among.
        let parts = program_past-parts o a among in
        let up_to = parts.1 in
        let apart : a.index ≢ o.index = λ same. unlike o a known unknown (same_op a o parts.0 same) in
        program_past-from (op o.session i) a parts.0 (omega arith);
  }

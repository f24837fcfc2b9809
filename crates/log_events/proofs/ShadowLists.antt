-- What a list of operations orders and explains, it does of a history whose operations are operations of the other.
use Rattle.std.proofs.Common.{◌≡◌, ℕ, ◌<◌, ◌≤◌, List, take, refl, ap, sym, subst, ◌∙◌, ⊎_elim, arith, eq-or-lt_of_le}
use Rattle.std.specs.Prelude.{IsTrue, Option, Some, option_map, filter_map}
use Rattle.std.proofs.lemmas.Option.{same_Some}
use Rattle.model_objects.specs.declared.register.RegisterCall.{RegisterCall}
use Rattle.model_objects.specs.declared.register.RegisterCall.TheVariants.{Write, Read}
use Rattle.model_objects.specs.declared.register.RegisterRet.{RegisterRet}
use Rattle.model_objects.specs.declared.register.RegisterRet.TheVariants.{Value}
use Rattle.model_objects.specs.Register.{last_written, answer as register_answer}
use Rattle.model_objects.specs.Keyed.{calls_at}
use Rattle.model_objects.specs.Table.{start_at}
use Rattle.model_history.specs.declared.op_id.OpId.{OpId}
use Rattle.model_history.specs.History.{session, entry, calls}
use Rattle.order_causal.specs.Orders.{Ops, Order, StandsAt, IsLinearization}
use Rattle.order_memory.specs.Memory.{MemoryCall, MemoryHistory, memory_answer, initial, Reads, Writes}
use Rattle.order_memory.proofs.LastWrites.{IsUnwritten, IsLastWrite, answer-cases, last_write-answers, unwritten-answers}
use Rattle.order_memory.proofs.MemoryLaws.{entry-call}
use Rattle.cert_check.specs.Criteria.{IsCausalOrder, Explains}
use Rattle.log_events.specs.Histories.{Operation}
use Rattle.log_events.proofs.GivenPlaces.{giving_before, giving-stands, giving-rises, giving-front}
use Rattle.log_events.proofs.ListPlaces.{filter_map-from, slice_get-found}
use Rattle.log_events.proofs.Shadows.{has_return, is_known, AreReadsAfter, IsShadow, before, shadow_order, order-from, image-after}

module _ (h c : MemoryHistory) (image origin : OpId → Option OpId) (shadow : IsShadow h c image origin) where
  -- a linearization of some operations of h is one of those operations of c that are among them
  module _ (co : Order) (causal : IsCausalOrder h co) (after : AreReadsAfter h co) (set shadow_set : Ops)
      (to : (a : OpId) → IsTrue (shadow_set a) → (p : OpId) × (image a ≡ Some p) × IsTrue (set p))
      (from : (a p : OpId) → image a ≡ Some p → IsTrue (set p) → IsTrue (shadow_set a))
      (ops : List OpId) (linear : IsLinearization set co ops) where
    pub shadow-linear : IsLinearization shadow_set (shadow_order c image co) (filter_map origin ops)
    shadow-linear = record {
      each = λ a inside.
          let (p, im, among) = to a inside in
          let (m, at) = linear.each p among in
          (giving_before origin ops m, giving-stands origin ops m p a at (shadow.forth a p im).2);
      no_other = λ k a at.
          let (m, p, there, is, _) = filter_map-from origin ops k a at in
          from a p (shadow.back a p is) (linear.no_other m p there);
      once = λ j k a first second.
          let (m, p, there, is, place) = filter_map-from origin ops j a first in
          let (n, q, there2, is2, place2) = filter_map-from origin ops k a second in
          let same : q ≡ p = same_Some _ _ (sym (shadow.back a q is2) ∙ shadow.back a p is) in
          let one : m ≡ n = linear.once m n p there (subst (λ (t : OpId). StandsAt ops n t) same there2) in
          sym place ∙ ap (giving_before origin ops) one ∙ place2;
      ordered = λ j k a b first second holds.
          let (m, p, there, is, place) = filter_map-from origin ops j a first in
          let (n, q, there2, is2, place2) = filter_map-from origin ops k b second in
          let r = order-from c image co a b holds in
          let same : r.1 ≡ p = same_Some _ _ (sym r.2 ∙ shadow.back a p is) in
          let less : IsTrue (co p q) =
          image-after h c image origin shadow co causal after b p q (shadow.back b q is2) (subst (λ (t : OpId). IsTrue (before c image co b t)) same r.3) in
          let below : m < n = linear.ordered m n p q there there2 less in
          let rises = giving-rises origin ops m n p a below there is in
          omega arith;
    }

  -- what an operation of c writes its operation of h writes
  shadow-writes : (a p : OpId) (x u : ℕ) → image a ≡ Some p → Writes c a x u → Writes h p x u
  shadow-writes a p x u im writes =
      let e = entry-call (entry c a) _ writes in
      let d = shadow.extended a p _ im e.1 in
      ap (option_map (λ (o : Operation). o.0)) d.1 ∙ ap (λ (call : MemoryCall). Some call) d.2.0

  writes-shadow : (a p : OpId) (x u : ℕ) → image a ≡ Some p → Writes h p x u → Writes c a x u
  writes-shadow a p x u im writes =
      let e = slice_get-found (session c a.session) a.index (shadow.forth a p im).0 in
      let d = shadow.extended a p e.0 im e.1 in
      ap (option_map (λ (o : Operation). o.0)) e.1 ∙ sym (ap (λ (call : MemoryCall). Some call) d.2.0)
      ∙ sym (ap (option_map (λ (o : Operation). o.0)) d.1) ∙ writes

  shadow-initial : (x : ℕ) → initial h x ≡ initial c x
  shadow-initial x = ap (λ (t : List (ℕ × ℕ)). start_at 0 t x) (sym shadow.start)

  giving-le : (ops : List OpId) (m n : ℕ) (p a : OpId) → m ≤ n → StandsAt ops m p → origin p ≡ Some a
      → giving_before origin ops m ≤ giving_before origin ops n
  giving-le ops m n p a below at is = ⊎_elim
      (λ (same : m ≡ n). let one : giving_before origin ops m ≡ giving_before origin ops n = ap (giving_before origin ops) same in omega arith)
      (λ (less : m < n). let rises = giving-rises origin ops m n p a less at is in omega arith)
      (eq-or-lt_of_le below)

  -- what a read of c returned is the answer after those of the operations that are of c
  read-answer : (ops : List OpId) (a p : OpId) (x v : ℕ) → image a ≡ Some p → Reads c a x v
      → Value v ≡ memory_answer h.0 (calls h ops) (record { key = x; call = Read })
      → Value v ≡ memory_answer c.0 (calls c (filter_map origin ops)) (record { key = x; call = Read })
  read-answer ops a p x v im reads answered = ⊎_elim
      (λ (none : IsUnwritten h x ops × (v ≡ initial h x)).
      ap Value (none.1 ∙ shadow-initial x)
      ∙ unwritten-answers c x (filter_map origin ops) (λ k b u at wrote.
      let (m, q, there, is, _) = filter_map-from origin ops k b at in
      none.0 m q u there (shadow-writes b q x u (shadow.back b q is) wrote)))
      (λ (some : (w : OpId) × IsLastWrite h x ops w v).
      let last = some.1 in
      let (b, of_c) = shadow.sources a p some.0 x v reads im last.writes in
      last_write-answers c x (filter_map origin ops) b v (record {
        place = giving_before origin ops last.place;
        stands = giving-stands origin ops last.place some.0 b last.stands of_c;
        writes = writes-shadow b some.0 x v (shadow.back b some.0 of_c) last.writes;
        last = λ k d u at wrote.
            let (m, q, there, is, place) = filter_map-from origin ops k d at in
            let up_to = last.last m q u there (shadow-writes d q x u (shadow.back d q is) wrote) in
            let le = giving-le ops m last.place q d up_to there is in
            omega arith;
      }))
      (answer-cases h x ops v answered)

  shadow-answer : (ops : List OpId) (a p : OpId) (call : MemoryCall) (r : RegisterRet) → image a ≡ Some p → entry c a ≡ Some (call, Some r)
      → r ≡ memory_answer h.0 (calls h ops) call → r ≡ memory_answer c.0 (calls c (filter_map origin ops)) call
  shadow-answer ops a p call r im is answered =
      elim call.call as (λ (kind : RegisterCall). call.call ≡ kind
      → r ≡ register_answer (initial h call.key) (calls_at call.key (calls h ops)) kind
      → r ≡ register_answer (initial c call.key) (calls_at call.key (calls c (filter_map origin ops))) kind) [
        | Write u ↦ λ _ done. done
        | Read ↦ λ read value.
            let v = last_written (initial h call.key) (calls_at call.key (calls h ops)) in
            let reads : Reads c a call.key v = is ∙ (λ i. Some (record { key = call.key; call = read i }, Some (value i))) in
            value ∙ read-answer ops a p call.key v im reads refl
      ] refl answered

  -- a list that explains operations of h explains those operations of c whose return is known
  pub shadow-explains : (set shadow_set : Ops) (ops : List OpId)
      → ((a p : OpId) → IsTrue (is_known c a) → image a ≡ Some p → IsTrue (shadow_set a) → IsTrue (set p))
      → Explains memory_answer h ops set → Explains memory_answer c (filter_map origin ops) shadow_set
  shadow-explains set shadow_set ops alike explains k a call r at among is =
      let (m, p, there, of_c, place) = filter_map-from origin ops k a at in
      let im = shadow.back a p of_c in
      let (d, at_d, extends) = shadow.extended a p (call, Some r) im is in
      let in_h : entry h p ≡ Some (call, Some r) = at_d ∙ (λ i. Some (extends.0 i, extends.1 r refl i)) in
      let answered = explains m p call r there (alike a p (ap has_return is) im among) in_h in
      let front : filter_map origin (take m ops) ≡ take k (filter_map origin ops) =
      sym (giving-front origin ops m) ∙ ap (λ (n : ℕ). take n (filter_map origin ops)) place in
      shadow-answer (take m ops) a p call r im is answered
      ∙ ap (λ (front_ops : List OpId). memory_answer c.0 (calls c front_ops) call) front

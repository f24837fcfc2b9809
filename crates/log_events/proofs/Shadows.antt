-- A history whose operations are operations of another one, but for some whose return is unknown: the order that it has of it.
use Rattle.std.proofs.Common.{◌≡◌, ℕ, zero, suc, ◌-◌, ◌<◌, ◌≤◌, Bool, true, false, refl, ap, sym, subst, ◌∙◌, inl, inr, ⊎_elim, arith}
use Rattle.std.specs.Prelude.{◌≢◌, ◌⊎◌, ◌&&◌, IsTrue, if◌then◌else◌, Option, Some, None}
use Rattle.std.proofs.lemmas.Bool.{and_from, and_parts, cases_Bool, cases_lt}
use Rattle.std.proofs.lemmas.Option.{same_Some}
use Rattle.model_history.specs.declared.op_id.OpId.{OpId}
use Rattle.model_history.specs.History.{IsOp, Precedes, entry}
use Rattle.order_causal.specs.Orders.{Ops, Order, past, op}
use Rattle.order_causal.proofs.OrdersLaws.{same_op}
use Rattle.order_memory.specs.Memory.{MemoryHistory, initial, Reads, Writes}
use Rattle.cert_check.specs.Criteria.{every, IsCausalOrder}
use Rattle.cert_check.proofs.Pasts.{every-op, op-every}
use Rattle.log_events.specs.Histories.{Operation}
use Rattle.log_events.proofs.FrontHistories.{Extends}
use Rattle.log_events.proofs.InsertedOrders.{past-parts, past-from}

-- an operation with a known return
abbrev pub has_return : Option Operation → Bool
has_return None = false
has_return (Some (call, None)) = false
has_return (Some (call, Some r)) = true

abbrev pub is_known : MemoryHistory → Ops
is_known c a = has_return (entry c a)

-- an order in which a read comes after a write of what it read
abbrev pub AreReadsAfter : MemoryHistory → Order → Type 0
AreReadsAfter h co = (r : OpId) (x v : ℕ) → Reads h r x v → v ≢ initial h x → (w : OpId) × Writes h w x v × IsTrue (co w r)

-- c has operations of h, whose returns may be unknown in c, and operations that are not in h; all but the last of a session are of h
-- with their returns, in their order; and what was read in c was written there, where it was in h
pub record IsShadow (h c : MemoryHistory) (image origin : OpId → Option OpId) : Type 0 where
  pub start : c.0 ≡ h.0
  pub forth : (a b : OpId) → image a ≡ Some b → IsOp c a × IsOp h b × (origin b ≡ Some a)
  pub back : (a b : OpId) → origin b ≡ Some a → image a ≡ Some b
  pub extended : (a b : OpId) (e : Operation) → image a ≡ Some b → entry c a ≡ Some e → (d : Operation) × (entry h b ≡ Some d) × Extends e d
  pub known : (a : OpId) → IsTrue (is_known c a) → (b : OpId) × (image a ≡ Some b)
  pub first : (a b : OpId) → IsOp c b → Precedes a b → IsTrue (is_known c a)
  pub in_order : (a b p q : OpId) → IsTrue (is_known c b) → Precedes a b → image a ≡ Some p → image b ≡ Some q → Precedes p q
  pub forced : (co : Order) → IsCausalOrder h co → AreReadsAfter h co → (a b p q : OpId) → Precedes a b → image a ≡ Some p → image b ≡ Some q
      → IsTrue (co p q)
  pub sources : (a r w : OpId) (x v : ℕ) → Reads c a x v → image a ≡ Some r → Writes h w x v → (b : OpId) × (origin w ≡ Some b)

abbrev joined : (OpId → Bool) → Option OpId → Bool
joined f None = false
joined f (Some p) = f p

joined-from : (f : OpId → Bool) (o : Option OpId) → IsTrue (joined f o) → (p : OpId) × (o ≡ Some p) × IsTrue (f p)
joined-from f None holds = let wrong : false ≡ true = holds in absurd cc
joined-from f (Some p) holds = (p, refl, holds)

module _ (c : MemoryHistory) (image : OpId → Option OpId) (co : Order) where
  -- an operation of h comes before one of c: before its image, or at or before that of the one before it, where its return is unknown
  abbrev open_before : ℕ → ℕ → OpId → Bool
  open_before s zero q = false
  open_before s (suc i) q = joined (λ (p : OpId). past co p q) (image (op s i))

  abbrev pub before : OpId → OpId → Bool
  before b q = if is_known c b then joined (λ (p : OpId). co q p) (image b) else open_before b.session b.index q

  abbrev pub shadow_order : Order
  shadow_order a b = every c b && joined (before b) (image a)

  pub before-known_to : (b p q : OpId) → IsTrue (is_known c b) → image b ≡ Some p → IsTrue (co q p) → IsTrue (before b q)
  before-known_to b p q known im holds =
      ap (λ (t : Bool). if t then joined (λ (p : OpId). co q p) (image b) else open_before b.session b.index q) known
      ∙ ap (joined (λ (p : OpId). co q p)) im ∙ holds

  pub before-known_from : (b p q : OpId) → IsTrue (is_known c b) → image b ≡ Some p → IsTrue (before b q) → IsTrue (co q p)
  before-known_from b p q known im holds =
      sym (ap (joined (λ (p : OpId). co q p)) im)
      ∙ sym (ap (λ (t : Bool). if t then joined (λ (p : OpId). co q p) (image b) else open_before b.session b.index q) known) ∙ holds

  pub before-open_to : (b p q : OpId) (i : ℕ) → is_known c b ≡ false → b.index ≡ suc i → image (op b.session i) ≡ Some p → IsTrue (past co p q)
      → IsTrue (before b q)
  before-open_to b p q i unknown is im holds =
      ap (λ (t : Bool). if t then joined (λ (p : OpId). co q p) (image b) else open_before b.session b.index q) unknown
      ∙ ap (λ (n : ℕ). open_before b.session n q) is ∙ ap (joined (λ (p : OpId). past co p q)) im ∙ holds

  pub before-open_from : (b q : OpId) → is_known c b ≡ false → IsTrue (before b q)
      → (i : ℕ) × (b.index ≡ suc i) × (p : OpId) × (image (op b.session i) ≡ Some p) × IsTrue (past co p q)
  before-open_from b q unknown holds =
      let plain : open_before b.session b.index q ≡ true =
      sym (ap (λ (t : Bool). if t then joined (λ (p : OpId). co q p) (image b) else open_before b.session b.index q) unknown) ∙ holds in
      elim b.index as (λ n. b.index ≡ n → open_before b.session n q ≡ true
      → (i : ℕ) × (b.index ≡ suc i) × (p : OpId) × (image (op b.session i) ≡ Some p) × IsTrue (past co p q)) [
        | zero ↦ λ _ wrong. absurd cc
        | suc i ↦ λ is inside. let r = joined-from (λ (p : OpId). past co p q) (image (op b.session i)) inside in (i, is, r.0, r.1, r.2)
      ] refl plain

  pub order-to : (a b p : OpId) → IsOp c b → image a ≡ Some p → IsTrue (before b p) → IsTrue (shadow_order a b)
  order-to a b p is_op im holds =
      and_from (every c b) (joined (before b) (image a)) (op-every c b is_op) (ap (joined (before b)) im ∙ holds)

  pub order-from : (a b : OpId) → IsTrue (shadow_order a b) → IsOp c b × (p : OpId) × (image a ≡ Some p) × IsTrue (before b p)
  order-from a b holds =
      let both = and_parts (every c b) (joined (before b) (image a)) holds in
      let found = joined-from (before b) (image a) both.1 in
      (every-op c b both.0, found.0, found.1, found.2)

module _ (h c : MemoryHistory) (image origin : OpId → Option OpId) (shadow : IsShadow h c image origin) (co : Order)
    (causal : IsCausalOrder h co) (after : AreReadsAfter h co) where
  abbrev order : Order
  order = shadow_order c image co

  -- what comes before an operation of c comes before its image
  pub image-after : (b q p : OpId) → image b ≡ Some p → IsTrue (before c image co b q) → IsTrue (co q p)
  image-after b q p im holds = ⊎_elim
      (λ (known : is_known c b ≡ true). before-known_from c image co b p q known im holds)
      (λ (unknown : is_known c b ≡ false).
      let (i, is, r, there, inside) = before-open_from c image co b q unknown holds in
      let precedes : Precedes (op b.session i) b = (refl, omega arith) in
      let step = shadow.forced co causal after (op b.session i) b r p precedes there im in
      ⊎_elim
      (λ (same : q ≡ r). subst (λ (t : OpId). IsTrue (co t p)) (sym same) step)
      (λ (earlier : IsTrue (co q r)). causal.transitive q r p earlier step)
      (past-parts co r q inside))
      (cases_Bool (is_known c b))

  before-down : (d p q : OpId) → IsTrue (before c image co d q) → IsTrue (co p q) → IsTrue (before c image co d p)
  before-down d p q holds less = ⊎_elim
      (λ (known : is_known c d ≡ true).
      let (t, im) = shadow.known d known in
      before-known_to c image co d t p known im (causal.transitive p q t less (before-known_from c image co d t q known im holds)))
      (λ (unknown : is_known c d ≡ false).
      let (i, is, r, there, inside) = before-open_from c image co d q unknown holds in
      before-open_to c image co d r p i unknown is there (past-from co r p (inr (⊎_elim
      (λ (same : q ≡ r). subst (λ (t : OpId). IsTrue (co p t)) same less)
      (λ (earlier : IsTrue (co q r)). causal.transitive p q r less earlier)
      (past-parts co r q inside)))))
      (cases_Bool (is_known c d))

  own-before : (a b p : OpId) → IsOp c b → Precedes a b → image a ≡ Some p → IsTrue (before c image co b p)
  own-before a b p is_op precedes im = ⊎_elim
      (λ (known : is_known c b ≡ true).
      let (q, there) = shadow.known b known in
      before-known_to c image co b q p known there (shadow.forced co causal after a b p q precedes im there))
      (λ (unknown : is_known c b ≡ false).
      let less = precedes.1 in
      let i = b.index - 1 in
      let is : b.index ≡ suc i = omega arith in
      let next : Precedes (op b.session i) b = (refl, omega arith) in
      let (r, there) = shadow.known (op b.session i) (shadow.first (op b.session i) b is_op next) in
      before-open_to c image co b r p i unknown is there (past-from co r p (⊎_elim {C = (p ≡ r) ⊎ IsTrue (co p r)}
      (λ (below : a.index < i). inr (shadow.forced co causal after a (op b.session i) p r (precedes.0, below) im there))
      (λ (over : i ≤ a.index).
      let same : a ≡ op b.session i = same_op a (op b.session i) precedes.0 (omega arith) in
      inl (same_Some _ _ (sym im ∙ ap image same ∙ there)))
      (cases_lt a.index i))))
      (cases_Bool (is_known c b))

  pub shadow-causal : IsCausalOrder c order
  shadow-causal = record {
    of_history = λ a b holds. let r = order-from c image co a b holds in ((shadow.forth a r.1 r.2).0, r.0);
    transitive = λ a b d first second.
        let r = order-from c image co a b first in
        let s = order-from c image co b d second in
        order-to c image co a d r.1 s.0 r.2 (before-down d r.1 s.1 s.3 (image-after b r.1 s.1 s.2 r.3));
    irreflexive = λ a holds. let r = order-from c image co a a holds in causal.irreflexive r.1 (image-after a r.1 r.1 r.2 r.3);
    program_order = λ a b is_op precedes.
        let (p, im) = shadow.known a (shadow.first a b is_op precedes) in
        order-to c image co a b p is_op im (own-before a b p is_op precedes im);
  }

  -- each operation of h is of one operation of c
  pub image-once : (a b p : OpId) → image a ≡ Some p → image b ≡ Some p → a ≡ b
  image-once a b p first second = same_Some _ _ (sym (shadow.forth a p first).2 ∙ (shadow.forth b p second).2)

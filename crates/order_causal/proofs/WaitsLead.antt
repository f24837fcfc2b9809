-- What leads where operations wait for others.
use Rattle.std.specs.Prelude.{◌≡◌, ◌≢◌, ◌+◌, ◌-◌, ◌<◌, List, length, slice_get}
use Rattle.std.proofs.Common.{arith, sym, ap, ◌∙◌, inl, inr, ⊎_elim, refl}
use Rattle.std.proofs.lemmas.Bool.{cases_eq}
use Rattle.model_history.specs.declared.op_id.OpId.{OpId}
use Rattle.order_causal.specs.Orders.{op, Leads}
use Rattle.order_causal.specs.Vectors.{IsListed, Counts, count}
use Rattle.order_causal.specs.Waits.{AreWaits, AreWaitsFor, IsWaitEdge, IsWaitingCycle}
use Rattle.order_causal.proofs.Items.{cases-op}
use Rattle.order_causal.proofs.VectorsLaws.{counted-listed}
use Rattle.order_causal.proofs.PathsLaws.{leads-edge, leads-first}

module _ (waits : Counts) where
  -- a cycle leads from an operation to itself
  pub cycle-leads : (ops : List OpId) → IsWaitingCycle waits ops → (a : OpId) × Leads (IsWaitEdge waits) a a
  cycle-leads ops cycle =
      let some = cycle.some in
      let next : length ops - 1 ≡ length ops - 2 + 1 = omega arith in (
        cycle.closed.0,
        (ops, length ops - 2, cycle.joined, cycle.closed.1, ap (slice_get ops) (sym next) ∙ cycle.closed.2),
      )

  module _ (are : AreWaits waits) (first : OpId → OpId → Type 0) (for_all : AreWaitsFor first waits) where
    -- what has to come before an operation leads to it
    pub first-leads : (a b : OpId) → first a b → a ≢ b → Leads (IsWaitEdge waits) a b
    first-leads a b is apart =
        let counted = for_all.each a b is in
        let held = are.held b a.session in
        let listed_b : IsListed waits b = counted-listed waits b a counted in
        let c : OpId = op a.session (count waits b a.session - 1) in
        let listed_c : IsListed waits c = omega arith in
        let last : count waits b a.session ≡ count waits b a.session - 1 + 1 = omega arith in
        ⊎_elim
        (λ (same : count waits b a.session ≡ a.index + 1). leads-edge (IsWaitEdge waits) a b (inr (same, apart)))
        (λ (other : count waits b a.session ≢ a.index + 1).
        let below : a.index < count waits b a.session - 1 = omega arith in
        ⊎_elim
        (λ (same : c ≡ b).
        let session : a.session ≡ b.session = ap (λ (o : OpId). o.session) same in
        let index : count waits b a.session - 1 ≡ b.index = ap (λ (o : OpId). o.index) same in
        leads-edge (IsWaitEdge waits) a b (inl ((session, omega arith), listed_b)))
        (λ (different : c ≢ b).
        leads-first (IsWaitEdge waits) a c b (inl ((refl, below), listed_c)) (leads-edge (IsWaitEdge waits) c b (inr (last, different))))
        (cases-op c b))
        (cases_eq (count waits b a.session) (a.index + 1))

-- What the pair that a derivation gives says of its pattern.
use Rattle.std.proofs.Common.{◌≡◌, ℕ, Bool, false, List, sym, subst, ◌∙◌}
use Rattle.std.specs.Prelude.{◌↔◌, IsTrue}
use Rattle.model_history.specs.declared.op_id.OpId.{OpId}
use Rattle.order_memory.specs.Memory.{MemoryHistory, initial, Writes, Reads, IsDifferentiated}
use Rattle.order_causal.specs.Orders.{only, program_past}
use Rattle.cert_check.proofs.ConvergentLaws.{only-same}
use Rattle.pattern_check.specs.declared.derivation.Line.{Line}
use Rattle.pattern_check.specs.Derivations.{Pair, IsDerivation}
use Rattle.pattern_check.specs.Patterns.{IsDerivationOfCycle, IsDerivationOfInitialRead}
use Rattle.pattern_check.proofs.Derived.{derivation-same}
use Rattle.pattern_check.proofs.ReadPasts.{itself}

module _ (h : MemoryHistory) (o : OpId) (lines : List Line) where
  module _ (none : (a b : OpId) → ¬ IsDerivation h o lines a b) where
    pub cycle-none : IsTrue false ↔ IsDerivationOfCycle h o lines
    cycle-none = ((λ no. absurd cc), λ shown. absurd (none shown.0 shown.0 shown.1))

    pub initial-none : IsTrue false ↔ IsDerivationOfInitialRead h o lines
    initial-none = ((λ no. absurd cc), λ shown. absurd (none shown.0 shown.1 shown.7))

  module _ (distinct : IsDifferentiated h) (p : Pair) (gives : IsDerivation h o lines p.0 p.1) where
    -- the pair is an operation and itself
    pub cycle-some : (test : Bool) → test ≡ only p.1 p.0 → IsTrue test ↔ IsDerivationOfCycle h o lines
    cycle-some test is = (
      (λ closes. (p.1, subst (λ (a : OpId). IsDerivation h o lines a p.1) (only-same p.1 p.0 (sym is ∙ closes)) gives)),
      λ shown.
          let ends = derivation-same h o lines distinct p.0 p.1 shown.0 shown.0 gives shown.1 in
          let same : p.1 ≡ p.0 = ends.1 ∙ sym ends.0 in
          is ∙ subst (λ (a : OpId). IsTrue (only p.1 a)) same (itself p.1),
    )

    -- the pair is a write and a read of the initial value of its variable
    pub initial-some : IsTrue (program_past o p.1) → (test : Bool)
        → IsTrue test ↔ ((x v : ℕ) × Writes h p.0 x v × Reads h p.1 x (initial h x)) → IsTrue test ↔ IsDerivationOfInitialRead h o lines
    initial-some kept test is = (
      (λ reads. let seen = is.0 reads in (p.0, p.1, seen.0, seen.1, seen.2, seen.3, kept, gives)),
      λ (w, r, x, v, wrote, reads, of_session, other).
          let ends = derivation-same h o lines distinct p.0 p.1 w r gives other in
          is.1 (
            x,
            v,
            subst (λ (a : OpId). Writes h a x v) (sym ends.0) wrote,
            subst (λ (a : OpId). Reads h a x (initial h x)) (sym ends.1) reads,
          ),
    )

    -- it ends behind the operation, or in another session
    pub initial-apart : program_past o p.1 ≡ false → IsTrue false ↔ IsDerivationOfInitialRead h o lines
    initial-apart apart = (
      (λ no. absurd cc),
      λ (w, r, x, v, wrote, reads, of_session, other).
          let ends = derivation-same h o lines distinct p.0 p.1 w r gives other in
          sym apart ∙ subst (λ (a : OpId). IsTrue (program_past o a)) (sym ends.1) of_session,
    )

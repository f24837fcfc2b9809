-- Where no kind against a criterion is present, it is met, and the makers make certificates that explain each operation.
use Rattle.std.proofs.Common.{refl, arith, ⊎_elim, inl, inr}
use Rattle.std.specs.Prelude.{◌≡◌, ◌≢◌, ◌⊎◌, IsTrue, Option, Some, None, Result, Ok, Err, IfNone, IfOk, IfSome, IsSome, IsSomeAnd}
use Rattle.model_history.specs.declared.op_id.OpId.{OpId}
use Rattle.order_causal.specs.Orders.{Leads}
use Rattle.cert_check.specs.declared.criterion.Criterion.{Criterion}
use Rattle.cert_check.specs.declared.criterion.Criterion.TheVariants.{Cc, Cm, Ccv}
use Rattle.cert_check.specs.Criteria.{Meets}
use Rattle.order_memory.specs.Memory.{MemoryHistory, IsDifferentiated, memory_answer}
use Rattle.order_memory.specs.MemoryHistories.{IsMemoryHistory}
use Rattle.order_memory.proofs.ReadAnswers.{history-fits}
use Rattle.order_memory.specs.OverwrittenReads.{HasOverwrittenRead, HasOverwrittenStart}
use Rattle.order_memory.specs.Relations.{CO, CF}
use Rattle.order_memory.specs.SourceOrder.{IsCyclic, LacksSource}
use Rattle.pattern_check.specs.declared.kind.Kind.TheVariants.{CyclicCO, ThinAirRead, WriteCOInitRead, WriteCORead, WriteHBInitRead, CyclicHB, CyclicCF}
use Rattle.pattern_check.specs.Kinds.{is_against, IsFreeOf}
use Rattle.judge_decision.proofs.Completeness.{free-meets}
use Rattle.order_memory.specs.HappenedBeforePatterns.{HasHBCycle, HasStartOverwrittenInHB}
use Rattle.cert_make_cm.specs.ByTurns.{HasNoTurns}
use Rattle.pattern_search.specs.Searches.{HasLargeHB, IsFreeOrLarge}
use Rattle.pattern_search.proofs.SearchedLaws.{large-less}
use Rattle.app_judging.specs.Decided.{HasFewRaises, IsDecided}

-- a certificate is made, and what is made is so
pub some-and : {A E : Type 0} (P : A → Type 0) (made : Result (Option A) E) → IfOk made (λ m. IsSome m) → IfOk made (λ m. IfSome m P) → IfOk made (λ m. IsSomeAnd m P)
some-and P (Ok (Some m)) some holds = holds
some-and P (Ok None) some holds = absurd cc
some-and P (Err e) some holds = tt

-- a certificate is made where what there is without one is not so
pub some-made : {A E : Type 0} {P : Type 0} (made : Result (Option A) E) → IfOk made (λ m. IfNone m P) → ¬ P → IfOk made (λ m. IsSome m)
some-made (Ok (Some m)) none refuted = refl
some-made (Ok None) none refuted = absurd (refuted none)
some-made (Err e) none refuted = tt

-- what is so where there is none
pub at-none : {A : Type 0} {P : Type 0} (found : Option A) → found ≡ None → IfNone found P → P
at-none (Some x) none holds = absurd cc
at-none None none holds = holds

module _ (h : MemoryHistory) where
  -- a search that is exact for the other criteria, and for causal memory but where a relation is too large, is exact
  pub none-free : (criterion : Criterion) → IsDecided h criterion → (criterion ≢ Cm → IsFreeOf h criterion) → (criterion ≡ Cm → IsFreeOrLarge h) → IsFreeOf h criterion
  none-free Cc decided exact memory = exact (λ same. absurd cc)
  none-free Cm decided exact memory =
      ⊎_elim (λ (free : IsFreeOf h Cm). free) (λ (large : HasLargeHB h (Some 19999)). absurd (decided.1 large)) (memory refl)
  none-free Ccv decided exact memory = exact (λ same. absurd cc)

  pub decided-distinct : (criterion : Criterion) → IsDecided h criterion → IsDifferentiated h
  decided-distinct Cc distinct = distinct
  decided-distinct Cm decided = decided.0
  decided-distinct Ccv distinct = distinct

  pub free-met : IsMemoryHistory h → (criterion : Criterion) → IsDecided h criterion → IsFreeOf h criterion → Meets memory_answer h criterion
  free-met history criterion decided = free-meets h (history-fits h _ history) (decided-distinct criterion decided) criterion

  module _ (distinct : IsDifferentiated h) (criterion : Criterion) (free : IsFreeOf h criterion) where
    pub free-acyclic : IsTrue (is_against CyclicCO criterion) → ¬ IsCyclic h
    free-acyclic against cyclic = free CyclicCO against (distinct, cyclic)

    pub free-sourced : IsTrue (is_against ThinAirRead criterion) → ¬ LacksSource h
    free-sourced against lacks = free ThinAirRead against (distinct, (lacks.0, (lacks.1, lacks.2, lacks.3, lacks.4, lacks.5)))

    pub free-start : IsTrue (is_against WriteCOInitRead criterion) → ¬ HasOverwrittenStart h
    free-start against shown = free WriteCOInitRead against (distinct, shown)

    pub free-read : IsTrue (is_against WriteCORead criterion) → ¬ HasOverwrittenRead h
    free-read against shown = free WriteCORead against (distinct, shown)

    pub free-conflicts : IsTrue (is_against CyclicCF criterion) → (a : OpId) → ¬ Leads (λ b c. CO h b c ⊎ CF h b c) a a
    free-conflicts against a cycle = free CyclicCF against (distinct, (a, cycle))

    pub free-start_in_hb : IsTrue (is_against WriteHBInitRead criterion) → ¬ HasStartOverwrittenInHB h
    free-start_in_hb against shown = free WriteHBInitRead against (distinct, shown)

    pub free-cycle_in_hb : IsTrue (is_against CyclicHB criterion) → ¬ HasHBCycle h
    free-cycle_in_hb against cycle = free CyclicHB against (distinct, cycle)

  -- where no kind against causal memory is present and no relation is too large, each operation may take turns
  pub free-turns : IsDifferentiated h → IsFreeOf h Cm → HasFewRaises h → ¬ ((IsCyclic h ⊎ LacksSource h) ⊎ HasNoTurns h)
  free-turns distinct free few (inl (inl cyclic)) = free-acyclic distinct Cm free refl cyclic
  free-turns distinct free few (inl (inr lacks)) = free-sourced distinct Cm free refl lacks
  free-turns distinct free few (inr (o, is_op, inl cycle)) = free-cycle_in_hb distinct Cm free refl (o, cycle.0, cycle.1)
  free-turns distinct free few (inr (o, is_op, inr large)) = few (large-less h 19999 100000 (omega arith) (o, is_op, large))

-- Which kinds are present in a memory history, by what a search for them found.
use Rattle.std.specs.Prelude.{◌≢◌, ◌⊎◌, IsTrue, Some, true}
use Rattle.std.proofs.Common.{⊎_elim, inl, inr, refl}
use Rattle.model_history.specs.declared.op_id.OpId.{OpId}
use Rattle.cert_check.specs.declared.criterion.Criterion.{Criterion}
use Rattle.cert_check.specs.declared.criterion.Criterion.TheVariants.{Cc, Cm, Ccv}
use Rattle.order_memory.specs.Memory.{MemoryHistory}
use Rattle.order_memory.specs.OverwrittenReads.{HasOverwrittenRead, HasOverwrittenStart}
use Rattle.order_memory.specs.SourceOrder.{IsCyclic, LacksSource, SourceOrder}
use Rattle.order_memory.specs.Steps.Indexed.{IsOrdered, IsUnordered}
use Rattle.order_memory.proofs.FirstWrites.{CO-by_sources, CO-from_sources}
use Rattle.pattern_check.specs.declared.kind.Kind.{Kind}
use Rattle.pattern_check.specs.declared.kind.Kind.TheVariants.{CyclicCO, ThinAirRead, WriteCOInitRead, WriteCORead, WriteHBInitRead, CyclicHB, CyclicCF}
use Rattle.pattern_check.specs.Kinds.{is_against, IsFreeOf, IsThinAirRead, Shows}
use Rattle.pattern_search.specs.Searches.{HasLargeHB, IsClear, IsFreeOrLarge}

-- what is against causal consistency is against causal memory
pub against-memory : (kind : Kind) → IsTrue (is_against kind Cc) → IsTrue (is_against kind Cm)
against-memory CyclicCO against = refl
against-memory ThinAirRead against = refl
against-memory WriteCOInitRead against = refl
against-memory WriteCORead against = refl
against-memory WriteHBInitRead against = absurd cc
against-memory CyclicHB against = absurd cc
against-memory CyclicCF against = absurd cc

module _ (h : MemoryHistory) where
  -- a history without an order has a cycle or a thin-air read
  pub unordered-shown : IsUnordered h → ¬ IsCyclic h → ¬ ((r : OpId) → ¬ IsThinAirRead h r)
  unordered-shown unordered acyclic none = ⊎_elim
      (λ (cyclic : (a : OpId) × SourceOrder h a a). acyclic (cyclic.0, CO-from_sources h cyclic.0 cyclic.0 cyclic.1))
      (λ (lacks : LacksSource h). none lacks.0 (lacks.1, lacks.2, lacks.3, lacks.4, lacks.5))
      unordered

  -- a history with an order has neither; without overwritten reads it has no kind against causal consistency
  pub free-consistent : IsOrdered h → ¬ HasOverwrittenStart h → ¬ HasOverwrittenRead h → IsFreeOf h Cc
  free-consistent ordered start read CyclicCO against present =
      ordered.acyclic present.1.0 (CO-by_sources h present.0 present.1.0 present.1.0 present.1.1)
  free-consistent ordered start read ThinAirRead against present =
      let read = present.1.1 in ordered.sources (present.1.0, read.0, read.1, read.2, read.3, read.4)
  free-consistent ordered start read WriteCOInitRead against present = start present.1
  free-consistent ordered start read WriteCORead against present = read present.1
  free-consistent ordered start read WriteHBInitRead against present = absurd cc
  free-consistent ordered start read CyclicHB against present = absurd cc
  free-consistent ordered start read CyclicCF against present = absurd cc

  -- and without cycles with conflicts none against causal convergence
  pub free-convergent : IsFreeOf h Cc → ¬ Shows h CyclicCF → IsFreeOf h Ccv
  free-convergent free acyclic CyclicCO against present = free CyclicCO against present
  free-convergent free acyclic ThinAirRead against present = free ThinAirRead against present
  free-convergent free acyclic WriteCOInitRead against present = free WriteCOInitRead against present
  free-convergent free acyclic WriteCORead against present = free WriteCORead against present
  free-convergent free acyclic WriteHBInitRead against present = absurd cc
  free-convergent free acyclic CyclicHB against present = absurd cc
  free-convergent free acyclic CyclicCF against present = acyclic present.1

  -- and without those of happened-before none against causal memory
  pub free-memory : IsFreeOf h Cc → IsClear h → IsFreeOf h Cm
  free-memory free clear CyclicCO against present = free CyclicCO against present
  free-memory free clear ThinAirRead against present = free ThinAirRead against present
  free-memory free clear WriteCOInitRead against present = free WriteCOInitRead against present
  free-memory free clear WriteCORead against present = free WriteCORead against present
  free-memory free clear WriteHBInitRead against present = clear.1 present.1
  free-memory free clear CyclicHB against present = clear.0 present.1
  free-memory free clear CyclicCF against present = absurd cc

  pub free-or-large : IsFreeOf h Cc → IsClear h ⊎ HasLargeHB h (Some 19999) → IsFreeOrLarge h
  free-or-large free found = ⊎_elim
      (λ (clear : IsClear h). inl (free-memory free clear))
      (λ (large : HasLargeHB h (Some 19999)). inr large)
      found

  pub free-of : (criterion : Criterion) → criterion ≢ Cm → IsFreeOf h Cc → (IsTrue (is_against CyclicCF criterion) → ¬ Shows h CyclicCF) → IsFreeOf h criterion
  free-of Cc apart free acyclic = free
  free-of Cm apart free acyclic = absurd (apart (λ i. Cm))
  free-of Ccv apart free acyclic = free-convergent free (acyclic (λ i. true))

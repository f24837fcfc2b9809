-- A memory history in which no kind against a criterion is present meets the criterion.
use Rattle.std.proofs.Common.{refl}
use Rattle.std.specs.Prelude.{IsTrue}
use Rattle.cert_check.specs.declared.criterion.Criterion.{Criterion}
use Rattle.cert_check.specs.declared.criterion.Criterion.TheVariants.{Cc, Cm, Ccv}
use Rattle.cert_check.specs.Criteria.{Meets}
use Rattle.order_memory.specs.Memory.{MemoryHistory, IsDifferentiated, memory_answer}
use Rattle.order_memory.proofs.ReadAnswers.{Fits}
use Rattle.order_memory.specs.SourceOrder.{LacksSource}
use Rattle.pattern_check.specs.declared.kind.Kind.{Kind}
use Rattle.pattern_check.specs.declared.kind.Kind.TheVariants.{CyclicCO, ThinAirRead, WriteCOInitRead, WriteCORead, WriteHBInitRead, CyclicHB, CyclicCF}
use Rattle.pattern_check.specs.Kinds.{is_against, IsFreeOf, Shows}
use Rattle.cert_make_cc.proofs.SourceCertificates.{consistency-met}
use Rattle.cert_make_cm.proofs.MemoryMet.{memory-met}
use Rattle.cert_make_ccv.proofs.ConflictCertificates.{convergence-met}

module _ (h : MemoryHistory) (fits : Fits h) (distinct : IsDifferentiated h) where
  none-shown : (criterion : Criterion) → IsFreeOf h criterion → (kind : Kind) → IsTrue (is_against kind criterion) → ¬ Shows h kind
  none-shown criterion free kind against shown = free kind against (distinct, shown)

  -- no source is missing
  all-sourced : (criterion : Criterion) → IsFreeOf h criterion → ¬ LacksSource h
  all-sourced criterion free lacks = none-shown criterion free ThinAirRead refl (lacks.0, (lacks.1, lacks.2, lacks.3, lacks.4, lacks.5))

  pub free-meets : (criterion : Criterion) → IsFreeOf h criterion → Meets memory_answer h criterion
  free-meets Cc free = consistency-met h fits (none-shown Cc free CyclicCO refl) (all-sourced Cc free)
      (none-shown Cc free WriteCOInitRead refl) (none-shown Cc free WriteCORead refl)
  free-meets Cm free = memory-met h fits distinct (none-shown Cm free CyclicCO refl) (all-sourced Cm free)
      (none-shown Cm free CyclicHB refl) (none-shown Cm free WriteHBInitRead refl)
  free-meets Ccv free = convergence-met h fits (all-sourced Ccv free) (none-shown Ccv free WriteCOInitRead refl)
      (λ a cycle. none-shown Ccv free CyclicCF refl (a, cycle))

-- What follows where no kind against causal consistency is shown.
use Rattle.std.specs.Prelude.{◌⊎◌}
use Rattle.model_history.specs.declared.op_id.OpId.{OpId}
use Rattle.order_causal.specs.Orders.{Leads}
use Rattle.cert_check.specs.declared.criterion.Criterion.TheVariants.{Cc, Ccv}
use Rattle.pattern_check.specs.declared.kind.Kind.TheVariants.{CyclicCO, ThinAirRead, WriteCOInitRead, WriteCORead, WriteHBInitRead, CyclicHB, CyclicCF}
use Rattle.pattern_check.specs.Kinds.{IsFreeOf}
use Rattle.order_memory.specs.Memory.{MemoryHistory}
use Rattle.order_memory.specs.Relations.{CO, CF}
use Rattle.order_memory.specs.Memory.{IsDifferentiated, memory_answer}
use Rattle.order_memory.proofs.ReadAnswers.{Fits}
use Rattle.cert_check.specs.Criteria.{Meets}
use Rattle.judge_decision.proofs.Completeness.{free-meets}
use Rattle.judge_memory.specs.LongHistories.{IsLongHistory}
use Rattle.judge_decision.specs.Steps.Consistency.{IsConsistent}
use Rattle.judge_decision.proofs.Firsts.{sourceless}

-- each known return fits its call
pub long-fits : (h : MemoryHistory) → IsLongHistory h → Fits h
long-fits h is o c r known = (is.each o.session).fitting o.index c r known

module _ (h : MemoryHistory) (consistent : IsConsistent h) where
  pub free-consistent : IsFreeOf h Cc
  free-consistent CyclicCO against present = consistent.acyclic present.1
  free-consistent ThinAirRead against present = consistent.sourced (sourceless h present.1)
  free-consistent WriteCOInitRead against present = consistent.start present.1
  free-consistent WriteCORead against present = consistent.read present.1
  free-consistent WriteHBInitRead against present = absurd cc
  free-consistent CyclicHB against present = absurd cc
  free-consistent CyclicCF against present = absurd cc

  pub free-convergent : ((a : OpId) → ¬ Leads (λ b c. CO h b c ⊎ CF h b c) a a) → IsFreeOf h Ccv
  free-convergent none CyclicCO against present = consistent.acyclic present.1
  free-convergent none ThinAirRead against present = consistent.sourced (sourceless h present.1)
  free-convergent none WriteCOInitRead against present = consistent.start present.1
  free-convergent none WriteCORead against present = consistent.read present.1
  free-convergent none WriteHBInitRead against present = absurd cc
  free-convergent none CyclicHB against present = absurd cc
  free-convergent none CyclicCF against present = none present.1.0 present.1.1

  module _ (is : IsLongHistory h) (distinct : IsDifferentiated h) where
    pub consistent_meets : Meets memory_answer h Cc
    consistent_meets = free-meets h (long-fits h is) distinct Cc free-consistent

    pub convergent_meets : ((a : OpId) → ¬ Leads (λ b c. CO h b c ⊎ CF h b c) a a) → Meets memory_answer h Ccv
    convergent_meets none = free-meets h (long-fits h is) distinct Ccv (free-convergent none)

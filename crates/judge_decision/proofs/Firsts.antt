-- Which kinds come first.
use Rattle.std.proofs.Common.{arith}
use Rattle.cert_check.specs.declared.criterion.Criterion.{Criterion}
use Rattle.cert_check.specs.declared.criterion.Criterion.TheVariants.{Cm, Ccv}
use Rattle.pattern_check.specs.declared.kind.Kind.{Kind}
use Rattle.pattern_check.specs.declared.kind.Kind.TheVariants.{CyclicCO, ThinAirRead, WriteCOInitRead, WriteCORead, WriteHBInitRead, CyclicHB, CyclicCF}
use Rattle.pattern_check.specs.Kinds.{Shows}
use Rattle.order_memory.specs.Memory.{MemoryHistory}
use Rattle.order_memory.specs.OverwrittenReads.{HasOverwrittenStart}
use Rattle.order_memory.specs.SourceOrder.{IsCyclic, LacksSource}
use Rattle.pattern_search.specs.FirstKinds.{ComesFirst}
use Rattle.judge_decision.specs.Steps.Consistency.{IsConsistent, IsFirstShown}

-- a read of a value that nobody wrote lacks its source
pub sourceless : (h : MemoryHistory) → Shows h ThinAirRead → LacksSource h
sourceless h (r, (x, v, reads, apart, unwritten)) = (r, x, v, reads, apart, unwritten)

module _ (h : MemoryHistory) where
  pub first_cyclic : IsFirstShown h CyclicCO
  first_cyclic CyclicCO below = absurd (omega arith)
  first_cyclic ThinAirRead below = absurd (omega arith)
  first_cyclic WriteCOInitRead below = absurd (omega arith)
  first_cyclic WriteCORead below = absurd (omega arith)
  first_cyclic WriteHBInitRead below = absurd (omega arith)
  first_cyclic CyclicHB below = absurd (omega arith)
  first_cyclic CyclicCF below = absurd (omega arith)

  pub first_thin_air : ¬ IsCyclic h → IsFirstShown h ThinAirRead
  first_thin_air acyclic CyclicCO below = acyclic
  first_thin_air acyclic ThinAirRead below = absurd (omega arith)
  first_thin_air acyclic WriteCOInitRead below = absurd (omega arith)
  first_thin_air acyclic WriteCORead below = absurd (omega arith)
  first_thin_air acyclic WriteHBInitRead below = absurd (omega arith)
  first_thin_air acyclic CyclicHB below = absurd (omega arith)
  first_thin_air acyclic CyclicCF below = absurd (omega arith)

  pub first_start : ¬ IsCyclic h → ¬ LacksSource h → IsFirstShown h WriteCOInitRead
  first_start acyclic sourced CyclicCO below = acyclic
  first_start acyclic sourced ThinAirRead below = λ shown. sourced (sourceless h shown)
  first_start acyclic sourced WriteCOInitRead below = absurd (omega arith)
  first_start acyclic sourced WriteCORead below = absurd (omega arith)
  first_start acyclic sourced WriteHBInitRead below = absurd (omega arith)
  first_start acyclic sourced CyclicHB below = absurd (omega arith)
  first_start acyclic sourced CyclicCF below = absurd (omega arith)

  pub first_read : ¬ IsCyclic h → ¬ LacksSource h → ¬ HasOverwrittenStart h → IsFirstShown h WriteCORead
  first_read acyclic sourced start CyclicCO below = acyclic
  first_read acyclic sourced start ThinAirRead below = λ shown. sourced (sourceless h shown)
  first_read acyclic sourced start WriteCOInitRead below = start
  first_read acyclic sourced start WriteCORead below = absurd (omega arith)
  first_read acyclic sourced start WriteHBInitRead below = absurd (omega arith)
  first_read acyclic sourced start CyclicHB below = absurd (omega arith)
  first_read acyclic sourced start CyclicCF below = absurd (omega arith)

  -- what is first shown comes first against each criterion
  pub first_comes : (criterion : Criterion) (kind : Kind) → IsFirstShown h kind → ComesFirst h criterion kind
  first_comes criterion kind first other before against present = first other before present.1

  module _ (consistent : IsConsistent h) where
    pub first_conflict : ComesFirst h Ccv CyclicCF
    first_conflict CyclicCO before against present = consistent.acyclic present.1
    first_conflict ThinAirRead before against present = consistent.sourced (sourceless h present.1)
    first_conflict WriteCOInitRead before against present = consistent.start present.1
    first_conflict WriteCORead before against present = consistent.read present.1
    first_conflict WriteHBInitRead before against present = absurd cc
    first_conflict CyclicHB before against present = absurd cc
    first_conflict CyclicCF before against present = absurd (omega arith)

    pub first_overwritten : ComesFirst h Cm WriteHBInitRead
    first_overwritten CyclicCO before against present = consistent.acyclic present.1
    first_overwritten ThinAirRead before against present = consistent.sourced (sourceless h present.1)
    first_overwritten WriteCOInitRead before against present = consistent.start present.1
    first_overwritten WriteCORead before against present = consistent.read present.1
    first_overwritten WriteHBInitRead before against present = absurd (omega arith)
    first_overwritten CyclicHB before against present = absurd (omega arith)
    first_overwritten CyclicCF before against present = absurd (omega arith)

use Rattle.order_memory.specs.Steps.GrowthSteps.{Always, IsSettled, NoMore, left_of}
use Rattle.order_memory.specs.Steps.HappenedBefores.{AreReadsFollowed, HasGrown, taken_of}
use Rattle.order_memory.proofs.happened_before.HappenedBefore.saturate.Given as goal

-- the relation so far
abbrev pub invariant-loop-raised : goal.invariant-loop-raised
invariant-loop-raised l = record {
  grown : HasGrown l.h Always l.fn.self l.self;
  settled : IsSettled NoMore l.self.order;
  reads : AreReadsFollowed l.h NoMore (taken_of l.self) l.self;
}

-- how far the relation is from being given up
abbrev pub decreases-loop-raised : goal.decreases-loop-raised
decreases-loop-raised l = left_of l.h l.self.order

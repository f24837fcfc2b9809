-- What is decided where no kind against causal consistency is present.
use Rattle.std.specs.Prelude.{◌≡◌, ◌⊎◌}
use Rattle.std.proofs.Common.{refl, subst, ⊎_elim}
use Rattle.pattern_check.specs.declared.kind.Kind.TheVariants.{CyclicCO, CyclicHB, ThinAirRead}
use Rattle.pattern_check.specs.declared.pattern.Pattern.{Pattern}
use Rattle.pattern_check.specs.Kinds.{IsFreeOf}
use Rattle.pattern_check.specs.Patterns.{IsBadPattern, kind_of}
use Rattle.cert_check.specs.declared.criterion.Criterion.{Criterion}
use Rattle.cert_check.specs.declared.criterion.Criterion.TheVariants.{Cc, Cm, Ccv}
use Rattle.model_history.specs.declared.op_id.OpId.{OpId}
use Rattle.order_memory.specs.Memory.{MemoryHistory, IsDifferentiated}
use Rattle.order_memory.specs.SourceOrder.{LacksSource, SourceOrder}
use Rattle.order_memory.specs.Steps.Indexed.{IsUnordered}
use Rattle.order_memory.proofs.FirstWrites.{CO-from_sources}
use Rattle.pattern_search.specs.declared.searched.Searched.{Searched}
use Rattle.pattern_search.specs.declared.searched.Searched.TheVariants.{Nothing}
use Rattle.pattern_search.specs.Searches.{ComesTo, HasPattern}
use Rattle.pattern_search.proofs.NothingFound.{against-memory}
use Rattle.judge_decision.specs.declared.deciding_limited.Decisions.{Decisions}
use Rattle.judge_decision.specs.Decisions.{IsDecided, decision_for}

module _ (h : MemoryHistory) where
  pub bad-memory : (pattern : Pattern) → IsBadPattern h Cc pattern → IsBadPattern h Cm pattern
  bad-memory pattern bad = record {
    differentiated = bad.differentiated;
    against = against-memory (kind_of pattern) bad.against;
    shown = bad.shown;
  }

  -- a history of distinct values without these kinds has a causal order
  pub free-ordered : IsDifferentiated h → IsFreeOf h Cc → ¬ IsUnordered h
  free-ordered distinct free unordered = ⊎_elim
      (λ (cyclic : (a : OpId) × SourceOrder h a a). free CyclicCO refl (distinct, (cyclic.0, CO-from_sources h cyclic.0 cyclic.0 cyclic.1)))
      (λ (lacks : LacksSource h). free ThinAirRead refl (distinct, (lacks.0, (lacks.1, lacks.2, lacks.3, lacks.4, lacks.5))))
      unordered

  -- where no read is present, none is shown
  pub cycles-left : (A B : Type 0) (starts cycles : Searched) → starts ≡ Nothing → HasPattern starts ⊎ ComesTo h CyclicHB A B cycles
      → ComesTo h CyclicHB A B cycles
  cycles-left A B starts cycles nothing found = ⊎_elim
      (λ (shown : HasPattern starts). absurd (subst (λ (s : Searched). HasPattern s) nothing shown))
      (λ (comes : ComesTo h CyclicHB A B cycles). comes)
      found

  -- what is decided for each criterion
  pub all-decided : (all : Decisions) → IsDecided h Cc all.cc → IsDecided h Cm all.cm → IsDecided h Ccv all.ccv
      → (criterion : Criterion) → IsDecided h criterion (decision_for all criterion)
  all-decided all cc_decided cm_decided ccv_decided Cc = cc_decided
  all-decided all cc_decided cm_decided ccv_decided Cm = cm_decided
  all-decided all cc_decided cm_decided ccv_decided Ccv = ccv_decided

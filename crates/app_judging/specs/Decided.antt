-- The memory histories and criteria for which the search for patterns and the makers of certificates are exact.
use Rattle.std.specs.Prelude.{Some}
use Rattle.cert_check.specs.declared.criterion.Criterion.{Criterion}
use Rattle.cert_check.specs.declared.criterion.Criterion.TheVariants.{Cc, Cm, Ccv}
use Rattle.order_memory.specs.Memory.{MemoryHistory, IsDifferentiated}
use Rattle.pattern_search.specs.Searches.{HasLargeHB}
use Rattle.pattern_search.specs.declared.search.derivations.TheConstants.{MAX_RAISES}

-- no happened-before relation has more than 19,999 pairs that the causal order doesn't have
abbrev pub HasFewRaises : MemoryHistory → Type 0
HasFewRaises h = ¬ HasLargeHB h (Some MAX_RAISES)

-- values are distinct, and for causal memory no happened-before relation is too large
abbrev pub IsDecided : MemoryHistory → Criterion → Type 0
IsDecided h Cc = IsDifferentiated h
IsDecided h Cm = IsDifferentiated h × HasFewRaises h
IsDecided h Ccv = IsDifferentiated h

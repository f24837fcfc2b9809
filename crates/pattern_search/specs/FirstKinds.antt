-- Which kind a search for bad patterns names, of those that are present: the first, in the order in which the kinds are listed
-- here. (This project's profile.)
use Rattle.std.specs.Prelude.{◌≡◌, ◌⊎◌, ℕ, ◌<◌, IsTrue, Some}
use Rattle.pattern_check.specs.declared.kind.Kind.{Kind}
use Rattle.pattern_check.specs.declared.kind.Kind.TheVariants.{CyclicCO, ThinAirRead, WriteCOInitRead, WriteCORead, WriteHBInitRead, CyclicHB, CyclicCF}
use Rattle.pattern_check.specs.Kinds.{is_against, IsPresent}
use Rattle.cert_check.specs.declared.criterion.Criterion.{Criterion}
use Rattle.order_memory.specs.Memory.{MemoryHistory}
use Rattle.pattern_search.specs.declared.search.derivations.TheConstants.{MAX_RAISES}
use Rattle.pattern_search.specs.Searches.{HasLargeHB}

-- the place of a kind in the list
abbrev pub place_of : Kind → ℕ
place_of CyclicCO = 0
place_of ThinAirRead = 1
place_of WriteCOInitRead = 2
place_of WriteCORead = 3
place_of WriteHBInitRead = 4
place_of CyclicHB = 5
place_of CyclicCF = 6

module _ (h : MemoryHistory) (criterion : Criterion) where
  -- of the kinds that are against the criterion, none that stands before this one is present
  abbrev pub ComesFirst : Kind → Type 0
  ComesFirst kind = (other : Kind) → place_of other < place_of kind → IsTrue (is_against other criterion) → ¬ IsPresent h other

  -- or the kind is a cycle of happened-before, and some relation has more than 19,999 pairs that the causal order doesn't have
  abbrev pub ComesFirstOrLarge : Kind → Type 0
  ComesFirstOrLarge kind = ComesFirst kind ⊎ ((kind ≡ CyclicHB) × HasLargeHB h (Some MAX_RAISES))

-- against whichever criterion
abbrev pub ComesFirstForEach : MemoryHistory → Kind → Type 0
ComesFirstForEach h kind = (criterion : Criterion) → ComesFirst h criterion kind

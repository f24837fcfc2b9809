-- What a search of the happened-before relations of a memory history comes to.
use Rattle.std.specs.Prelude.{◌≡◌, ◌⊎◌, ℕ, MatchOption, Option, Some}
use Rattle.pattern_search.specs.declared.search.derivations.TheConstants.{MAX_RAISES}
use Rattle.model_history.specs.declared.op_id.OpId.{OpId}
use Rattle.model_history.specs.History.{IsOp}
use Rattle.cert_check.specs.declared.criterion.Criterion.TheVariants.{Cm}
use Rattle.order_memory.specs.HappenedBeforePatterns.{HasHBCycle, HasStartOverwrittenInHB}
use Rattle.order_memory.specs.Memory.{MemoryHistory}
use Rattle.order_memory.specs.Steps.HappenedBefores.{HasMorePairs}
use Rattle.pattern_search.specs.declared.searched.Searched.{Searched}
use Rattle.pattern_search.specs.declared.searched.Searched.TheVariants.{Pattern, Present, Open, Nothing}
use Rattle.pattern_search.specs.declared.searched.SearchedKinds.{SearchedKinds}
use Rattle.pattern_check.specs.declared.kind.Kind.{Kind}
use Rattle.pattern_check.specs.declared.kind.Kind.TheVariants.{WriteHBInitRead, CyclicHB}
use Rattle.pattern_check.specs.Kinds.{IsFreeOf, IsPresent}
use Rattle.pattern_check.specs.Patterns.{IsBadPattern, kind_of}

module _ (h : MemoryHistory) where
  -- an operation whose happened-before relation has more than so many pairs that the causal order doesn't have, if a number
  -- is given
  abbrev pub HasLargeHB : Option ℕ → Type 0
  HasLargeHB most = MatchOption most ⊥ (λ n. (o : OpId) × IsOp h o × HasMorePairs h o n)

  -- neither kind is shown
  abbrev pub IsClear : Type 0
  IsClear = (¬ HasHBCycle h) × (¬ HasStartOverwrittenInHB h)

  -- no kind against causal memory is present, or some relation has more than 19,999 pairs that the causal order doesn't have
  abbrev pub IsFreeOrLarge : Type 0
  IsFreeOrLarge = IsFreeOf h Cm ⊎ HasLargeHB (Some MAX_RAISES)

-- a search for a kind shows a bad pattern of it, or says that it is present, where some relation has more than 19,999 pairs that
-- the causal order doesn't have, or is open and one thing is so, or comes to nothing and another is so
abbrev pub ComesTo : MemoryHistory → Kind → Type 0 → Type 0 → Searched → Type 0
ComesTo h kind undecided nothing (Pattern pattern) = IsBadPattern h Cm pattern × (kind_of pattern ≡ kind)
ComesTo h kind undecided nothing Present = IsPresent h kind × HasLargeHB h (Some MAX_RAISES)
ComesTo h kind undecided nothing Open = undecided
ComesTo h kind undecided nothing Nothing = nothing

-- a pattern is shown
abbrev pub HasPattern : Searched → Type 0
HasPattern (Pattern pattern) = Unit {0}
HasPattern Present = ⊥
HasPattern Open = ⊥
HasPattern Nothing = ⊥

-- a search for both kinds comes to this for a read of the initial value after a write, and where none is shown, to this for a
-- cycle: it is open only where some relation has more pairs than a number, if one is given, that the causal order doesn't have
pub record AreSearched (h : MemoryHistory) (most : Option ℕ) (no_start no_cycle : Type 0) (kinds : SearchedKinds) : Type 0 where
  pub starts : ComesTo h WriteHBInitRead (HasLargeHB h most) no_start kinds.starts
  pub cycles : HasPattern kinds.starts ⊎ ComesTo h CyclicHB (HasLargeHB h most) no_cycle kinds.cycles

-- what two searches for a kind come to: the first pattern, else that it is present where one says so, and nothing where both come
-- to nothing
abbrev pub either : Searched → Searched → Searched
either (Pattern pattern) other = Pattern pattern
either Present (Pattern pattern) = Pattern pattern
either Present Present = Present
either Present Open = Present
either Present Nothing = Present
either Open (Pattern pattern) = Pattern pattern
either Open Present = Present
either Open Open = Open
either Open Nothing = Open
either Nothing other = other

-- Which pattern is found, of those that show that a history does not meet a criterion.
--
-- What a pattern is and what it shows does not rest on these: they say which one the search answers.
use Rattle.std.specs.Prelude.{◌≡◌, ◌⊎◌, ℕ, ◌<◌, Option, Some}
use Rattle.model_history.specs.declared.op_id.OpId.{OpId}
use Rattle.pattern_check.specs.declared.pattern.Pattern.{Pattern}
use Rattle.pattern_check.specs.declared.pattern.Pattern.TheVariants.{ThinAirRead}
use Rattle.order_memory.specs.HappenedBeforePatterns.{HasStartOverwrittenInHB}
use Rattle.order_memory.specs.Memory.{MemoryHistory}
use Rattle.pattern_check.specs.declared.kind.Kind.{Kind}
use Rattle.pattern_check.specs.declared.kind.Kind.TheVariants.{WriteHBInitRead, CyclicHB}
use Rattle.pattern_search.specs.declared.search.derivations.TheConstants.{MAX_RAISES}
use Rattle.pattern_search.specs.declared.searched.SearchedKinds.{SearchedKinds}
use Rattle.pattern_search.specs.Searches.{AreSearched, HasLargeHB}
use Rattle.pattern_search.specs.Steps.Relations.{HasNoCycleBefore, HasNoStartBefore}
use Rattle.pattern_check.specs.Kinds.{IsThinAirRead}
use Rattle.order_causal.specs.Orders.{op, IsEarlier}

-- a thin-air read, and no earlier operation is one
pub record IsFirst (h : MemoryHistory) (r : OpId) : Type 0 where
  pub thin_air : IsThinAirRead h r
  pub none_earlier : (a : OpId) → IsEarlier a r → ¬ IsThinAirRead h a

-- a pattern that is a thin-air read is the first one
abbrev pub IsFirstFound : MemoryHistory → Pattern → Type 0
IsFirstFound h pattern = (r : OpId) → pattern ≡ ThinAirRead r → IsFirst h r

-- a thin-air read of a session, and no earlier operation of that session is one: a private function alone names this in its
-- contract
pub record IsFirstOf (h : MemoryHistory) (s : ℕ) (r : OpId) : Type 0 where
  pub thin_air : IsThinAirRead h r
  pub of_session : r.session ≡ s
  pub none_earlier : (i : ℕ) → i < r.index → ¬ IsThinAirRead h (op s i)

-- the kind of a read of the initial value after a write, or that of a cycle, where such a read is not present or some relation has
-- more than 19,999 pairs that the causal order doesn't have: a private function alone names this in its contract
abbrev pub IsFirstHappened : MemoryHistory → Kind → Type 0
IsFirstHappened h kind =
    (kind ≡ WriteHBInitRead) ⊎ ((kind ≡ CyclicHB) × ((¬ HasStartOverwrittenInHB h) ⊎ HasLargeHB h (Some MAX_RAISES)))

-- the relations of the first n sessions are searched for both kinds
abbrev pub AreSearchedBefore : MemoryHistory → Option ℕ → ℕ → SearchedKinds → Type 0
AreSearchedBefore h most n kinds = AreSearched h most (HasNoStartBefore h n) (HasNoCycleBefore h n) kinds

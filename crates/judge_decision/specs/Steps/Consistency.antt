-- What is known of kinds while the decision goes on.
use Rattle.std.specs.Prelude.{◌<◌, IsTrue}
use Rattle.cert_check.specs.declared.criterion.Criterion.{Criterion}
use Rattle.pattern_check.specs.declared.kind.Kind.{Kind}
use Rattle.pattern_check.specs.Kinds.{is_against, Shows}
use Rattle.order_memory.specs.Memory.{MemoryHistory}
use Rattle.order_memory.specs.OverwrittenReads.{HasOverwrittenRead, HasOverwrittenStart}
use Rattle.order_memory.specs.SourceOrder.{IsCyclic, LacksSource}
use Rattle.pattern_search.specs.FirstKinds.{place_of}

-- the kind excludes each criterion
abbrev pub IsAgainstAll : Kind → Type 0
IsAgainstAll kind = (criterion : Criterion) → IsTrue (is_against kind criterion)

-- no kind that stands before it in the list is shown
abbrev pub IsFirstShown : MemoryHistory → Kind → Type 0
IsFirstShown h kind = (other : Kind) → place_of other < place_of kind → ¬ Shows h other

-- no kind against causal consistency is shown
pub record IsConsistent (h : MemoryHistory) : Type 0 where
  pub acyclic : ¬ IsCyclic h
  pub sourced : ¬ LacksSource h
  pub start : ¬ HasOverwrittenStart h
  pub read : ¬ HasOverwrittenRead h

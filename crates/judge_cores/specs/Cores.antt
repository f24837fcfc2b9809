-- Cores of long histories: parts that show a kind of bad pattern by themselves.
use Rattle.std.specs.Prelude.{◌≡◌}
use Rattle.cert_check.specs.declared.criterion.Criterion.{Criterion}
use Rattle.order_memory.specs.Memory.{MemoryHistory}
use Rattle.pattern_check.specs.declared.kind.Kind.{Kind}
use Rattle.pattern_check.specs.declared.pattern.Pattern.{Pattern}
use Rattle.pattern_check.specs.Patterns.{IsBadPattern, kind_of}

-- a part, and a pattern in it
pub record CoreValue : Type 0 where
  pub history : MemoryHistory
  pub pattern : Pattern

-- the pattern is one of the kind against the criterion, in the history alone
pub record IsShownAlone (criterion : Criterion) (kind : Kind) (history : MemoryHistory) (pattern : Pattern) : Type 0 where
  pub shown : IsBadPattern history criterion pattern
  pub of_kind : kind_of pattern ≡ kind

-- the core shows the kind
abbrev pub IsCoreOfKind : Criterion → Kind → CoreValue → Type 0
IsCoreOfKind criterion kind core = IsShownAlone criterion kind core.history core.pattern

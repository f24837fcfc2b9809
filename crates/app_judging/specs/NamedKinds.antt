-- What holds of the kind that a decision names.
use Rattle.std.specs.Prelude.{⊤}
use Rattle.pattern_check.specs.declared.kind.Kind.{Kind}
use Rattle.pattern_check.specs.Patterns.{kind_of}
use Rattle.judge_decision.specs.declared.deciding_limited.Decision.{Decision}
use Rattle.judge_decision.specs.declared.deciding_limited.Decision.TheVariants.{Meets, Excluded, ExcludedBy, Open}

-- a decision that excludes the criterion names a kind, that of its pattern or a kind alone, of which this holds
abbrev pub IfExcluded : Decision → (Kind → Type 0) → Type 0
IfExcluded Meets holds = ⊤
IfExcluded (Excluded pattern) holds = holds (kind_of pattern)
IfExcluded (ExcludedBy kind) holds = holds kind
IfExcluded Open holds = ⊤

-- What was gathered to show a kind of bad pattern.
use Rattle.cert_check.specs.declared.criterion.Criterion.{Criterion}
use Rattle.pattern_check.specs.declared.kind.Kind.{Kind}
use Rattle.judge_cores.specs.Cores.{IsCoreOfKind}
use Rattle.judge_cores.specs.declared.long_core.Gathered.{Gathered}
use Rattle.judge_cores.specs.declared.long_core.Gathered.TheVariants.{Core, Operations}

-- a core shows the kind by itself; of other operations nothing is said
abbrev pub ShowsKind : Criterion → Kind → Gathered → Type 0
ShowsKind criterion kind (Core core) = IsCoreOfKind criterion kind core
ShowsKind criterion kind (Operations ops) = Unit {0}

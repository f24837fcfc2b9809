-- What a core that was gathered of a kind shows.
use Rattle.std.specs.Prelude.{◌≡◌, IsTrue}
use Rattle.order_memory.specs.Memory.{memory_answer}
use Rattle.cert_check.specs.declared.criterion.Criterion.{Criterion}
use Rattle.cert_check.specs.Criteria.{Meets}
use Rattle.pattern_check.specs.declared.kind.Kind.{Kind}
use Rattle.pattern_check.specs.Kinds.{is_against}
use Rattle.judge_cores.specs.Cores.{CoreValue}
use Rattle.judge_cores.specs.declared.long_core.Gathered.{Gathered}
use Rattle.judge_cores.specs.declared.long_core.Gathered.TheVariants.{Core}

-- a core does not meet the criteria that the kind is against
abbrev pub ExcludesCriteria : Kind → Gathered → Type 0
ExcludesCriteria kind gathered =
    (core : CoreValue) (criterion : Criterion) → gathered ≡ Core core → IsTrue (is_against kind criterion) → ¬ Meets memory_answer core.history criterion

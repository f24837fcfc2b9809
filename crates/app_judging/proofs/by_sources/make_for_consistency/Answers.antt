use Rattle.std.proofs.Common.{refl}
use Rattle.order_memory.specs.Memory.{memory_answer}
use Rattle.cert_check.specs.Certificates.{IsExplainedThroughout}
use Rattle.cert_check.specs.declared.criterion.Criterion.TheVariants.{Cc}
use Rattle.pattern_check.specs.Kinds.{IsFreeOf}
use Rattle.app_judging.proofs.DecidedLaws.{some-and, free-acyclic, free-sourced, free-start, free-read}
use Rattle.app_judging.proofs.by_sources.make_for_consistency.Goals as goal

pub returns-clause-decided : goal.returns-clause-decided
returns-clause-decided c = λ distinct met.
    let h = c.args.h.now in
    let free : IsFreeOf h Cc = λ kind against present. c.present_kinds_exclude_criteria.ensures h Cc kind against present met in
    some-and (IsExplainedThroughout memory_answer h) c.make_memory.result
    (c.make_memory.ensures.made (free-acyclic h distinct Cc free refl) (free-sourced h distinct Cc free refl))
    (c.make_memory.ensures.explained (λ decides. decides.repeated distinct) (free-start h distinct Cc free refl) (free-read h distinct Cc free refl))

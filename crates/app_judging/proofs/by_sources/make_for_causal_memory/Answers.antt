use Rattle.std.proofs.Common.{refl}
use Rattle.order_memory.specs.Memory.{memory_answer}
use Rattle.cert_check.specs.Certificates.{IsExplainedThroughout}
use Rattle.cert_check.specs.declared.criterion.Criterion.TheVariants.{Cm}
use Rattle.pattern_check.specs.Kinds.{IsFreeOf}
use Rattle.app_judging.proofs.DecidedLaws.{some-and, some-made, free-start_in_hb, free-turns}
use Rattle.app_judging.proofs.by_sources.make_for_causal_memory.Goals as goal

pub returns-clause-decided : goal.returns-clause-decided
returns-clause-decided c = λ distinct few met.
    let h = c.args.h.now in
    let free : IsFreeOf h Cm = λ kind against present. c.present_kinds_exclude_criteria.ensures h Cm kind against present met in
    some-and (IsExplainedThroughout memory_answer h) c.make_memory.result
    (some-made c.make_memory.result (c.make_memory.ensures.none distinct) (free-turns h distinct free few))
    (c.make_memory.ensures.explained distinct (free-start_in_hb h distinct Cm free refl))

use Rattle.std.proofs.Common.{refl}
use Rattle.order_memory.specs.Memory.{memory_answer}
use Rattle.cert_check.specs.declared.criterion.Criterion.TheVariants.{Cc}
use Rattle.pattern_check.specs.Kinds.{IsFreeOf}
use Rattle.app_judging.proofs.DecidedLaws.{free-acyclic, free-read, free-sourced, free-start}
use Rattle.app_findings.proofs.MadeCertificates.{certified-made}
use Rattle.app_findings.proofs.made_certificates.certificate_of_consistent.Goals as goal

pub returns-clause-certified : goal.returns-clause-certified
returns-clause-certified c =
    let h = c.args.memory.now in
    let distinct = c.requires.distinct in
    let free : IsFreeOf h Cc = λ kind against present. c.present_kinds_exclude_criteria.ensures h Cc kind against present c.requires.met in
    certified-made memory_answer h Cc c.make_indexed.result c.make_indexed.ensures.criterion c.make_indexed.ensures.shape
    (c.make_indexed.ensures.explained (λ decides. decides.repeated distinct) (free-start h distinct Cc free refl) (free-read h distinct Cc free refl))

pub returns-clause-made : goal.returns-clause-made
returns-clause-made c =
    let h = c.args.memory.now in
    let distinct = c.requires.distinct in
    let free : IsFreeOf h Cc = λ kind against present. c.present_kinds_exclude_criteria.ensures h Cc kind against present c.requires.met in
    c.make_indexed.ensures.made (free-acyclic h distinct Cc free refl) (free-sourced h distinct Cc free refl)

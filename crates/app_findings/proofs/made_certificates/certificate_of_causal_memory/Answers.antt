use Rattle.std.proofs.Common.{refl}
use Rattle.order_memory.specs.Memory.{memory_answer}
use Rattle.cert_check.specs.declared.criterion.Criterion.TheVariants.{Cm}
use Rattle.pattern_check.specs.Kinds.{IsFreeOf}
use Rattle.app_judging.proofs.DecidedLaws.{free-start_in_hb}
use Rattle.app_findings.proofs.MadeCertificates.{certified-made}
use Rattle.app_findings.proofs.made_certificates.certificate_of_causal_memory.Goals as goal

pub returns : goal.returns
returns c =
    let h = c.args.memory.now in
    let distinct = c.requires.distinct in
    let free : IsFreeOf h Cm = λ kind against present. c.present_kinds_exclude_criteria.ensures h Cm kind against present c.requires.met in
    record {
      certified =
          certified-made memory_answer h Cm c.make_indexed.result c.make_indexed.ensures.criterion c.make_indexed.ensures.shape
          (c.make_indexed.ensures.explained distinct (free-start_in_hb h distinct Cm free refl));
    }

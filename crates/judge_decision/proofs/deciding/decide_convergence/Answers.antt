use Rattle.std.specs.Prelude.{IsTrue}
use Rattle.std.proofs.Common.{refl}
use Rattle.pattern_check.specs.Kinds.{IsPresent}
use Rattle.pattern_check.specs.declared.kind.Kind.TheVariants.{CyclicCF}
use Rattle.cert_check.specs.declared.criterion.Criterion.TheVariants.{Ccv}
use Rattle.judge_decision.proofs.Consistent.{convergent_meets, free-consistent}
use Rattle.judge_decision.proofs.Firsts.{first_conflict}
use Rattle.judge_decision.proofs.deciding.decide_convergence.Goals as goal

pub returns-then-branch : goal.returns-then-branch
returns-then-branch c =
    convergent_meets c.args.index.now.history c.requires.consistent c.value_is_indexed.ensures.history c.value_is_indexed.ensures.distinct
    (c.in_ok-is_convergent.ensures.acyclic c.if-branch.true)

pub returns-else-branch : goal.returns-else-branch
returns-else-branch c =
    let h = c.args.index.now.history in
    let no : ¬ IsTrue c.in_ok-is_convergent.field-0 = λ yes. let is = c.if-branch.false in absurd cc in
    let present : IsPresent h CyclicCF = (c.value_is_indexed.ensures.distinct, c.in_ok-is_convergent.ensures.cyclic no) in
    record {
      excluded = record {
        against = refl;
        present = present;
        not_met = c.present_kinds_exclude_criteria.ensures h Ccv CyclicCF refl present;
      };
      first = λ _. first_conflict h c.requires.consistent;
      consistent = λ _. free-consistent h c.requires.consistent;
    }

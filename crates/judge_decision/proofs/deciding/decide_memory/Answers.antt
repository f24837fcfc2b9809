use Rattle.std.proofs.Common.{refl, subst}
use Rattle.pattern_check.specs.Kinds.{IsPresent}
use Rattle.pattern_check.specs.declared.kind.Kind.TheVariants.{CyclicHB, WriteHBInitRead}
use Rattle.cert_check.specs.declared.criterion.Criterion.TheVariants.{Cm}
use Rattle.judge_session_orders.specs.SessionOrders.{AreOrdered}
use Rattle.judge_session_orders.specs.declared.ordering.SessionOrder.{SessionOrder}
use Rattle.judge_decision.proofs.Consistent.{free-consistent}
use Rattle.judge_decision.proofs.Firsts.{first_overwritten}
use Rattle.judge_decision.proofs.deciding.decide_memory.Goals as goal

pub returns-in-StartOverwritten : goal.returns-in-StartOverwritten
returns-in-StartOverwritten g c =
    let h = c.args.index.now.history in
    let shown = subst (λ (o : SessionOrder). AreOrdered h o) c.in-StartOverwritten.is c.in_ok-order_sessions.ensures in
    let present : IsPresent h WriteHBInitRead = (c.value_is_indexed.ensures.distinct, shown) in
    record {
      excluded = record {
        against = refl;
        present = present;
        not_met = c.present_kinds_exclude_criteria.ensures h Cm WriteHBInitRead refl present;
      };
      first = λ _. first_overwritten h c.requires.consistent;
      consistent = λ _. free-consistent h c.requires.consistent;
    }

pub returns-in-Cyclic : goal.returns-in-Cyclic
returns-in-Cyclic g c =
    let h = c.args.index.now.history in
    let shown = subst (λ (o : SessionOrder). AreOrdered h o) c.in-Cyclic.is c.in_ok-order_sessions.ensures in
    let present : IsPresent h CyclicHB = (c.value_is_indexed.ensures.distinct, shown) in
    record {
      excluded = record {
        against = refl;
        present = present;
        not_met = c.present_kinds_exclude_criteria.ensures h Cm CyclicHB refl present;
      };
      first = λ other. absurd (other refl);
      consistent = λ _. free-consistent h c.requires.consistent;
    }

use Rattle.std.proofs.lemmas.List.{length-set}
use Rattle.order_causal.proofs.VectorsLaws.{HasListOf-of_history}
use Rattle.std.proofs.Common.{◌∙◌, ℕ, List, length, ap}
use Rattle.cert_check.proofs.NamingSteps.{naming-absent, counting}
use Rattle.cert_check.proofs.NeedSteps.{met-exactly}
use Rattle.cert_check.proofs.naming.Naming.step.Goals as goal

pub returns-in_default-clause-exact : goal.returns-in_default-clause-exact
returns-in_default-clause-exact g c = λ list i at here well. (
  (λ e. absurd cc),
  λ good. absurd (naming-absent c.args.h.now c.args.v.now list i c.args.session here c.args.self.now.counts.items at c.in_default.ensures.next.0 good),
)

pub returns-clause-exact : goal.returns-clause-exact
returns-clause-exact g c = λ list i at here well.
    let next = c.in-Some.ensures.next in
    let met = met-exactly c.args.h.now c.args.v.now list i c.args.session here c.args.self.now.counts.items at
    c.in-Some.next next.0 next.1 c.deref.result.now (c.deref.ensures.value ∙ next.2) c.get.result.now
    (rw (c.get.ensures) (c.requires.needs.each c.in-Some.next)) well in (
      (λ yes. met.0 (c.is_met.ensures.0 yes)),
      λ good. c.is_met.ensures.1 (met.1 good),
    )

pub returns-clause-on : goal.returns-clause-on
returns-clause-on g c = λ list i at here yes.
    let next = c.in-Some.ensures.next in
    counting c.args.h.now c.args.v.now list i c.args.session here c.args.self.now.counts.items at
    c.in-Some.next next.0 next.1 c.name_next.new.self.counts.items next.2

pub name_next-requires-after_bounds : goal.name_next-requires-after_bounds
name_next-requires-after_bounds g c = λ _ _. c.requires.width

pub is_met-requires : goal.is_met-requires
is_met-requires g c = HasListOf-of_history c.args.h.now c.args.v.now c.in-Some.next c.requires.shape.one_each c.in-Some.ensures.next.1

pub returns-in_default-clause-on : goal.returns-in_default-clause-on
returns-in_default-clause-on g c = λ list i at here e. absurd cc

pub returns-in_default-clause-width : goal.returns-in_default-clause-width
returns-in_default-clause-width g c = ap (λ (xs : List ℕ). length xs) c.in_default.ensures.next.1 ∙ c.requires.width

pub returns-clause-width : goal.returns-clause-width
returns-clause-width g c =
    let counted = c.in-Some.ensures.next.2 in
    ap (λ (xs : List ℕ). length xs) counted ∙ length-set c.args.self.now.counts.items c.args.session _ ∙ c.requires.width

use Rattle.std.proofs.Common.{◌≤◌, ◌∙◌, subst, sym}
use Rattle.std.specs.Prelude.{slice_index}
use Rattle.live_seals.specs.Seals.{AdvisesAll, HoldsAll, IsSealOf}
use Rattle.live_seals.proofs.FoundByWalks.{found_by_walk}
use Rattle.live_seals.proofs.sealing.seal.Goals as goal

pub new-requires : goal.new-requires
new-requires g c = c.requires

pub new-requires-2 : goal.new-requires-2
new-requires-2 g c = record {
  many = c.told.ensures.counts.many ∙ sym c.lanes.ensures;
  within = λ s. subst (λ n. slice_index c.told.result.now s ≤ n) (sym c.places.ensures.places) (c.told.ensures.within s);
}

pub returns-clause-holds : goal.returns-clause-holds
returns-clause-holds g c = subst (λ rs. HoldsAll c.in_ok-sealed.field-0.history rs) (c.in_ok-walk.ensures.kept.1 ∙ c.in_ok-looker.ensures.receipts) c.in_ok-sealed.ensures.holds

pub returns-clause-seal : goal.returns-clause-seal
returns-clause-seal g c = subst (λ ls. IsSealOf ls c.in_ok-sealed.field-0) (c.in_ok-walk.ensures.kept.0 ∙ c.in_ok-looker.ensures.lanes) c.in_ok-sealed.ensures.seal

pub returns-clause-advises : goal.returns-clause-advises
returns-clause-advises g c = subst (λ rs. AdvisesAll c.in_ok-sealed.field-0 rs) (c.in_ok-walk.ensures.kept.1 ∙ c.in_ok-looker.ensures.receipts) c.in_ok-sealed.ensures.advises

pub returns-clause-found : goal.returns-clause-found
returns-clause-found g c =
    found_by_walk c.args.lanes.now c.args.told.now c.in_ok-sealed.field-0.history c.in_ok-looker.looker c.walk.new.looker c.in_ok-plan.plan c.walk.new.plan
    c.lanes.result c.places.result c.told.result.now c.in_ok-looker.ensures.lanes c.in_ok-looker.ensures.receipts c.in_ok-looker.ensures.looks
    c.lanes.ensures c.places.ensures.places c.told.ensures.told c.told.ensures.counts c.places.ensures.most c.in_ok-plan.ensures
    c.in_ok-walk.ensures.walked c.in_ok-walk.ensures.kept c.in_ok-sealed.ensures.found

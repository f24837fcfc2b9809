use Rattle.std.proofs.Common.{sym, subst}
use Rattle.live_cut_plan.specs.Walks.{Walks}
use Rattle.live_cut_plan.proofs.Walked.{walks_more}
use Rattle.live_seals.proofs.ReturnsFirst.{walk_looks_first}
use Rattle.live_seals.proofs.walking.walk.Goals as goal

pub loop-cell-preserved : goal.loop-cell-preserved
loop-cell-preserved g c = record {
  walks = walks_more c.args.plan.now c.loop-cell.plan c.give.new.self (g.L.Looker.looks c.args.looker.now) (g.L.Looker.looks c.loop-cell.looker) (g.L.Looker.looks c.look.new.self) c.in-Some.cell c.in_ok-full.full c.loop-cell.invariant.walks c.in_ok-full.ensures.looked c.in-Some.ensures.rule c.give.ensures.rule;
  kept = g.met.L.Looker.keeps_on c.args.looker.now c.loop-cell.looker c.look.new.self c.loop-cell.invariant.kept c.in_ok-full.ensures.kept;
}

pub returns-in_err-full-clause-returns_first : goal.returns-in_err-full-clause-returns_first
returns-in_err-full-clause-returns_first g c =
    walk_looks_first c.args.plan.now c.loop-cell.plan (g.L.Looker.looks c.args.looker.now) (g.L.Looker.looks c.look.new.self) c.places-places.ensures.looked
    (subst (λ ls. Walks c.args.plan.now (g.L.Looker.looks c.args.looker.now) c.loop-cell.plan ls) (sym c.in_err-full.ensures.refused) c.loop-cell.invariant.walks)

pub returns-clause-returns_first : goal.returns-clause-returns_first
returns-clause-returns_first g c =
    walk_looks_first c.args.plan.now c.loop-cell.plan (g.L.Looker.looks c.args.looker.now) (g.L.Looker.looks c.loop-cell.looker) c.places-places.ensures.looked c.loop-cell.invariant.walks

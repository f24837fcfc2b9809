use Rattle.std.proofs.Common.{◌≡◌, ◌++◌, ◌∷◌, [], arith, inr}
use Rattle.std.proofs.lemmas.Grind.{common_steps}
use Rattle.app_explanations.proofs.StepLists.{one_step_more}
use Rattle.app_explanations.proofs.broken.steps_of.Goals as goal

pub loop-i-preserved : goal.loop-i-preserved
loop-i-preserved g c =
    let pushed : c.push.new.self.items ≡ c.loop-i.steps.items ++ c.stays.result ∷ [] = c.in_ok-push.ensures.items in
    record {
      many = grind (arith, common_steps);
      within = inr (omega arith);
      each = one_step_more c.args.clients c.args.path.now c.loop-i.steps.items c.push.new.self.items c.loop-i.i c.stays.result _ _ pushed
          c.loop-i.invariant.many c.loop-i.invariant.each c.stays.ensures;
    }

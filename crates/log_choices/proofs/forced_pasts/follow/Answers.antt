use Rattle.std.proofs.Common.{subst, List, ℕ}
use Rattle.log_choices.proofs.ForcedPasts.{IsJoined, past-followed}
use Rattle.log_choices.proofs.forced_pasts.follow.Goals as goal

pub returns : goal.returns
returns c =
    let joined : IsJoined c.args.past.now c.join.new.past c.args.write.now.past.items =
    subst (λ (l : List ℕ). IsJoined c.args.past.now c.join.new.past l) c.deref.ensures.value c.join.ensures in
    λ in_time es q kept comes was. past-followed in_time es c.args.write.now q c.args.past.now c.join.new.past c.raise.new.past joined c.raise.ensures kept comes was

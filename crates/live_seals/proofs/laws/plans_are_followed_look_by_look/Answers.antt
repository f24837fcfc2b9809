use Rattle.live_seals.proofs.RunPlaces.{followed_at, followed_each}
use Rattle.live_seals.proofs.laws.plans_are_followed_look_by_look.Goals as goal

pub returns : goal.returns
returns g c = λ es z plan. (λ follows. followed_at es z plan follows, λ each. followed_each es z plan each)

use Rattle.std.proofs.Common.{ℕ, List, [], ◌∷◌, ◌++◌, ap, length, refl, sym, ◌∙◌}
use Rattle.std.proofs.lemmas.List.{take_all}
use Rattle.std.proofs.lemmas.Option.{slice_get_read}
use Rattle.live_replica.specs.Updates.{writers}
use Rattle.live_replica.proofs.Following.{writers-more}
use Rattle.live_replica.proofs.replica.writers.Goals as goal

pub loop-update-init : goal.loop-update-init
loop-update-init g c = c.new-order.ensures.items

pub loop-update-preserved : goal.loop-update-preserved
loop-update-preserved g c =
    let us = c.args.updates.now in
    let i = c.loop-update.update-index in
    let u = c.update-item.result in
    c.in_ok-push.ensures.items
    ∙ (ap (λ (l : List ℕ). l ++ u.session ∷ []) c.loop-update.invariant
    ∙ sym (writers-more us i u (slice_get_read us (length us) i u refl c.loop-update-test.true c.update-item.is)))

pub returns : goal.returns
returns g c =
    c.in_ok-push-2.ensures.items
    ∙ ap (λ (l : List ℕ). l ++ c.args.last ∷ []) (c.loop-update.invariant ∙ ap writers (take_all c.loop-update.update-index c.args.updates.now c.loop-update-test.false))

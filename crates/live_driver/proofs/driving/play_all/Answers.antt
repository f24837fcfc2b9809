use Rattle.std.proofs.Common.{◌≡◌, length, ◌∙◌}
use Rattle.live_driver.specs.Clients.{AreAllPlayed}
use Rattle.live_driver.proofs.Results.{if_ok}
use Rattle.live_driver.proofs.driving.play_all.Goals as goal

pub returns : goal.returns
returns g c =
    let run = c.args.run.now in
    record {
      many = if_ok (λ results. length results.items ≡ length c.in_ok-seats.seats.items) (λ results. length results.items ≡ length c.args.sessions.items) c.read_seats.result
          (λ results same. same ∙ c.in_ok-seats.ensures) c.read_seats.ensures.many;
      played = if_ok _ (λ results. AreAllPlayed run.lanes.now run.plan.stop run.input.now results.items) c.read_seats.result
          (λ results left s p here. c.requires.said s p (left s p here)) c.read_seats.ensures.left;
      refused = c.read_seats.ensures.refused;
    }

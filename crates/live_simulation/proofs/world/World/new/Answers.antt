use Rattle.live_simulation.proofs.world.World.new.Goals as goal

pub returns : goal.returns
returns g c = record { lanes = c.in_ok-recording.ensures; board = c.in_ok-cases.ensures c.args.start c.args.k }

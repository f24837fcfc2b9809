use Rattle.std.proofs.Common.{subst}
use Rattle.live_simulation.specs.Steps.Worlds.{IsSealIn}
use Rattle.live_simulation.proofs.WorldSteps.{file_none, file_taken}
use Rattle.live_simulation.proofs.world.World.file.Goals as goal

pub returns-in-None : goal.returns-in-None
returns-in-None g c =
    file_none g.O.SeqObject.matches g.O.SeqObject.answer g.O.Refutable.passes c.args.self.now.recording c.args.self.now.cases c.args.z c.args.criterion c.args.certificate.now
    (subst (λ h. IsSealIn c.args.self.now.recording c.args.z h) c.in-None.is c.in_ok-sealed.ensures)

pub returns-in_ok-copy-in-Some : goal.returns-in_ok-copy-in-Some
returns-in_ok-copy-in-Some g c =
    file_taken g.O.SeqObject.matches g.O.SeqObject.answer g.O.Refutable.passes c.args.self.now.recording c.args.self.now.cases c.args.z c.args.criterion c.args.certificate.now c.in_ok-copy-in-Some.copy
    c.in-Some.history c.file.result c.file.new.self c.in_ok-copy-in-Some.ensures (subst (λ h. IsSealIn c.args.self.now.recording c.args.z h) c.in-Some.is c.in_ok-sealed.ensures) c.file.ensures

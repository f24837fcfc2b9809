use Rattle.std.specs.Prelude.{Ok}
use Rattle.live_simulation.proofs.WorldSteps.{lane_taken, case_taken_on, stepped}
use Rattle.live_simulation.proofs.world.World.step.Goals as goal

pub returns-in-Begin : goal.returns-in-Begin
returns-in-Begin g c =
    lane_taken g.O.SeqObject.matches g.O.SeqObject.answer g.O.Refutable.passes c.args.self.now.recording c.args.self.now.cases c.args.step.now _ c.begin.result c.begin.new.self c.in-Begin.is tt c.begin.ensures

pub returns-in-End : goal.returns-in-End
returns-in-End g c =
    lane_taken g.O.SeqObject.matches g.O.SeqObject.answer g.O.Refutable.passes c.args.self.now.recording c.args.self.now.cases c.args.step.now _ c.end.result c.end.new.self c.in-End.is tt c.end.ensures

pub returns-in-Start : goal.returns-in-Start
returns-in-Start g c =
    lane_taken g.O.SeqObject.matches g.O.SeqObject.answer g.O.Refutable.passes c.args.self.now.recording c.args.self.now.cases c.args.step.now _ c.start.result c.start.new.self c.in-Start.is tt c.start.ensures

pub returns-in-Look : goal.returns-in-Look
returns-in-Look g c =
    lane_taken g.O.SeqObject.matches g.O.SeqObject.answer g.O.Refutable.passes c.args.self.now.recording c.args.self.now.cases {E = Unit {0}} c.args.step.now _ (Ok c.look.result) c.look.new.self c.in-Look.is tt c.look.ensures

pub returns-in-Show : goal.returns-in-Show
returns-in-Show g c =
    lane_taken g.O.SeqObject.matches g.O.SeqObject.answer g.O.Refutable.passes c.args.self.now.recording c.args.self.now.cases c.args.step.now _ c.show.result c.args.self.now.recording c.in-Show.is tt c.show.ensures

pub returns-in-File : goal.returns-in-File
returns-in-File g c =
    stepped g.O.SeqObject.matches g.O.SeqObject.answer g.O.Refutable.passes c.args.self.now.recording c.args.self.now.cases c.args.step.now _ c.file.result c.file.new.self.recording c.file.new.self.cases c.in-File.is c.file.ensures

pub returns-in-Take : goal.returns-in-Take
returns-in-Take g c =
    case_taken_on g.O.SeqObject.matches g.O.SeqObject.answer g.O.Refutable.passes c.args.self.now.recording c.args.self.now.cases {E = Unit {0}} c.args.step.now _ (Ok c.take.result) c.take.new.self c.in-Take.is tt c.take.ensures

pub returns-in-Work : goal.returns-in-Work
returns-in-Work g c =
    case_taken_on g.O.SeqObject.matches g.O.SeqObject.answer g.O.Refutable.passes c.args.self.now.recording c.args.self.now.cases c.args.step.now _ c.work.result c.work.new.self c.in-Work.is tt c.work.ensures

pub returns-in-Put : goal.returns-in-Put
returns-in-Put g c =
    case_taken_on g.O.SeqObject.matches g.O.SeqObject.answer g.O.Refutable.passes c.args.self.now.recording c.args.self.now.cases {E = Unit {0}} c.args.step.now _ (Ok c.put.result) c.put.new.self c.in-Put.is tt c.put.ensures

pub returns-in-Refute : goal.returns-in-Refute
returns-in-Refute g c =
    case_taken_on g.O.SeqObject.matches g.O.SeqObject.answer g.O.Refutable.passes c.args.self.now.recording c.args.self.now.cases c.args.step.now _ c.refute.result c.refute.new.self c.in-Refute.is tt c.refute.ensures

pub returns-in-Ask : goal.returns-in-Ask
returns-in-Ask g c =
    case_taken_on g.O.SeqObject.matches g.O.SeqObject.answer g.O.Refutable.passes c.args.self.now.recording c.args.self.now.cases {E = Unit {0}} c.args.step.now _ (Ok c.ask.result) c.args.self.now.cases c.in-Ask.is tt c.ask.ensures

use Rattle.std.proofs.Common.{[], rules, ◌<◌, ◌≤◌, length, subst, sym}
use Rattle.live_simulation.specs.Steps.Worlds.{ShowsWorld}
use Rattle.live_simulation.proofs.Running.{HasRun, has_run_none, has_run_more, has_run_all}
use Rattle.live_simulation.proofs.world.World.run.Goals as goal

pub loop-i-init : goal.loop-i-init
loop-i-init g c =
    let matches = g.O.SeqObject.matches in
    let answer = g.O.SeqObject.answer in
    let passes = g.O.Refutable.passes in
    let start = c.args.start.now in
    let recording = c.in_ok-world.world.recording in
    let cases = c.in_ok-world.world.cases in
    let shows = subst (λ s. ShowsWorld answer s c.args.k [] recording cases) c.in_ok-first.ensures c.in_ok-world.ensures in
    subst (λ replies. HasRun matches answer passes start c.args.k [] replies recording cases) (sym c.in_ok-replies.ensures.items)
    (has_run_none matches answer passes start c.args.k recording cases shows)

pub loop-i-preserved : goal.loop-i-preserved
loop-i-preserved g c =
    let within : c.loop-i.i < length c.args.steps.now = search rules in
    has_run_more g.O.SeqObject.matches g.O.SeqObject.answer g.O.Refutable.passes c.args.start.now c.args.k c.args.steps.now c.loop-i.i c.index-steps-i.result c.loop-i.replies.items c.push.new.self.items c.in_ok-reply.reply
    c.loop-i.world.recording c.step.new.self.recording c.loop-i.world.cases c.step.new.self.cases within c.index-steps-i.is c.in_ok-push.ensures.items c.loop-i.invariant c.in_ok-reply.ensures

pub returns-clause-replies : goal.returns-clause-replies
returns-clause-replies g c =
    let all : length c.args.steps.now ≤ c.loop-i.i = search rules in
    (has_run_all g.O.SeqObject.matches g.O.SeqObject.answer g.O.Refutable.passes c.args.start.now c.args.k c.args.steps.now c.loop-i.i c.loop-i.replies.items c.loop-i.world.recording c.loop-i.world.cases all c.loop-i.invariant).run

pub returns-clause-many : goal.returns-clause-many
returns-clause-many g c =
    let all : length c.args.steps.now ≤ c.loop-i.i = search rules in
    let world = c.loop-i.world in
    (has_run_all g.O.SeqObject.matches g.O.SeqObject.answer g.O.Refutable.passes c.args.start.now c.args.k c.args.steps.now c.loop-i.i
    c.loop-i.replies.items world.recording world.cases all c.loop-i.invariant).many

use Rattle.std.proofs.Common.{sym, ◌∙◌, subst}
use Rattle.std.specs.Prelude.{option_map}
use Rattle.std.specs.Arc.{arc_value}
use Rattle.live_recorder.specs.Sessions.{IsSession}
use Rattle.live_recorder.proofs.Kept.{pending_notes, session_done, done_pushed, return_count, seen_finished, seen_receipt}
use Rattle.live_recorder.proofs.session.Session.set_return.Goals as goal

pub invariant_of-self : goal.invariant_of-self
invariant_of-self g c =
    let cells = arc_value c.self.inside.lane in
    subst (λ p. IsSession cells c.self.inside.calls c.push.new.self p) (sym c.take.ensures.after)
    (session_done cells c.self.inside.calls c.self.inside.returns c.self.inside.pending c.in-Some.pending (sym c.in-Some.ensures.value) c.self.invariant c.push.new.self c.in-Ok.note.cell c.in-Ok.note.known c.push.ensures c.args.ret c.args.advice c.in-Ok.ensures.known c.deref.result.now c.deref.ensures c.in-Ok.ensures.cell)

pub returns-in-Ok-clause-finished : goal.returns-in-Ok-clause-finished
returns-in-Ok-clause-finished g c =
    let cells = arc_value c.self.inside.lane in
    let more = done_pushed cells c.self.inside.calls c.self.inside.returns c.self.inside.pending c.in-Some.pending (sym c.in-Some.ensures.value) c.self.invariant c.push.new.self c.in-Ok.note.cell c.in-Ok.note.known c.push.ensures c.args.ret c.args.advice c.in-Ok.ensures.known in
    seen_finished g.O.Recorded.fitting c.self.inside.index cells c.self.inside.returns.list c.push.new.self.list c.self.inside.pending c.take.new.self c.in-Some.pending (sym c.in-Some.ensures.value) c.take.ensures.after c.args.self.now c.self.view_is c.args.ret c.args.advice c.requires more

pub returns-in-Ok-clause-receipt : goal.returns-in-Ok-clause-receipt
returns-in-Ok-clause-receipt g c =
    let cells = arc_value c.self.inside.lane in
    let some = sym c.in-Some.ensures.value in
    let more = done_pushed cells c.self.inside.calls c.self.inside.returns c.self.inside.pending c.in-Some.pending some c.self.invariant c.push.new.self c.in-Ok.note.cell c.in-Ok.note.known c.push.ensures c.args.ret c.args.advice c.in-Ok.ensures.known in
    c.in-Ok.ensures.receipt ∙ seen_receipt c.self.inside.index cells c.deref.result.now c.self.inside.returns.list c.in-Some.pending.notes c.push.new.self.list c.in-Some.pending.call c.args.ret c.args.advice (option_map (λ p. p.call) c.take.new.self) more
    (pending_notes cells c.self.inside.calls c.self.inside.returns c.self.inside.pending c.in-Some.pending some c.self.invariant) (return_count cells c.self.inside.calls c.self.inside.returns c.self.inside.pending c.self.invariant) c.deref.ensures

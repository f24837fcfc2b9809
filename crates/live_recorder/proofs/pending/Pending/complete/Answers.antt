use Rattle.std.proofs.Common.{◌≡◌, Some, ◌∙◌, ap}
use Rattle.live_recorder.proofs.Completed.{completed_receipt, completed_state}
use Rattle.live_recorder.proofs.pending.Pending.complete.Goals as goal

pub of-requires : goal.of-requires
of-requires g c =
    let named : c.again.result.cell ≡ c.in-Ok.note.cell = ap (λ n. n.cell) c.again.ensures.1 in
    let is : c.again.result.known ≡ Some (c.self.inside.call, Some (c.args.ret, c.args.advice)) = ap (λ n. n.known) c.again.ensures.1 ∙ (c.in-Ok.ensures.known ∙ ap Some (c.fill.ensures ∙ ap (λ v. (v.0, Some (c.args.ret, c.args.advice))) (c.deref_mut.ensures.value ∙ c.self.invariant.0))) in
    completed_receipt c.args.lane.now.returns c.args.self c.requires.told c.self.inside.call c.self.inside.notes.list c.self.view_is c.in-Ok.note.cell c.len.result c.len.ensures c.in-Ok.ensures.cell c.args.ret c.args.advice c.push.new.self.list c.again.result.cell c.again.result.known c.push.ensures named is

pub returns-in-Ok-clause-receipt : goal.returns-in-Ok-clause-receipt
returns-in-Ok-clause-receipt g c =
    let named : c.again.result.cell ≡ c.in-Ok.note.cell = ap (λ n. n.cell) c.again.ensures.1 in
    let is : c.again.result.known ≡ Some (c.self.inside.call, Some (c.args.ret, c.args.advice)) = ap (λ n. n.known) c.again.ensures.1 ∙ (c.in-Ok.ensures.known ∙ ap Some (c.fill.ensures ∙ ap (λ v. (v.0, Some (c.args.ret, c.args.advice))) (c.deref_mut.ensures.value ∙ c.self.invariant.0))) in
    c.of.ensures ∙ completed_state c.args.lane.now.returns c.args.self c.requires.told c.self.inside.call c.self.inside.notes.list c.self.view_is c.in-Ok.note.cell c.len.result c.len.ensures c.in-Ok.ensures.cell c.args.ret c.args.advice c.push.new.self.list c.again.result.cell c.again.result.known c.push.ensures named is c.args.session

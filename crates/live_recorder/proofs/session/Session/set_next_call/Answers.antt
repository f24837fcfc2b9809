use Rattle.std.proofs.Common.{◌∷◌, ◌++◌, [], Some, ap, sym, ◌∙◌}
use Rattle.std.specs.Prelude.{option_map}
use Rattle.std.specs.Arc.{arc_value}
use Rattle.live_recorder.proofs.Kept.{none_pending, session_begun, session_kept, call_count, call_place, few_returns}
use Rattle.live_recorder.proofs.Kept.{seen_again, seen_begun, seen_next, seen_room}
use Rattle.live_recorder.proofs.session.Session.set_next_call.Goals as goal

pub prepare-requires : goal.prepare-requires
prepare-requires g c =
    let inside = c.self.inside in
    let pending = option_map (λ b. b.call) inside.pending in
    let cells = arc_value inside.lane in
    let none = none_pending inside.pending (ap (λ s. s.pending) c.self.view_is ∙ c.requires.0) in
    few_returns cells inside.calls inside.returns inside.pending none c.self.invariant
    (seen_room inside.index cells inside.returns.list pending c.args.self.now c.self.view_is c.requires.1)

pub set_call-requires : goal.set_call-requires
set_call-requires g c =
    let inside = c.self.inside in
    let pending = option_map (λ b. b.call) inside.pending in
    let cells = arc_value inside.lane in
    let none = none_pending inside.pending (ap (λ s. s.pending) c.self.view_is ∙ c.requires.0) in
    call_place cells inside.calls inside.returns inside.pending none c.self.invariant
    (seen_room inside.index cells inside.returns.list pending c.args.self.now c.self.view_is c.requires.1)
    c.deref.result.now c.deref.ensures c.len-at.result c.len-at.ensures

pub invariant_of-self : goal.invariant_of-self
invariant_of-self g c =
    let inside = c.self.inside in
    let none = none_pending inside.pending (ap (λ s. s.pending) c.self.view_is ∙ c.requires.0) in
    session_kept (arc_value inside.lane) inside.calls inside.returns inside.pending none c.self.invariant
    c.prepare.new.calls c.prepare.new.returns c.in_err-boxed.ensures.calls c.in_err-boxed.ensures.returns

pub invariant_of-self-in_default : goal.invariant_of-self-in_default
invariant_of-self-in_default g c =
    let inside = c.self.inside in
    let none = none_pending inside.pending (ap (λ s. s.pending) c.self.view_is ∙ c.requires.0) in
    session_kept (arc_value inside.lane) inside.calls inside.returns inside.pending none c.self.invariant
    c.prepare.new.calls c.prepare.new.returns c.in_ok-boxed.ensures.calls c.in_ok-boxed.ensures.returns

pub invariant_of-self-2 : goal.invariant_of-self-2
invariant_of-self-2 g c =
    session_begun (arc_value c.self.inside.lane) c.self.inside.calls c.self.inside.returns c.self.inside.pending (none_pending c.self.inside.pending (ap (λ s. s.pending) c.self.view_is ∙ c.requires.0)) c.self.invariant
    c.push.new.self c.prepare.new.returns c.in_ok-boxed.pending c.deref.result.now c.deref.ensures c.len-at.result c.in-Ok.note.cell c.in-Ok.note.known c.len-at.ensures c.in-Ok.ensures.cell
    (c.push.ensures ∙ ap (λ l. l ++ (c.in-Ok.note.cell, c.in-Ok.note.known) ∷ []) c.in_ok-boxed.ensures.calls)
    (c.in-Ok.ensures.known ∙ ap Some (c.in_ok-boxed.ensures.boxed ∙ sym c.in_ok-boxed.ensures.pending_call))
    c.in_ok-boxed.ensures.returns c.in_ok-boxed.ensures.pending_notes c.in_ok-boxed.ensures.return_room

pub returns-clause-op : goal.returns-clause-op
returns-clause-op g c =
    let inside = c.self.inside in
    let pending = option_map (λ b. b.call) inside.pending in
    let cells = arc_value inside.lane in
    let none = none_pending inside.pending (ap (λ s. s.pending) c.self.view_is ∙ c.requires.0) in
    seen_next inside.index cells inside.returns.list pending c.args.self.now c.self.view_is c.len-at.result
    (c.len-at.ensures ∙ call_count cells inside.calls inside.returns inside.pending none c.self.invariant)

pub returns-clause-begun : goal.returns-clause-begun
returns-clause-begun g c =
    let inside = c.self.inside in
    let pending = option_map (λ b. b.call) inside.pending in
    seen_begun inside.index (arc_value inside.lane) inside.returns.list pending c.args.self.now c.self.view_is
    c.prepare.new.returns.list c.in_ok-boxed.ensures.returns c.in_ok-boxed.pending.call c.args.call c.in_ok-boxed.ensures.pending_call

pub returns-in_default-clause-unchanged : goal.returns-in_default-clause-unchanged
returns-in_default-clause-unchanged g c =
    let inside = c.self.inside in
    let pending = option_map (λ b. b.call) inside.pending in
    seen_again inside.index (arc_value inside.lane) inside.returns.list pending
    c.args.self.now c.self.view_is c.prepare.new.returns.list c.in_ok-boxed.ensures.returns

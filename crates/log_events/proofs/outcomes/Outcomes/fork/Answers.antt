use Rattle.std.proofs.Common.{◌∙◌, sym, ap, arith}
use Rattle.std.specs.Prelude.{Some}
use Rattle.log_events.specs.declared.event.Ending.{Ending}
use Rattle.log_events.specs.Events.{run_calls}
use Rattle.log_events.specs.Shapes.{called_key}
use Rattle.log_events.proofs.OutcomesLaws.{call-small, lost-listed}
use Rattle.log_events.proofs.outcomes.Outcomes.fork.Goals as goal

pub is_returned-requires : goal.is_returned-requires
is_returned-requires c =
    lost-listed (run_calls c.args.self.now) c.args.call.now c.in-WriteTo.key c.in-WriteTo.value c.requires (sym c.in-WriteTo.ensures)
    (sym c.in-Some-Lost.ensures ∙ ap (λ (e : Ending). Some e) c.in-Some-Lost.field-0-is)

pub overflow_mul-place : goal.overflow_mul-place
overflow_mul-place c =
    let small = call-small c.self.inside.log.now c.args.self.now c.args.call.now c.self.view_is c.self.invariant.small c.requires in
    let place = c.place.ensures in
    let bound = small.place in
    omega arith

pub overflow_add-place : goal.overflow_add-place
overflow_add-place c =
    let small = call-small c.self.inside.log.now c.args.self.now c.args.call.now c.self.view_is c.self.invariant.small c.requires in
    let place = c.place.ensures in
    let bound = small.place in
    omega arith

pub overflow_mul-key : goal.overflow_mul-key
overflow_mul-key c =
    let small = call-small c.self.inside.log.now c.args.self.now c.args.call.now c.self.view_is c.self.invariant.small c.requires in
    let key = ap called_key c.in-WriteTo.ensures in
    let bound = small.key in
    omega arith

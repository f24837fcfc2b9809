use Rattle.std.proofs.Common.{◌∙◌, sym, ap, arith}
use Rattle.log_events.specs.Events.{run_calls}
use Rattle.log_events.specs.Histories.{operation}
use Rattle.log_events.specs.Shapes.{called_key}
use Rattle.log_events.proofs.OutcomesLaws.{call-small, lost-listed}
use Rattle.log_events.proofs.outcomes.Outcomes.operation.Goals as goal

pub written-requires-clause-small_key : goal.written-requires-clause-small_key
written-requires-clause-small_key c =
    let small = call-small c.self.inside.log.now c.args.self.now c.args.call.now c.self.view_is c.self.invariant.small c.requires in
    let key = ap called_key c.in-WriteTo.ensures in
    let bound = small.key in
    omega arith

pub written-requires-clause-small_place : goal.written-requires-clause-small_place
written-requires-clause-small_place c =
    let small = call-small c.self.inside.log.now c.args.self.now c.args.call.now c.self.view_is c.self.invariant.small c.requires in
    let place = c.place.ensures in
    let bound = small.place in
    omega arith

pub written-requires-clause-lost : goal.written-requires-clause-lost
written-requires-clause-lost c = λ lost.
    lost-listed (run_calls c.args.self.now) c.args.call.now c.in-WriteTo.key c.in-WriteTo.value c.requires (sym c.in-WriteTo.ensures) (sym c.ending.ensures ∙ lost)

pub read-requires : goal.read-requires
read-requires c =
    let small = call-small c.self.inside.log.now c.args.self.now c.args.call.now c.self.view_is c.self.invariant.small c.requires in
    let key = ap called_key c.in-ReadOf.ensures in
    let bound = small.key in
    omega arith

pub deletion-requires-clause-small_key : goal.deletion-requires-clause-small_key
deletion-requires-clause-small_key c =
    let small = call-small c.self.inside.log.now c.args.self.now c.args.call.now c.self.view_is c.self.invariant.small c.requires in
    let key = ap called_key c.in-DeleteOf.ensures in
    let bound = small.key in
    omega arith

pub deletion-requires-clause-small_place : goal.deletion-requires-clause-small_place
deletion-requires-clause-small_place c =
    let small = call-small c.self.inside.log.now c.args.self.now c.args.call.now c.self.view_is c.self.invariant.small c.requires in
    let place = c.place-in-DeleteOf.ensures in
    let bound = small.place in
    omega arith

pub returns-in-ReadOf : goal.returns-in-ReadOf
returns-in-ReadOf c = c.read.ensures c.args.call.now.place
    ∙ (λ i. operation c.args.self.now c.args.call.now.place (c.in-ReadOf.ensures i) (c.ending-in-ReadOf.ensures i))

pub returns-in-DeleteOf : goal.returns-in-DeleteOf
returns-in-DeleteOf c = c.deletion.ensures c.args.self.now
    ∙ (λ i. operation c.args.self.now (c.place-in-DeleteOf.ensures i) (c.in-DeleteOf.ensures i) (c.ending-in-DeleteOf.ensures i))

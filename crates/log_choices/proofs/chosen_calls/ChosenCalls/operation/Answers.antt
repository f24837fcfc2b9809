use Rattle.std.proofs.Common.{◌∙◌, sym, ap, arith}
use Rattle.log_events.specs.Events.{run_calls}
use Rattle.log_events.specs.Shapes.{called_key}
use Rattle.log_choices.proofs.ChosenCallsLaws.{lost-write, missed-listed, small-call}
use Rattle.log_choices.proofs.chosen_calls.ChosenCalls.operation.Goals as goal

pub written-requires-clause-small_key : goal.written-requires-clause-small_key
written-requires-clause-small_key c =
    let small = small-call c.self.inside.reads c.args.self.now c.args.call.now c.self.view_is c.self.invariant.small c.requires in
    let key = ap called_key c.in-WriteTo.ensures in
    let bound = small.key in
    omega arith

pub written-requires-clause-small_place : goal.written-requires-clause-small_place
written-requires-clause-small_place c =
    let small = small-call c.self.inside.reads c.args.self.now c.args.call.now c.self.view_is c.self.invariant.small c.requires in
    let place = c.place.ensures in
    let bound = small.place in
    omega arith

pub written-requires-clause-lost : goal.written-requires-clause-lost
written-requires-clause-lost c = λ lost.
    lost-write c.args.self.now.0 c.args.call.now c.place.result c.in-WriteTo.key c.in-WriteTo.value c.requires (sym c.place.ensures)
    (sym c.in-WriteTo.ensures) (sym c.ending.ensures ∙ lost)

pub read-requires-clause-small_key : goal.read-requires-clause-small_key
read-requires-clause-small_key c =
    let small = small-call c.self.inside.reads c.args.self.now c.args.call.now c.self.view_is c.self.invariant.small c.requires in
    let key = ap called_key c.in-ReadOf.ensures in
    let bound = small.key in
    omega arith

pub read-requires-clause-missed : goal.read-requires-clause-missed
read-requires-clause-missed c = λ missed.
    missed-listed (run_calls c.args.self.now.0) c.args.call.now c.in-ReadOf.key c.requires (sym c.in-ReadOf.ensures)
    (sym c.ending-in-ReadOf.ensures ∙ missed)

pub deletion-requires-clause-small_key : goal.deletion-requires-clause-small_key
deletion-requires-clause-small_key c =
    let small = small-call c.self.inside.reads c.args.self.now c.args.call.now c.self.view_is c.self.invariant.small c.requires in
    let key = ap called_key c.in-DeleteOf.ensures in
    let bound = small.key in
    omega arith

pub deletion-requires-clause-small_place : goal.deletion-requires-clause-small_place
deletion-requires-clause-small_place c =
    let small = small-call c.self.inside.reads c.args.self.now c.args.call.now c.self.view_is c.self.invariant.small c.requires in
    let place = c.place-in-DeleteOf.ensures in
    let bound = small.place in
    omega arith

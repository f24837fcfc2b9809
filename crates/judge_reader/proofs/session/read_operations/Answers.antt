use Rattle.std.proofs.Common.{◌≡◌, ◌-◌, length, Some, None, sym, ap, ◌∙◌, arith}
use Rattle.judge_reader.specs.Steps.Taking.{refusal_as}
use Rattle.std.proofs.lemmas.Result.{err_from_is_err_and}
use Rattle.json.specs.Json.{after_end_array}
use Rattle.json_tokens.proofs.Elements.{element_refused, no_rest_after}
use Rattle.judge_reader.proofs.OperationsRead.{at_place, session_begun, session_more, session_over, session_refused}
use Rattle.judge_reader.proofs.session.read_operations.Goals as goal

pub operations-init : goal.operations-init
operations-init c = session_begun c.args.depth c.args.s c.args.entries.now.items c.args.reader.now

pub returns-in_err-taken-clause-refused : goal.returns-in_err-taken-clause-refused
returns-in_err-taken-clause-refused c =
    let now = c.operations.reader in
    let inv = c.operations.invariant in
    let going : (after_end_array now ≡ None) × (c.take_end_array.new.self ≡ now) = grind arith in
    let p = err_from_is_err_and c.from_residual.result c.from_residual.ensures.1 in
    rw (p.1, p.2) (element_refused c.args.depth c.args.reader.now now inv.elements inv.so_far going.0 c.in_err-taken.field-0.0 (rw (← going.1) c.in_err-taken.ensures.refused))

pub returns-in_err-walk_items-in-Some-clause-refused : goal.returns-in_err-walk_items-in-Some-clause-refused
returns-in_err-walk_items-in-Some-clause-refused c =
    let now = c.operations.reader in
    let inv = c.operations.invariant in
    let going : (after_end_array now ≡ None) × (c.take_end_array.new.self ≡ now) = grind arith in
    let done = c.in_ok-taken.ensures in
    let p = err_from_is_err_and c.from_residual-in_err-walk_items-in-Some.result c.from_residual-in_err-walk_items-in-Some.ensures.1 in
    rw (p.1, p.2) (no_rest_after c.args.depth c.args.reader.now now inv.elements inv.so_far c.push_operation.new.reader done.read.0 going.0 (rw (← going.1) done.read.1) (rw (← going.1) done.shorter) c.in_err-walk_items-in-Some.ensures.value)

pub operations-preserved : goal.operations-preserved
operations-preserved c =
    let now = c.operations.reader in
    let old = c.args.entries.now.items in
    let es = c.operations.entries.items in
    let going : (after_end_array now ≡ None) × (c.take_end_array.new.self ≡ now) = grind arith in
    let index : c.len.result - c.len-before.result ≡ length es - length old = grind arith in
    let at : c.at-op.result ≡ at_place c.args.s (length es - length old) = c.at-op.ensures ∙ ap (at_place c.args.s) index in
    let done = c.in_ok-taken.ensures in
    let none : refusal_as c.in_ok-taken.taken (at_place c.args.s (length es - length old)) ≡ None = ap (refusal_as c.in_ok-taken.taken) (sym at) ∙ sym c.refusal.ensures ∙ c.in-None.is in
    rw (c.is_unknown-unknown_seen.ensures)
    (session_more c.args.depth c.args.s old c.args.reader.now now es c.operations.unknown_seen c.operations.invariant c.push_operation.new.reader c.push_operation.new.entries.items c.in_ok-taken.taken
    going.0 (rw (← going.1) done.read) (rw (← going.1) done.shorter) none)

pub returns-in-Some-clause-read : goal.returns-in-Some-clause-read
returns-in-Some-clause-read c =
    let now = c.operations.reader in
    let old = c.args.entries.now.items in
    let es = c.operations.entries.items in
    let going : (after_end_array now ≡ None) × (c.take_end_array.new.self ≡ now) = grind arith in
    let index : c.len.result - c.len-before.result ≡ length es - length old = grind arith in
    let at : c.at-op.result ≡ at_place c.args.s (length es - length old) = c.at-op.ensures ∙ ap (at_place c.args.s) index in
    let done = c.in_ok-taken.ensures in
    let refused : refusal_as c.in_ok-taken.taken (at_place c.args.s (length es - length old)) ≡ Some c.in-Some.refusal = ap (refusal_as c.in_ok-taken.taken) (sym at) ∙ sym c.refusal.ensures ∙ c.in-Some.is in
    session_refused c.args.depth c.args.s old c.args.reader.now now es c.operations.unknown_seen c.operations.invariant c.push_operation.new.reader c.push_operation.new.entries.items c.in_ok-taken.taken
    going.0 (rw (← going.1) done.read) (rw (← going.1) done.shorter) c.walk_items.new.reader c.push_operation.new.entries.items c.in-Some.refusal refused c.in_ok-walk_items-in-Some.ensures.value

pub returns-clause-read : goal.returns-clause-read
returns-clause-read c =
    session_over c.args.depth c.args.s c.args.entries.now.items c.args.reader.now c.operations.reader c.operations.entries.items c.operations.unknown_seen c.operations.invariant c.take_end_array.new.self (grind arith)

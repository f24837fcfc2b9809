use Rattle.std.proofs.Common.{◌≡◌, ◌++◌, ◌∷◌, [], length, None, arith}
use Rattle.std.proofs.lemmas.Result.{err_from_is_err_and}
use Rattle.json.specs.Json.{after_end_array}
use Rattle.json_tokens.proofs.Elements.{element_refused, no_rest_after}
use Rattle.judge_reader.proofs.SessionsRead.{rows_begun, sessions_more, sessions_over, sessions_refused}
use Rattle.judge_reader.proofs.sessions.read_sessions.Goals as goal

pub returns-in_err-read_session-clause-refused : goal.returns-in_err-read_session-clause-refused
returns-in_err-read_session-clause-refused c =
    let now = c.sessions.reader in
    let inv = c.sessions.invariant.sessions in
    let going : (after_end_array now ≡ None) × (c.take_end_array.new.self ≡ now) = grind arith in
    let p = err_from_is_err_and c.from_residual.result c.from_residual.ensures.1 in
    rw (p.1, p.2) (element_refused c.args.depth c.args.reader.now now inv.elements inv.so_far going.0 c.in_err-read_session.field-0.0 (rw (← going.1) c.in_err-read_session.ensures.refused))

pub returns-in_err-walk_items-in-Some-clause-refused : goal.returns-in_err-walk_items-in-Some-clause-refused
returns-in_err-walk_items-in-Some-clause-refused c =
    let now = c.sessions.reader in
    let inv = c.sessions.invariant.sessions in
    let going : (after_end_array now ≡ None) × (c.take_end_array.new.self ≡ now) = grind arith in
    let done = c.in_ok-read_session.ensures in
    let p = err_from_is_err_and c.from_residual-in_err-walk_items-in-Some.result c.from_residual-in_err-walk_items-in-Some.ensures.1 in
    rw (p.1, p.2) (no_rest_after c.args.depth c.args.reader.now now inv.elements inv.so_far c.read_session.new.reader done.read.0 going.0 (rw (← going.1) done.read.1) (rw (← going.1) done.shorter) c.in_err-walk_items-in-Some.ensures.value)

pub sessions-init : goal.sessions-init
sessions-init c = rw (c.new-entries.ensures.items, c.new-ends.ensures.items) (rows_begun c.args.depth c.args.reader.now)

pub sessions-preserved : goal.sessions-preserved
sessions-preserved c =
    let now = c.sessions.reader in
    let going : (after_end_array now ≡ None) × (c.take_end_array.new.self ≡ now) = grind arith in
    let done = c.in_ok-read_session.ensures in
    let after = c.read_session.new.entries in
    let count : c.len.result ≡ length c.sessions.ends.items = grind arith in
    let len : c.len-in-None.result ≡ length after.items = grind arith in
    let pushed : c.push.new.self.items ≡ c.sessions.ends.items ++ c.len-in-None.result ∷ [] = grind arith in
    sessions_more c.args.depth c.args.reader.now now c.sessions.entries.items c.sessions.ends.items c.sessions.invariant c.read_session.new.reader after.items c.len.result c.in_ok-read_session.field-0 count
    going.0 (rw (← going.1) done.read) (rw (← going.1) done.shorter) c.in-None.is c.len-in-None.result c.push.new.self.items len pushed

pub returns-in-Some-clause-read : goal.returns-in-Some-clause-read
returns-in-Some-clause-read c =
    let now = c.sessions.reader in
    let going : (after_end_array now ≡ None) × (c.take_end_array.new.self ≡ now) = grind arith in
    let done = c.in_ok-read_session.ensures in
    let count : c.len.result ≡ length c.sessions.ends.items = grind arith in
    sessions_refused c.args.depth c.args.reader.now now c.sessions.entries.items c.sessions.ends.items c.sessions.invariant c.read_session.new.reader c.read_session.new.entries.items c.len.result c.in_ok-read_session.field-0 count
    going.0 (rw (← going.1) done.read) (rw (← going.1) done.shorter) c.in-Some.refusal c.in-Some.is c.walk_items.new.reader c.in_ok-walk_items-in-Some.ensures.value

pub returns-clause-read : goal.returns-clause-read
returns-clause-read c =
    rw c.of.ensures
    (sessions_over c.args.depth c.args.reader.now c.sessions.reader c.sessions.entries.items c.sessions.ends.items c.sessions.invariant c.take_end_array.new.self (grind arith))

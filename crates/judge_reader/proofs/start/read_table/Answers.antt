use Rattle.std.proofs.Common.{◌≡◌, ◌≢◌, [], None, true, false, sym, ◌∙◌, arith}
use Rattle.std.proofs.lemmas.Result.{err_from_is_err_and}
use Rattle.json.specs.Json.{after_end_array}
use Rattle.json_tokens.proofs.Elements.{element_refused, no_rest_after}
use Rattle.judge_reader.proofs.TableRead.{table_begun, table_empty, table_more, table_over, table_refused}
use Rattle.judge_reader.proofs.start.read_table.Goals as goal

pub entries-init : goal.entries-init
entries-init c = rw c.new-table.ensures (table_begun c.args.depth c.args.reader.now)

pub returns-in_err-key-clause-refused : goal.returns-in_err-key-clause-refused
returns-in_err-key-clause-refused c =
    let now = c.entries.reader in
    let inv = c.entries.invariant in
    let going : (after_end_array now ≡ None) × (c.take_end_array.new.self ≡ now) = grind arith in
    let p = err_from_is_err_and c.from_residual.result c.from_residual.ensures.1 in
    rw (p.1, p.2) (element_refused c.args.depth c.args.reader.now now inv.elements inv.so_far going.0 c.in_err-key.field-0.0 (rw (← going.1) c.in_err-key.ensures.refused))

pub entries-preserved : goal.entries-preserved
entries-preserved c =
    let now = c.entries.reader in
    let going : (after_end_array now ≡ None) × (c.take_end_array.new.self ≡ now) = grind arith in
    let done = c.in_ok-key.ensures in
    rw c.in_ok-push-in-Some.ensures.ok
    (table_more c.args.depth c.args.reader.now now c.entries.table c.entries.before c.entries.invariant c.read_entry.new.reader (c.in-Some.key, c.in-Some.start)
    going.0 (done.read.0, rw (← going.1) done.read.1, done.read.2 ∙ c.in-Some.is) (rw (← going.1) done.shorter))

pub returns-in_err-walk_items-in-None-clause-refused : goal.returns-in_err-walk_items-in-None-clause-refused
returns-in_err-walk_items-in-None-clause-refused c =
    let now = c.entries.reader in
    let inv = c.entries.invariant in
    let going : (after_end_array now ≡ None) × (c.take_end_array.new.self ≡ now) = grind arith in
    let done = c.in_ok-key.ensures in
    let p = err_from_is_err_and c.from_residual-in_err-walk_items-in-None.result c.from_residual-in_err-walk_items-in-None.ensures.1 in
    rw (p.1, p.2) (no_rest_after c.args.depth c.args.reader.now now inv.elements inv.so_far c.read_entry.new.reader done.read.0 going.0 (rw (← going.1) done.read.1) (rw (← going.1) done.shorter) c.in_err-walk_items-in-None.ensures.value)

pub returns-in-None-clause-read : goal.returns-in-None-clause-read
returns-in-None-clause-read c =
    let now = c.entries.reader in
    let going : (after_end_array now ≡ None) × (c.take_end_array.new.self ≡ now) = grind arith in
    let done = c.in_ok-key.ensures in
    table_refused c.args.depth c.args.reader.now now c.entries.table c.entries.before c.entries.invariant c.read_entry.new.reader c.walk_items.new.reader
    going.0 (done.read.0, rw (← going.1) done.read.1, done.read.2 ∙ c.in-None.is) (rw (← going.1) done.shorter) c.in_ok-walk_items-in-None.ensures.value

pub returns-then-is_empty-clause-read : goal.returns-then-is_empty-clause-read
returns-then-is_empty-clause-read c =
    table_empty c.args.depth c.args.reader.now c.entries.reader c.entries.table c.entries.before c.entries.invariant c.take_end_array.new.self (grind arith) (c.is_empty.ensures.0 c.if-is_empty.true)

pub returns-else-is_empty-clause-read : goal.returns-else-is_empty-clause-read
returns-else-is_empty-clause-read c =
    let some : c.entries.table ≢ [] = λ e. let both : false ≡ true = sym c.if-is_empty.false ∙ c.is_empty.ensures.1 e in absurd cc in
    table_over c.args.depth c.args.reader.now c.entries.reader c.entries.table c.entries.before c.entries.invariant c.take_end_array.new.self (grind arith) some

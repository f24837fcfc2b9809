use Rattle.std.proofs.Common.{◌≡◌, [], ◌∷◌, Some, None, Ok, refl, arith}
use Rattle.std.proofs.lemmas.Result.{err_from_is_err_and}
use Rattle.json.specs.Json.{after_end_array}
use Rattle.judge_reader.specs.Steps.Reading.{start_read}
use Rattle.json_tokens.proofs.Elements.{element_refused, no_rest, read_all, read_none, read_one_more, rest_passed}
use Rattle.judge_reader.proofs.start.read_start.Goals as goal

pub returns-then-take_end_array-clause-read : goal.returns-then-take_end_array-clause-read
returns-then-take_end_array-clause-read c =
    let old = c.args.reader.now in
    rw c.new.ensures (read_all c.args.depth old old [] (read_none c.args.depth old) (λ ds. start_read ds ≡ Some (Ok [])) c.take_end_array.new.self (grind arith) refl)

pub returns-in_err-table-clause-refused : goal.returns-in_err-table-clause-refused
returns-in_err-table-clause-refused c =
    let old = c.args.reader.now in
    let going : (after_end_array old ≡ None) × (c.take_end_array.new.self ≡ old) = grind arith in
    let p = err_from_is_err_and c.from_residual.result c.from_residual.ensures.1 in
    rw (p.1, p.2) (element_refused c.args.depth old old [] (read_none c.args.depth old) going.0 c.in_err-table.field-0.0 (rw (← going.1) c.in_err-table.ensures.refused))

pub returns-then-take_end_array-2-clause-read : goal.returns-then-take_end_array-2-clause-read
returns-then-take_end_array-2-clause-read c =
    let old = c.args.reader.now in
    let now = c.read_table_list.new.reader in
    let going : (after_end_array old ≡ None) × (c.take_end_array.new.self ≡ old) = grind arith in
    let done = c.in_ok-table.ensures in
    let d = done.read.0 in
    let one = read_one_more c.args.depth old old [] (read_none c.args.depth old) now d going.0 (rw (← going.1) done.read.1) (rw (← going.1) done.shorter) in
    read_all c.args.depth old now (d ∷ []) one (λ ds. start_read ds ≡ c.in_ok-table.table) c.take_end_array-2.new.self (grind arith) done.read.2

pub returns-in_err-pass_value-clause-refused : goal.returns-in_err-pass_value-clause-refused
returns-in_err-pass_value-clause-refused c =
    let old = c.args.reader.now in
    let now = c.read_table_list.new.reader in
    let going : (after_end_array old ≡ None) × (c.take_end_array.new.self ≡ old) = grind arith in
    let going_on : (after_end_array now ≡ None) × (c.take_end_array-2.new.self ≡ now) = grind arith in
    let done = c.in_ok-table.ensures in
    let d = done.read.0 in
    let one = read_one_more c.args.depth old old [] (read_none c.args.depth old) now d going.0 (rw (← going.1) done.read.1) (rw (← going.1) done.shorter) in
    let p = err_from_is_err_and c.from_residual-in_err-pass_value.result c.from_residual-in_err-pass_value.ensures.1 in
    rw (p.1, p.2) (element_refused c.args.depth old now (d ∷ []) one going_on.0 c.in_err-pass_value.field-0.0 (rw (← going_on.1) c.in_err-pass_value.ensures.refused))

pub returns-in_err-walk_items-clause-refused : goal.returns-in_err-walk_items-clause-refused
returns-in_err-walk_items-clause-refused c =
    let old = c.args.reader.now in
    let now = c.read_table_list.new.reader in
    let behind = c.pass_value.new.reader in
    let going : (after_end_array old ≡ None) × (c.take_end_array.new.self ≡ old) = grind arith in
    let going_on : (after_end_array now ≡ None) × (c.take_end_array-2.new.self ≡ now) = grind arith in
    let done = c.in_ok-table.ensures in
    let passed = c.in_ok-pass_value.ensures in
    let d = done.read.0 in
    let e = passed.passed.0 in
    let one = read_one_more c.args.depth old old [] (read_none c.args.depth old) now d going.0 (rw (← going.1) done.read.1) (rw (← going.1) done.shorter) in
    let two = read_one_more c.args.depth old now (d ∷ []) one behind e going_on.0 (rw (← going_on.1) passed.passed.1) (rw (← going_on.1) passed.shorter) in
    let p = err_from_is_err_and c.from_residual-in_err-walk_items.result c.from_residual-in_err-walk_items.ensures.1 in
    rw (p.1, p.2) (no_rest c.args.depth old behind (d ∷ e ∷ []) two c.in_err-walk_items.ensures.value)

pub returns-clause-read : goal.returns-clause-read
returns-clause-read c =
    let old = c.args.reader.now in
    let now = c.read_table_list.new.reader in
    let behind = c.pass_value.new.reader in
    let going : (after_end_array old ≡ None) × (c.take_end_array.new.self ≡ old) = grind arith in
    let going_on : (after_end_array now ≡ None) × (c.take_end_array-2.new.self ≡ now) = grind arith in
    let done = c.in_ok-table.ensures in
    let passed = c.in_ok-pass_value.ensures in
    let d = done.read.0 in
    let e = passed.passed.0 in
    let one = read_one_more c.args.depth old old [] (read_none c.args.depth old) now d going.0 (rw (← going.1) done.read.1) (rw (← going.1) done.shorter) in
    let two = read_one_more c.args.depth old now (d ∷ []) one behind e going_on.0 (rw (← going_on.1) passed.passed.1) (rw (← going_on.1) passed.shorter) in
    rest_passed c.args.depth old behind (d ∷ e ∷ []) two (λ ds. start_read ds ≡ None) c.walk_items.new.reader c.in_ok-walk_items.ensures.value (λ more. refl)

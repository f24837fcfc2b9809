use Rattle.std.proofs.Common.{◌≡◌, [], ◌∷◌, Some, None, refl, arith}
use Rattle.std.proofs.lemmas.Result.{err_from_is_err_and}
use Rattle.json.specs.Json.{after_end_array}
use Rattle.json_histories.specs.Reading.{parts_among}
use Rattle.json_histories.specs.declared.read_error.ReadError.TheVariants.{BadShape}
use Rattle.judge_reader.specs.LongRefusals.{parts_refusal}
use Rattle.judge_reader.specs.Steps.Reading.{AreParts, start_read}
use Rattle.json_tokens.proofs.Elements.{element_refused, read_all, read_none, read_one_more, rest_refused, then_rest}
use Rattle.judge_reader.proofs.PartsRead.{all_parts}
use Rattle.judge_reader.proofs.parts.read_parts.Goals as goal

pub returns-then-take_end_array-clause-read : goal.returns-then-take_end_array-clause-read
returns-then-take_end_array-clause-read c =
    let old = c.args.reader.now in
    read_all c.args.depth old old [] (read_none c.args.depth old) (λ ds. parts_refusal (parts_among ds) ≡ Some BadShape) c.take_end_array.new.self (grind arith) refl

pub returns-in_err-name-clause-refused : goal.returns-in_err-name-clause-refused
returns-in_err-name-clause-refused c =
    let old = c.args.reader.now in
    let going : (after_end_array old ≡ None) × (c.take_end_array.new.self ≡ old) = grind arith in
    let p = err_from_is_err_and c.from_residual.result c.from_residual.ensures.1 in
    rw (p.1, p.2) (element_refused c.args.depth old old [] (read_none c.args.depth old) going.0 c.in_err-name.field-0.0 (rw (← going.1) c.in_err-name.ensures.refused))

pub returns-then-take_end_array-2-clause-read : goal.returns-then-take_end_array-2-clause-read
returns-then-take_end_array-2-clause-read c =
    let old = c.args.reader.now in
    let now = c.read_name.new.reader in
    let going : (after_end_array old ≡ None) × (c.take_end_array.new.self ≡ old) = grind arith in
    let done = c.in_ok-name.ensures in
    let n = done.read.0 in
    let one = read_one_more c.args.depth old old [] (read_none c.args.depth old) now n going.0 (rw (← going.1) done.read.1) (rw (← going.1) done.shorter) in
    read_all c.args.depth old now (n ∷ []) one (λ ds. parts_refusal (parts_among ds) ≡ Some BadShape) c.take_end_array-2.new.self (grind arith) refl

pub returns-in_err-sessions-clause-refused : goal.returns-in_err-sessions-clause-refused
returns-in_err-sessions-clause-refused c =
    let old = c.args.reader.now in
    let now = c.read_name.new.reader in
    let going : (after_end_array old ≡ None) × (c.take_end_array.new.self ≡ old) = grind arith in
    let going_on : (after_end_array now ≡ None) × (c.take_end_array-2.new.self ≡ now) = grind arith in
    let done = c.in_ok-name.ensures in
    let n = done.read.0 in
    let one = read_one_more c.args.depth old old [] (read_none c.args.depth old) now n going.0 (rw (← going.1) done.read.1) (rw (← going.1) done.shorter) in
    let p = err_from_is_err_and c.from_residual-in_err-sessions.result c.from_residual-in_err-sessions.ensures.1 in
    rw (p.1, p.2) (element_refused c.args.depth old now (n ∷ []) one going_on.0 c.in_err-sessions.field-0.0 (rw (← going_on.1) c.in_err-sessions.ensures.refused))

pub returns-in_err-start-clause-refused : goal.returns-in_err-start-clause-refused
returns-in_err-start-clause-refused c =
    let old = c.args.reader.now in
    let now = c.read_name.new.reader in
    let behind = c.read_session_list.new.reader in
    let going : (after_end_array old ≡ None) × (c.take_end_array.new.self ≡ old) = grind arith in
    let going_on : (after_end_array now ≡ None) × (c.take_end_array-2.new.self ≡ now) = grind arith in
    let done = c.in_ok-name.ensures in
    let listed = c.in_ok-sessions.ensures in
    let n = done.read.0 in
    let ss = listed.read.0 in
    let one = read_one_more c.args.depth old old [] (read_none c.args.depth old) now n going.0 (rw (← going.1) done.read.1) (rw (← going.1) done.shorter) in
    let two = read_one_more c.args.depth old now (n ∷ []) one behind ss going_on.0 (rw (← going_on.1) listed.read.1) (rw (← going_on.1) listed.shorter) in
    let p = err_from_is_err_and c.from_residual-in_err-start.result c.from_residual-in_err-start.ensures.1 in
    rw (p.1, p.2) (rest_refused c.args.depth old behind (n ∷ ss ∷ []) two c.in_err-start.field-0.0 c.in_err-start.ensures.refused)

pub returns-clause-read : goal.returns-clause-read
returns-clause-read c =
    let old = c.args.reader.now in
    let now = c.read_name.new.reader in
    let behind = c.read_session_list.new.reader in
    let going : (after_end_array old ≡ None) × (c.take_end_array.new.self ≡ old) = grind arith in
    let going_on : (after_end_array now ≡ None) × (c.take_end_array-2.new.self ≡ now) = grind arith in
    let done = c.in_ok-name.ensures in
    let listed = c.in_ok-sessions.ensures in
    let n = done.read.0 in
    let ss = listed.read.0 in
    let one = read_one_more c.args.depth old old [] (read_none c.args.depth old) now n going.0 (rw (← going.1) done.read.1) (rw (← going.1) done.shorter) in
    let two = read_one_more c.args.depth old now (n ∷ []) one behind ss going_on.0 (rw (← going_on.1) listed.read.1) (rw (← going_on.1) listed.shorter) in
    then_rest c.args.depth old behind (n ∷ ss ∷ []) two (λ ds. AreParts (parts_among ds) c.joined.result) (λ ds. start_read ds ≡ c.in_ok-start.start) c.read_start.new.reader c.in_ok-start.ensures.read
    (λ more is. rw (c.joined.ensures, ← done.read.2, ← is) (all_parts n ss more c.in_ok-sessions.sessions listed.read.2))

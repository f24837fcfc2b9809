use Rattle.std.proofs.Common.{◌≡◌, [], ◌∷◌, None, refl, arith}
use Rattle.std.proofs.lemmas.Result.{err_from_is_err_and}
use Rattle.json.specs.Json.{after_end_array}
use Rattle.judge_reader.specs.Steps.Reading.{IsFirst}
use Rattle.json_histories.specs.declared.read_error.ReadError.TheVariants.{BadShape}
use Rattle.std.proofs.Common.{Err}
use Rattle.json_tokens.proofs.Elements.{element_refused, no_rest_after, read_all, read_none, read_one_more, rest_passed}
use Rattle.judge_reader.proofs.first.read_first.Goals as goal

pub returns-then-take_end_array-clause-read : goal.returns-then-take_end_array-clause-read
returns-then-take_end_array-clause-read c =
    let old = c.args.reader.now in
    read_all c.args.depth old old [] (read_none c.args.depth old) (λ ds. IsFirst ds (Err BadShape)) c.take_end_array.new.self (grind arith) refl

pub returns-in_err-parts-clause-refused : goal.returns-in_err-parts-clause-refused
returns-in_err-parts-clause-refused c =
    let old = c.args.reader.now in
    let going : (after_end_array old ≡ None) × (c.take_end_array.new.self ≡ old) = grind arith in
    let p = err_from_is_err_and c.from_residual.result c.from_residual.ensures.1 in
    rw (p.1, p.2) (element_refused c.args.depth old old [] (read_none c.args.depth old) going.0 c.in_err-parts.field-0.0 (rw (← going.1) c.in_err-parts.ensures.refused))

pub returns-in_err-walk_items-clause-refused : goal.returns-in_err-walk_items-clause-refused
returns-in_err-walk_items-clause-refused c =
    let old = c.args.reader.now in
    let going : (after_end_array old ≡ None) × (c.take_end_array.new.self ≡ old) = grind arith in
    let done = c.in_ok-parts.ensures in
    let p = err_from_is_err_and c.from_residual-in_err-walk_items.result c.from_residual-in_err-walk_items.ensures.1 in
    rw (p.1, p.2)
    (no_rest_after c.args.depth old old [] (read_none c.args.depth old) c.next_history.new.reader done.read.0 going.0 (rw (← going.1) done.read.1)
    (rw (← going.1) done.shorter) c.in_err-walk_items.ensures.value)

pub returns-clause-read : goal.returns-clause-read
returns-clause-read c =
    let old = c.args.reader.now in
    let now = c.next_history.new.reader in
    let going : (after_end_array old ≡ None) × (c.take_end_array.new.self ≡ old) = grind arith in
    let done = c.in_ok-parts.ensures in
    let d = done.read.0 in
    let one = read_one_more c.args.depth old old [] (read_none c.args.depth old) now d going.0 (rw (← going.1) done.read.1) (rw (← going.1) done.shorter) in
    rest_passed c.args.depth old now (d ∷ []) one (λ ds. IsFirst ds c.in_ok-parts.parts) c.walk_items.new.reader c.in_ok-walk_items.ensures.value
    (λ more. done.read.2)

use Rattle.std.proofs.Common.{◌≡◌, [], None, arith}
use Rattle.std.proofs.lemmas.Result.{err_from_is_err_and}
use Rattle.json.specs.Json.{after_end_array}
use Rattle.json_tokens.proofs.Elements.{element_refused, no_rest_after, read_none}
use Rattle.pattern_json.proofs.Openings.{if_opened, if_refused, none_opened, nothing_opened, read_word}
use Rattle.pattern_json.proofs.opening.opened_rest.Goals as goal

pub returns-then-take_end_array-clause-read : goal.returns-then-take_end_array-clause-read
returns-then-take_end_array-clause-read g c =
    nothing_opened g.W.Word.name g.W.Opening.word_of g.W.Opening.shown c.args.depth c.args.reader.now c.take_end_array.new.self (grind arith)

pub returns-in_err-word-clause-refused : goal.returns-in_err-word-clause-refused
returns-in_err-word-clause-refused g c =
    let now = c.args.reader.now in
    let going : (after_end_array now ≡ None) × (c.take_end_array.new.self ≡ now) = grind arith in
    let p = err_from_is_err_and c.from_residual.result c.from_residual.ensures.1 in
    rw (p.1, p.2) (element_refused c.args.depth now now [] (read_none c.args.depth now) going.0 c.in_err-word.field-0.0 (rw (← going.1) c.in_err-word.ensures.refused))

pub returns-in_err-walk_items-in-None-clause-refused : goal.returns-in_err-walk_items-in-None-clause-refused
returns-in_err-walk_items-in-None-clause-refused g c =
    let now = c.args.reader.now in
    let going : (after_end_array now ≡ None) × (c.take_end_array.new.self ≡ now) = grind arith in
    let word = c.in_ok-word.ensures in
    let p = err_from_is_err_and c.from_residual-in_err-walk_items-in-None.result c.from_residual-in_err-walk_items-in-None.ensures.1 in
    rw (p.1, p.2) (no_rest_after c.args.depth now now [] (read_none c.args.depth now) c.next_word.new.reader word.read.0 going.0 (rw (← going.1) word.read.1) (rw (← going.1) word.shorter) c.in_err-walk_items-in-None.ensures.value)

pub returns-in-Some-clause-read : goal.returns-in-Some-clause-read
returns-in-Some-clause-read g c =
    let now = c.args.reader.now in
    let going : (after_end_array now ≡ None) × (c.take_end_array.new.self ≡ now) = grind arith in
    let read = rw c.in-Some.is at c.in_ok-word.ensures.read in
    let so_far = read_word c.args.depth now c.next_word.new.reader read.0 going.0 (rw (← going.1) read.1) (rw (← going.1) c.in_ok-word.ensures.shorter) in
    if_opened g.W.Word.name g.W.Opening.word_of g.W.Opening.shown c.args.depth now c.next_word.new.reader read.0 so_far c.in-Some.word read.2 c.rest.result c.rest.new.reader c.rest.ensures.read

pub returns-in-Some-clause-refused : goal.returns-in-Some-clause-refused
returns-in-Some-clause-refused g c =
    let now = c.args.reader.now in
    let going : (after_end_array now ≡ None) × (c.take_end_array.new.self ≡ now) = grind arith in
    let word = c.in_ok-word.ensures in
    if_refused c.args.depth now c.next_word.new.reader word.read.0 going.0 (rw (← going.1) word.read.1) (rw (← going.1) word.shorter) c.rest.result c.rest.ensures.refused

pub returns-in_ok-walk_items-in-None-clause-read : goal.returns-in_ok-walk_items-in-None-clause-read
returns-in_ok-walk_items-in-None-clause-read g c =
    let now = c.args.reader.now in
    let going : (after_end_array now ≡ None) × (c.take_end_array.new.self ≡ now) = grind arith in
    let read = rw c.in-None.is at c.in_ok-word.ensures.read in
    let so_far = read_word c.args.depth now c.next_word.new.reader read.0 going.0 (rw (← going.1) read.1) (rw (← going.1) c.in_ok-word.ensures.shorter) in
    none_opened g.W.Word.name g.W.Opening.word_of g.W.Opening.shown c.args.depth now c.next_word.new.reader read.0 so_far read.2 c.walk_items.new.reader c.in_ok-walk_items-in-None.ensures.value

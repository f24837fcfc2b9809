use Rattle.std.proofs.Common.{◌≡◌, ◌+◌, ◌<◌, ◌≤◌, Bool, true, false, length, ap, ◌∙◌, arith, ⊎_elim}
use Rattle.std.specs.Prelude.{Some, slice_get}
use Rattle.std.proofs.lemmas.Bool.{cases_lt}
use Rattle.std.proofs.lemmas.Option.{slice_get-get_or}
use Rattle.pattern_search.specs.Steps.Reasons.{IsBefore, IsMarked, last_of}
use Rattle.pattern_search.specs.Steps.Drafts.{IsWritten}
use Rattle.pattern_search.proofs.DraftLines.{premise-written, written-more, written-skip}
use Rattle.pattern_search.proofs.NeededRaises.{rests-both}
use Rattle.pattern_search.proofs.RaisedPairs.{grounded-before}
use Rattle.pattern_search.proofs.search.derivations.write_rest.Goals as goal

pub returns-then-not-needed-number : goal.returns-then-not-needed-number
returns-then-not-needed-number c =
    let exists = c.requires.exists in
    let size = c.requires.size in
    let inside : c.args.number < length c.args.needed.now = omega arith in
    let not : slice_get c.args.needed.now c.args.number ≡ Some false =
    slice_get-get_or c.args.needed.now c.args.number _ inside ∙ ap (λ (b : Bool). Some b) c.if-not-needed-number.true in
    written-skip c.args.order.now c.args.op c.args.reasons.now c.args.needed.now c.args.number c.args.draft.now c.args.written.now c.requires.so_far 0 not

pub returns-then-not-has_room : goal.returns-then-not-has_room
returns-then-not-has_room c =
    let exists = c.requires.exists in
    let bounded = c.requires.so_far.bounded in
    ⊎_elim
    (λ (over : 100000 < length c.args.draft.now.0 + 7). omega arith)
    (λ (fits : length c.args.draft.now.0 + 7 ≤ 100000). let yes = c.has_room.ensures.1 fits in let no = c.if-not-has_room.true in absurd cc)
    (cases_lt 100000 (length c.args.draft.now.0 + 7))

pub push_raise-requires-clause-written : goal.push_raise-requires-clause-written
push_raise-requires-clause-written c =
    let h = c.args.order.now in
    let raises = c.args.reasons.now in
    let needed = c.args.needed.now in
    let n = c.args.number in
    let e = c.raise-raise.result in
    let exists = c.requires.exists in
    let size = c.requires.size in
    let inside : n < length needed = omega arith in
    let marked : slice_get needed n ≡ Some true = slice_get-get_or needed n _ inside ∙ ap (λ (b : Bool). Some b) c.if-not-needed-number.false in
    rests-both (IsBefore h raises n) (IsMarked h raises needed) (IsWritten h raises c.args.written.now c.args.draft.now.1)
    (premise-written h c.args.op raises needed n c.args.draft.now c.args.written.now c.requires.so_far) (last_of e) e.op e.cause
    (grounded-before h c.args.op raises c.requires.grounded n e c.raise-raise.ensures) (c.requires.closed n e (omega arith) marked c.raise-raise.ensures)

pub returns : goal.returns
returns c =
    written-more c.args.order.now c.args.op c.args.reasons.now c.args.needed.now c.args.number c.args.draft.now c.args.written.now c.requires.so_far
    c.raise-raise.result c.push_raise.new.self _ c.raise-raise.ensures c.in_ok-push_raise.ensures

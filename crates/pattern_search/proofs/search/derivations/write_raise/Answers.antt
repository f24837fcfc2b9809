use Rattle.std.proofs.Common.{◌≡◌, ℕ, ◌+◌, ◌<◌, ◌≤◌, ◌∷◌, ◌++◌, [], Bool, true, length, List, ap, sym, ◌∙◌, arith, ⊎_elim, subst, subst₂}
use Rattle.std.specs.Prelude.{Some, slice_get}
use Rattle.std.proofs.lemmas.Bool.{cases_lt}
use Rattle.std.proofs.lemmas.Option.{same_Some}
use Rattle.pattern_search.specs.Steps.Drafts.{AreWritten, IsWritten}
use Rattle.pattern_search.specs.Steps.Reasons.{AreClosedFrom, ArePremises, IsBefore, IsMarked, last_of}
use Rattle.pattern_search.proofs.DraftLines.{ends-in, ends-same, premise-written, written-none}
use Rattle.pattern_search.proofs.NeededRaises.{rests-both}
use Rattle.pattern_search.proofs.RaisedPairs.{grounded-before}
use Rattle.pattern_search.proofs.search.derivations.write_raise.Goals as goal

pub loop-at-init : goal.loop-at-init
loop-at-init c =
    subst (λ (ws : List ℕ). AreWritten c.args.order.now c.args.op c.args.reasons.now c.in_ok-needed.needed.items 0 c.args.draft.now ws) (sym c.new-written.ensures.items)
    (written-none c.args.order.now c.args.op c.args.reasons.now c.in_ok-needed.needed.items c.args.draft.now c.requires.draft c.requires.empty)

pub write_rest-requires-clause-size : goal.write_rest-requires-clause-size
write_rest-requires-clause-size c = ap (λ (xs : List Bool). length xs) c.deref.ensures.value ∙ c.in_ok-needed.ensures.size

pub write_rest-requires-clause-closed : goal.write_rest-requires-clause-closed
write_rest-requires-clause-closed c =
    subst (λ (xs : List Bool). AreClosedFrom c.args.order.now c.args.reasons.now xs 0) (sym c.deref.ensures.value) c.in_ok-needed.ensures.closed

pub write_rest-requires-clause-so_far : goal.write_rest-requires-clause-so_far
write_rest-requires-clause-so_far c =
    subst₂ (λ (xs : List Bool) (ws : List ℕ). AreWritten c.args.order.now c.args.op c.args.reasons.now xs c.loop-at.at c.loop-at.draft ws)
    (sym c.deref.ensures.value) (sym c.deref-in-loop-at.ensures.value) c.loop-at.invariant

pub loop-at-preserved : goal.loop-at-preserved
loop-at-preserved c =
    let made = rw c.in-Some.is at c.in_ok-line.ensures in
    rw c.in_ok-push.ensures.items
    (subst₂ (λ (xs : List Bool) (ws : List ℕ). AreWritten c.args.order.now c.args.op c.args.reasons.now xs (c.loop-at.at + 1) c.write_rest.new.draft (ws ++ c.in-Some.line ∷ []))
    c.deref.ensures.value c.deref-in-loop-at.ensures.value made)

pub returns-in_default : goal.returns-in_default
returns-in_default c e at = rw c.in_default.is at c.in_ok-line.ensures

pub returns-then-not-has_room : goal.returns-then-not-has_room
returns-then-not-has_room c e at =
    let exists = c.requires.exists in
    let bounded = c.loop-at.invariant.bounded in
    let ended = c.loop-at-test.false in
    ⊎_elim
    (λ (over : 100000 < length c.loop-at.draft.0 + 7). omega arith)
    (λ (fits : length c.loop-at.draft.0 + 7 ≤ 100000). let yes = c.has_room.ensures.1 fits in let no = c.if-not-has_room.true in absurd cc)
    (cases_lt 100000 (length c.loop-at.draft.0 + 7))

pub push_raise-requires-clause-written : goal.push_raise-requires-clause-written
push_raise-requires-clause-written c =
    let h = c.args.order.now in
    let raises = c.args.reasons.now in
    let needed = c.in_ok-needed.needed.items in
    let n = c.loop-at.at in
    let e = c.raise-raise.result in
    let ended : c.args.number ≡ n = omega arith in
    let at : slice_get raises n ≡ Some e = subst (λ (k : ℕ). slice_get raises k ≡ Some e) ended c.raise-raise.ensures in
    let marked : slice_get needed n ≡ Some true = subst (λ (k : ℕ). slice_get needed k ≡ Some true) ended c.in_ok-needed.ensures.chosen in
    let all = rests-both (IsBefore h raises n) (IsMarked h raises needed) (IsWritten h raises c.loop-at.written.items c.loop-at.draft.1)
    (premise-written h c.args.op raises needed n c.loop-at.draft c.loop-at.written.items c.loop-at.invariant) (last_of e) e.op e.cause
    (grounded-before h c.args.op raises c.requires.grounded n e at) (c.in_ok-needed.ensures.closed n e (omega arith) marked at) in
    subst (λ (ws : List ℕ). ArePremises (IsWritten h raises ws c.loop-at.draft.1) e) (sym c.deref-2.ensures.value) all

pub returns : goal.returns
returns c e at =
    let room = c.has_room.ensures.0 c.if-not-has_room.false in
    let same : c.raise-raise.result ≡ e = same_Some c.raise-raise.result e (sym c.raise-raise.ensures ∙ at) in
    ends-same c.args.order.now c.args.op 99998 c.raise-raise.result e c.push_raise.new.self _ same
    (ends-in c.args.order.now c.args.op 99998 5 99993 (last_of c.raise-raise.result, c.raise-raise.result.op) c.loop-at.draft c.push_raise.new.self _ (omega arith) (omega arith)
    c.in_ok-push_raise.ensures)

use Rattle.std.proofs.Common.{◌≡◌, [], ◌∷◌, Some, None, ap, ◌∙◌, arith}
use Rattle.json.specs.Json.{after_end_array, read_key}
use Rattle.json.specs.Reads.{token_of}
use Rattle.json.specs.Token.{Token}
use Rattle.json.proofs.Grammar.{left, value_is}
use Rattle.json_bounded.specs.Steps.Behind.{behind_value}
use Rattle.json_bounded.proofs.Tokens.{at_end, at_number, behind_list, behind_object, no_list, no_object}
use Rattle.json_bounded.proofs.Walking.{passing_item, passing_refused, passing_over, passing_no_member, passing_member, passing_no_key, passing_bad_member, passing_all_members}
use Rattle.json_bounded.proofs.walk.+walk.Goals as goal

pub walk-returns-in_default-clause-value : goal.walk-returns-in_default-clause-value
walk-returns-in_default-clause-value t c =
    let empty : c.args.reader.now ≡ [] = grind arith in
    let none : behind_value c.args.depth c.args.reader.now ≡ None = ap (behind_value c.args.depth) empty ∙ ap left (at_end c.args.depth) in
    grind (arith, none)

pub walk-returns-in-String-clause-value : goal.walk-returns-in-String-clause-value
walk-returns-in-String-clause-value t c =
    let first : c.args.reader.now ≡ token_of c.in-Some.token ∷ c.next.new.self = grind arith in
    rw (value_is c.args.depth c.args.reader.now, first) (grind arith)

pub walk-returns-in-EndObject-clause-value : goal.walk-returns-in-EndObject-clause-value
walk-returns-in-EndObject-clause-value t c =
    let first : c.args.reader.now ≡ token_of c.in-Some.token ∷ c.next.new.self = grind arith in
    rw (value_is c.args.depth c.args.reader.now, first) (grind arith)

pub walk-returns-in-Some-number_at-clause-value : goal.walk-returns-in-Some-number_at-clause-value
walk-returns-in-Some-number_at-clause-value t c =
    let first : c.args.reader.now ≡ token_of c.in-Some.token ∷ c.next.new.self = grind arith in
    let is : c.args.reader.now ≡ Token.number c.in-Number.text.now ∷ c.next.new.self = grind (arith, first) in
    ap (behind_value c.args.depth) is ∙ ap left (at_number c.args.depth c.next.new.self c.in-Number.text.now) ∙ rw (← c.in-Some-number_at.ensures)

pub walk-returns-in-None-clause-value : goal.walk-returns-in-None-clause-value
walk-returns-in-None-clause-value t c =
    let first : c.args.reader.now ≡ token_of c.in-Some.token ∷ c.next.new.self = grind arith in
    let is : c.args.reader.now ≡ Token.number c.in-Number.text.now ∷ c.next.new.self = grind (arith, first) in
    ap (behind_value c.args.depth) is ∙ ap left (at_number c.args.depth c.next.new.self c.in-Number.text.now) ∙ rw (← c.in-None.ensures)

pub walk-returns-then-depth-eq0-clause-value : goal.walk-returns-then-depth-eq0-clause-value
walk-returns-then-depth-eq0-clause-value t c =
    let first : c.args.reader.now ≡ token_of c.in-Some.token ∷ c.next.new.self = grind arith in
    let is : c.args.reader.now ≡ Token.begin_array ∷ c.next.new.self = grind (arith, first) in
    let none : c.args.depth ≡ 0 = omega arith in
    rw (none, is) (ap left (no_list c.next.new.self))

pub walk-returns-then-depth-eq0-2-clause-value : goal.walk-returns-then-depth-eq0-2-clause-value
walk-returns-then-depth-eq0-2-clause-value t c =
    let first : c.args.reader.now ≡ token_of c.in-Some.token ∷ c.next.new.self = grind arith in
    let is : c.args.reader.now ≡ Token.begin_object ∷ c.next.new.self = grind (arith, first) in
    let none : c.args.depth ≡ 0 = omega arith in
    rw (none, is) (ap left (no_object c.next.new.self))

pub walk-returns-else-depth-eq0-clause-value : goal.walk-returns-else-depth-eq0-clause-value
walk-returns-else-depth-eq0-clause-value t c =
    let first : c.args.reader.now ≡ token_of c.in-Some.token ∷ c.next.new.self = grind arith in
    let is : c.args.reader.now ≡ Token.begin_array ∷ c.next.new.self = grind (arith, first) in
    rw (is, behind_list c.args.depth c.next.new.self (omega arith)) c.walk_items.ensures.value

pub walk-returns-else-depth-eq0-2-clause-value : goal.walk-returns-else-depth-eq0-2-clause-value
walk-returns-else-depth-eq0-2-clause-value t c =
    let first : c.args.reader.now ≡ token_of c.in-Some.token ∷ c.next.new.self = grind arith in
    let is : c.args.reader.now ≡ Token.begin_object ∷ c.next.new.self = grind (arith, first) in
    rw (is, behind_object c.args.depth c.next.new.self (omega arith)) c.walk_members.ensures.value

pub walk_items-items-preserved : goal.walk_items-items-preserved
walk_items-items-preserved t c =
    let now = c.items.reader in
    let going : (after_end_array now ≡ None) × (c.take_end_array.new.self ≡ now) = grind arith in
    let done = c.in_ok-walk.ensures in
    passing_item c.args.depth c.args.reader.now now c.items.invariant c.walk.new.reader going.0 (rw (← going.1) done.value) (rw (← going.1) done.shorter)

pub walk_items-returns-in_err-walk-clause-value : goal.walk_items-returns-in_err-walk-clause-value
walk_items-returns-in_err-walk-clause-value t c =
    let now = c.items.reader in
    let going : (after_end_array now ≡ None) × (c.take_end_array.new.self ≡ now) = grind arith in
    let none = passing_refused c.args.depth c.args.reader.now now c.items.invariant going.0 (rw (← going.1) c.in_err-walk.ensures.value) in
    grind (arith, none)

pub walk_items-returns-clause-value : goal.walk_items-returns-clause-value
walk_items-returns-clause-value t c = passing_over c.args.depth c.args.reader.now c.items.reader c.items.invariant c.take_end_array.new.self (grind arith)

pub walk_members-members-init : goal.walk_members-members-init
walk_members-members-init t c = passing_no_member c.args.depth c.args.reader.now

pub walk_members-returns-in_err-next_key-clause-value : goal.walk_members-returns-in_err-next_key-clause-value
walk_members-returns-in_err-next_key-clause-value t c =
    let none = passing_no_key c.args.depth c.args.reader.now c.members.reader c.members.invariant c.in_err-next_key.ensures.value in
    grind (arith, none)

pub walk_members-members-preserved : goal.walk_members-members-preserved
walk_members-members-preserved t c =
    let k = c.in-Some.field-0.now in
    let s = c.next_key.new.self in
    let key : read_key c.members.reader ≡ Some (Some k, s) = grind arith in
    let done = c.in_ok-walk.ensures in
    passing_member c.args.depth c.args.reader.now c.members.reader c.members.invariant k s c.walk.new.reader key done.value done.shorter

pub walk_members-returns-in_err-walk-clause-value : goal.walk_members-returns-in_err-walk-clause-value
walk_members-returns-in_err-walk-clause-value t c =
    let k = c.in-Some.field-0.now in
    let s = c.next_key.new.self in
    let key : read_key c.members.reader ≡ Some (Some k, s) = grind arith in
    let none = passing_bad_member c.args.depth c.args.reader.now c.members.reader c.members.invariant k s key c.in_err-walk.ensures.value in
    grind (arith, none)

pub walk_members-returns-clause-value : goal.walk_members-returns-clause-value
walk_members-returns-clause-value t c =
    passing_all_members c.args.depth c.args.reader.now c.members.reader c.members.invariant c.next_key.new.self (grind arith)

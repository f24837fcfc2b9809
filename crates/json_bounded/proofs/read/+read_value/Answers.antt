use Rattle.std.proofs.Common.{◌≡◌, ◌≢◌, ◌-◌, [], ◌∷◌, length, map, Some, None, sym, ap, ◌∙◌, arith}
use Rattle.std.proofs.lemmas.Grind.{common_steps}
use Rattle.std.proofs.lemmas.List.{length-map, map_push}
use Rattle.std.proofs.lemmas.Result.{err_from_is_err_and}
use Rattle.json.specs.Json.{after_end_array, members, value}
use Rattle.json.specs.Reads.{token_of}
use Rattle.json.specs.Token.{Token}
use Rattle.json.proofs.Grammar.{left_some, value_is}
use Rattle.serde_json.specs.Data.{null, boolean, number, string, array, object, no_members}
use Rattle.serde_json.specs.Read.{of_members, converted}
use Rattle.serde_json.specs.View.{number_view, view}
use Rattle.serde_json.proofs.Views.{view-Array}
use Rattle.json_bounded.proofs.Keeping.{keeping_none, keeping_element, keeping_over, keeping_full, keeping_refused, keeping_full_refused}
use Rattle.json_bounded.proofs.LeafViews.{view-Null, view-Bool, view-Number, view-String, view-empty}
use Rattle.json_bounded.proofs.Stopping.{stops_too, list_refused, object_refused}
use Rattle.json_bounded.proofs.Tokens.{next, goes_on, at_end, at_null, at_boolean, at_string, at_number_read, at_number_refused, at_list_read, at_object_read, no_list, no_object}
use Rattle.json_bounded.proofs.read.+read_value.Goals as goal

pub read_value-returns-then-depth-eq0-clause-refused : goal.read_value-returns-then-depth-eq0-clause-refused
read_value-returns-then-depth-eq0-clause-refused g t c =
    let is : token_of c.args.token ≡ Token.begin_array = ap token_of c.in-BeginArray.is in
    let none : c.args.depth ≡ 0 = omega arith in
    rw (none, is) (no_list c.args.reader.now)

pub read_value-returns-then-depth-eq0-2-clause-refused : goal.read_value-returns-then-depth-eq0-2-clause-refused
read_value-returns-then-depth-eq0-2-clause-refused g t c =
    let is : token_of c.args.token ≡ Token.begin_object = ap token_of c.in-BeginObject.is in
    let none : c.args.depth ≡ 0 = omega arith in
    rw (none, is) (no_object c.args.reader.now)

pub read_value-returns-in_err-elements-in-BeginArray-clause-refused : goal.read_value-returns-in_err-elements-in-BeginArray-clause-refused
read_value-returns-in_err-elements-in-BeginArray-clause-refused g t c =
    let is : token_of c.args.token ≡ Token.begin_array = ap token_of c.in-BeginArray.is in
    let p = err_from_is_err_and c.from_residual-in_err-elements-in-BeginArray.result c.from_residual-in_err-elements-in-BeginArray.ensures.1 in
    rw (p.1, p.2, is) (list_refused c.args.depth c.args.reader.now (omega arith) c.in_err-elements-in-BeginArray.field-0.0 c.in_err-elements-in-BeginArray.ensures.refused)

pub read_value-returns-in_err-walk_members-in-BeginObject-clause-refused : goal.read_value-returns-in_err-walk_members-in-BeginObject-clause-refused
read_value-returns-in_err-walk_members-in-BeginObject-clause-refused g t c =
    let is : token_of c.args.token ≡ Token.begin_object = ap token_of c.in-BeginObject.is in
    let p = err_from_is_err_and c.from_residual-in_err-walk_members-in-BeginObject.result c.from_residual-in_err-walk_members-in-BeginObject.ensures.1 in
    rw (p.1, p.2, is) (object_refused c.args.depth c.args.reader.now (omega arith) c.in_err-walk_members-in-BeginObject.ensures.value)

pub read_value-returns-in_ok-from_str-in-String-clause-read : goal.read_value-returns-in_ok-from_str-in-String-clause-read
read_value-returns-in_ok-from_str-in-String-clause-read g t c =
    let text = c.in-String.text.now in
    let is : token_of c.args.token ≡ Token.string text = ap token_of c.in-String.is in
    (string text, rw is (at_string c.args.depth c.args.reader.now text), view-String c.in_ok-from_str-in-String.field-0 ∙ ap string (grind (arith, common_steps)))

pub read_value-returns-in-Some-clause-read : goal.read_value-returns-in-Some-clause-read
read_value-returns-in-Some-clause-read g t c =
    let is : token_of c.args.token ≡ Token.number c.in-Number.text.now = ap token_of c.in-Number.is in
    let n = number_view c.in-Some.number in
    (number n, rw is (at_number_read c.args.depth c.args.reader.now c.in-Number.text.now n (sym c.in-Some.ensures)), view-Number c.in-Some.number)

pub read_value-returns-in-None-clause-refused : goal.read_value-returns-in-None-clause-refused
read_value-returns-in-None-clause-refused g t c =
    let is : token_of c.args.token ≡ Token.number c.in-Number.text.now = ap token_of c.in-Number.is in
    rw is (at_number_refused c.args.depth c.args.reader.now c.in-Number.text.now (sym c.in-None.ensures))

pub read_value-returns-in-Bool-clause-read : goal.read_value-returns-in-Bool-clause-read
read_value-returns-in-Bool-clause-read g t c =
    let is : token_of c.args.token ≡ Token.boolean c.in-Bool.b = ap token_of c.in-Bool.is in
    (boolean c.in-Bool.b, rw is (at_boolean c.args.depth c.args.reader.now c.in-Bool.b), view-Bool c.in-Bool.b)

pub read_value-returns-in-Null-clause-read : goal.read_value-returns-in-Null-clause-read
read_value-returns-in-Null-clause-read g t c =
    let is : token_of c.args.token ≡ Token.null = ap token_of c.in-Null.is in
    (null, rw is (at_null c.args.depth c.args.reader.now), view-Null)

pub read_value-returns-in-EndObject-clause-refused : goal.read_value-returns-in-EndObject-clause-refused
read_value-returns-in-EndObject-clause-refused g t c =
    rw (value_is c.args.depth (token_of c.args.token ∷ c.args.reader.now)) (grind arith)

pub read_value-returns-in_ok-elements-in-BeginArray-clause-read : goal.read_value-returns-in_ok-elements-in-BeginArray-clause-read
read_value-returns-in_ok-elements-in-BeginArray-clause-read g t c =
    let is : token_of c.args.token ≡ Token.begin_array = ap token_of c.in-BeginArray.is in
    let found = c.in_ok-elements-in-BeginArray.ensures.read in
    let read : next c.args.depth (Token.begin_array ∷ c.args.reader.now) ≡ Some (array found.0, c.read_elements.new.reader) = at_list_read c.args.depth c.args.reader.now (omega arith) found.0 c.read_elements.new.reader found.1 in
    (array found.0, rw is read, view-Array c.in_ok-elements-in-BeginArray.elements ∙ ap array found.2)

pub read_value-returns-in_ok-walk_members-in-BeginObject-clause-read : goal.read_value-returns-in_ok-walk_members-in-BeginObject-clause-read
read_value-returns-in_ok-walk_members-in-BeginObject-clause-read g t c =
    let is : token_of c.args.token ≡ Token.begin_object = ap token_of c.in-BeginObject.is in
    let rest = c.args.reader.now in
    let found = left_some (converted (λ ms. of_members ms no_members) (members (value (c.args.depth - 1)) (length rest) rest)) c.walk_members.new.reader c.in_ok-walk_members-in-BeginObject.ensures.value in
    let read : next c.args.depth (Token.begin_object ∷ rest) ≡ Some (object found.0, c.walk_members.new.reader) = at_object_read c.args.depth rest (omega arith) found.0 c.walk_members.new.reader found.1 in
    (object found.0, rw is read, view-empty c.new.result c.new.ensures.empty)

pub read_elements-items-init : goal.read_elements-items-init
read_elements-items-init g t c =
    rw c.new-elements.ensures.items (keeping_none g.P.Place.limit g.P.Place.inside c.args.place c.args.depth c.args.reader.now)

pub read_elements-returns-in_default-clause-refused : goal.read_elements-returns-in_default-clause-refused
read_elements-returns-in_default-clause-refused g t c =
    let kept = map view c.items.elements.items in
    let now = c.items.reader in
    let empty : now ≡ [] = grind arith in
    let going : after_end_array now ≡ None = rw empty in
    let none : next c.args.depth now ≡ None = ap (next c.args.depth) empty ∙ at_end c.args.depth in
    keeping_refused g.P.Place.limit g.P.Place.inside c.args.place c.args.depth c.args.reader.now now kept c.items.invariant going none

pub read_elements-returns-in-EndArray-clause-read : goal.read_elements-returns-in-EndArray-clause-read
read_elements-returns-in-EndArray-clause-read g t c =
    let kept = map view c.items.elements.items in
    let now = c.items.reader in
    let first : now ≡ token_of c.in-Some.token ∷ c.next.new.self = grind arith in
    let is : now ≡ Token.end_array ∷ c.next.new.self = grind (arith, first) in
    keeping_over g.P.Place.limit g.P.Place.inside c.args.place c.args.depth c.args.reader.now now kept c.items.invariant c.next.new.self (rw is)

pub read_elements-returns-in_err-element : goal.read_elements-returns-in_err-element
read_elements-returns-in_err-element g t c =
    let kept = map view c.items.elements.items in
    let now = c.items.reader in
    let rest = c.next.new.self in
    let first : now ≡ token_of c.in-Some.token ∷ rest = grind arith in
    let going : after_end_array now ≡ None = rw first (goes_on c.in-Some.token rest c.in_default-token.not-EndArray) in
    let then = keeping_refused g.P.Place.limit g.P.Place.inside c.args.place c.args.depth c.args.reader.now now kept c.items.invariant going in
    let refused = stops_too _ _ then c.in_err-element.field-0.0 (rw first c.in_err-element.ensures.refused) in
    let p = err_from_is_err_and c.from_residual.result c.from_residual.ensures.1 in
    record { read = rw p.1 tt; shorter = rw p.1 tt; refused = rw (p.1, p.2) refused }

pub read_elements-items-preserved : goal.read_elements-items-preserved
read_elements-items-preserved g t c =
    let kept = map view c.items.elements.items in
    let now = c.items.reader in
    let rest = c.next.new.self in
    let first : now ≡ token_of c.in-Some.token ∷ rest = grind arith in
    let going : after_end_array now ≡ None = rw first (goes_on c.in-Some.token rest c.in_default-token.not-EndArray) in
    let many : length kept ≡ length c.items.elements.items = length-map c.items.elements.items view in
    let here : c.inside.result ≡ g.P.Place.inside c.args.place (length kept) = grind (arith, many) in
    let room : g.P.Place.limit c.args.place ≢ Some (length kept) = λ e. grind (arith, many) in
    let done = c.in_ok-element.ensures in
    rw (c.in_ok-push.ensures.items, map_push view c.items.elements.items c.in_ok-element.element) (keeping_element g.P.Place.limit g.P.Place.inside c.args.place c.args.depth c.args.reader.now now kept c.items.invariant c.read_value.new.reader (view c.in_ok-element.element) room going (rw (← here, first) done.read) (rw first (omega (arith, done.shorter))))

pub read_elements-returns-in_err-walk_items-clause-refused : goal.read_elements-returns-in_err-walk_items-clause-refused
read_elements-returns-in_err-walk_items-clause-refused g t c =
    let kept = map view c.items.elements.items in
    let now = c.items.reader in
    let none = keeping_full_refused g.P.Place.limit g.P.Place.inside c.args.place c.args.depth c.args.reader.now now kept c.items.invariant c.in_err-walk_items.ensures.value in
    let p = err_from_is_err_and c.from_residual-in_err-walk_items.result c.from_residual-in_err-walk_items.ensures.1 in
    rw (p.1, p.2) none

pub read_elements-returns-clause-read : goal.read_elements-returns-clause-read
read_elements-returns-clause-read g t c =
    let kept = map view c.items.elements.items in
    let now = c.items.reader in
    let many : length kept ≡ length c.items.elements.items = length-map c.items.elements.items view in
    let full : g.P.Place.limit c.args.place ≡ Some (length kept) = grind (arith, many) in
    keeping_full g.P.Place.limit g.P.Place.inside c.args.place c.args.depth c.args.reader.now now kept c.items.invariant c.walk_items.new.reader full c.in_ok-walk_items.ensures.value

-- Passing the rest of a list or of an object, a turn at a time.
use Rattle.std.proofs.Common.{◌≡◌, ℕ, ◌-◌, ◌<◌, ◌≤◌, List, length, Some, None, refl, ap, ◌∙◌, arith}
use Rattle.json.specs.Json.{after_end_array, read_key, items, members, value}
use Rattle.json.specs.Token.{Token}
use Rattle.json.proofs.Grammar.{left, left-parse_map, left_none, left_some, read_key-shorter}
use Rattle.serde_json.specs.Data.{item, Members, no_members, put}
use Rattle.serde_json.specs.Read.{of_json, of_items, of_members, converted}
use Rattle.json_bounded.specs.Steps.Behind.{behind_value, behind_items, behind_members}
use Rattle.json_bounded.proofs.Turns.{item_read, item_refused, items_over, member_read, member_refused, key_refused, members_over}

module _ (depth : ℕ) where
  -- what stands behind a list stands behind the rest of it
  pub record IsPassing (old now : List Token) : Type 0 where
    pub turns : ℕ
    pub enough : length now ≤ turns
    pub shorter : length now ≤ length old
    pub behind : behind_items depth old ≡ left (converted of_items (items (value depth) turns now))

  pub passing_none : (ts : List Token) → IsPassing ts ts
  passing_none ts = record { turns = length ts; enough = omega arith; shorter = omega arith; behind = refl }

  module _ (old now : List Token) (passing : IsPassing old now) where
    pub passing_item : (r : List Token) → after_end_array now ≡ None → behind_value depth now ≡ Some r → length r < length now → IsPassing old r
    passing_item r going e less =
        let n = passing.turns in
        let some : 0 < n = omega (arith, passing.enough) in
        let d = left_some (converted of_json (value depth now)) r e in
        record {
          turns = n - 1;
          enough = omega (arith, passing.enough);
          shorter = omega (arith, passing.shorter);
          behind = passing.behind ∙ ap left (item_read (value depth) n now r d.0 some going d.1) ∙ left-parse_map (item d.0) _;
        }

    pub passing_refused : after_end_array now ≡ None → behind_value depth now ≡ None → behind_items depth old ≡ None
    passing_refused going e = passing.behind ∙ ap left (item_refused (value depth) passing.turns now going (left_none _ e))

    pub passing_over : (r : List Token) → after_end_array now ≡ Some r → behind_items depth old ≡ Some r
    passing_over r e = passing.behind ∙ ap left (items_over (value depth) passing.turns now r passing.enough e)

  -- what stands behind an object stands behind the rest of it, whatever members came before
  pub record IsPassingMembers (old now : List Token) : Type 0 where
    pub turns : ℕ
    pub found : Members
    pub enough : length now ≤ turns
    pub shorter : length now ≤ length old
    pub behind : behind_members depth old ≡ left (converted (λ ms. of_members ms found) (members (value depth) turns now))

  pub passing_no_member : (ts : List Token) → IsPassingMembers ts ts
  passing_no_member ts = record { turns = length ts; found = no_members; enough = omega arith; shorter = omega arith; behind = refl }

  module _ (old now : List Token) (passing : IsPassingMembers old now) where
    pub passing_member : (k : List ℕ) (s r : List Token) → read_key now ≡ Some (Some k, s) → behind_value depth s ≡ Some r → length r < length s → IsPassingMembers old r
    passing_member k s r key e less =
        let n = passing.turns in
        let fewer = read_key-shorter now (Some k) s key in
        let some : 0 < n = omega (arith, passing.enough) in
        let d = left_some (converted of_json (value depth s)) r e in
        record {
          turns = n - 1;
          found = put k d.0 passing.found;
          enough = omega (arith, passing.enough);
          shorter = omega (arith, passing.shorter);
          behind = passing.behind ∙ ap left (member_read (value depth) passing.found n k now s r d.0 some key d.1);
        }

    pub passing_no_key : read_key now ≡ None → behind_members depth old ≡ None
    passing_no_key e = passing.behind ∙ ap left (key_refused (value depth) passing.found passing.turns now e)

    pub passing_bad_member : (k : List ℕ) (s : List Token) → read_key now ≡ Some (Some k, s) → behind_value depth s ≡ None → behind_members depth old ≡ None
    passing_bad_member k s key e =
        passing.behind ∙ ap left (member_refused (value depth) passing.found passing.turns k now s key (left_none _ e))

    pub passing_all_members : (r : List Token) → read_key now ≡ Some (None, r) → behind_members depth old ≡ Some r
    passing_all_members r e = passing.behind ∙ ap left (members_over (value depth) passing.found passing.turns now r passing.enough e)

-- The names of clients, keys and values, and the tables that number them.
use Rattle.std.specs.Prelude.{ℕ, Bool, true, false, List, [], ◌∷◌, ◌++◌, codes, nat_eq, Option, Some, None, if◌then◌else◌}
use Rattle.std.specs.Cmp.Lexicographic.{pointwise}
use Rattle.std.specs.Fmt.{decimal, signed_decimal}
use Rattle.std.specs.List.{list_any, position_or_len}
use Rattle.serde_json.specs.Data.{unsigned, negative, Data, boolean, number, string}

-- what tells the name apart: of a text a quote and its bytes, of a whole number its digits, of a truth value its word
abbrev pub Name : Type 0
Name = List ℕ

abbrev pub text_name : List ℕ → Name
text_name text = 34 ∷ text

-- the name that a JSON value is for a client or a key: a text, or a whole number below 2 ^ 64
abbrev pub name_of : Data → Option Name
name_of (string s) = Some (text_name s)
name_of (number (unsigned n)) = Some (decimal n)
name_of d = None

-- and for a value: such a name, a negative whole number, which is at least - 2 ^ 63, or a truth value
abbrev pub value_name : Data → Option Name
value_name (boolean true) = Some (codes "true")
value_name (boolean false) = Some (codes "false")
value_name (number (negative z)) = Some (signed_decimal z)
value_name d = name_of d

abbrev pub same_name : Name → Name → Bool
same_name a b = pointwise nat_eq a b

-- a table has each name once, in the order in which they were first met: the number of a name is its place, and the next one for a name
-- that was not met yet
abbrev pub number_in : List Name → Name → ℕ
number_in table name = position_or_len (same_name name) table

-- the table with a name that was met
abbrev pub with_name : List Name → Name → List Name
with_name table name = if list_any (same_name name) table then table else table ++ name ∷ []

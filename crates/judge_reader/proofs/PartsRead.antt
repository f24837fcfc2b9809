-- The parts of a history together.
use Rattle.std.proofs.Common.{◌≡◌, ℕ, Bool, true, false, List, [], ◌∷◌, Option, Some, None, Result, Ok, Err, refl, sym, ap}
use Rattle.std.specs.Prelude.{nat_eq, option_map}
use Rattle.std.specs.Cmp.Lexicographic.{pointwise, same_text}
use Rattle.serde_json.specs.Data.{Data}
use Rattle.serde_json.specs.Find.{as_str}
use Rattle.json_histories.specs.Json.{elements}
use Rattle.json_histories.specs.ObjectNames.{text_of}
use Rattle.json_histories.specs.Reading.{named_parts, parts_among}
use Rattle.json_histories.specs.declared.object_name.ObjectName.TheVariants.{Memory as MemoryName}
use Rattle.json_histories.specs.declared.read_error.ReadError.{ReadError}
use Rattle.judge_reader.specs.LongRefusals.{start_of}
use Rattle.judge_reader.specs.Steps.Reading.{AreParts, AreSessions, AreSessionsOf, Entry, IsSessionList, joined_of, name_or, name_read, start_read, table_or}

abbrev Found : Type 0
Found = Option (List ℕ × List Data × List Data)

abbrev Sessions : Type 0
Sessions = List (List Entry)

-- parts with this name, of which the sessions and the start were read, or refused
module _ (name : List ℕ) (sessions rest : List Data) where
  with_start : (ss : Sessions) → name ≡ text_of MemoryName → AreSessionsOf sessions ss → (o : Option (List (ℕ × ℕ))) → start_of rest ≡ o
      → AreParts (Some (name, sessions, rest)) (joined_of (Some (Ok (tt {0}))) (Some (Ok ss)) (Some (table_or o)))
  with_start ss is_name are (Some start) is = record {
    sessions = sessions;
    rest = rest;
    parts = ap (λ n. Some (n, sessions, rest)) is_name;
    are_sessions = are;
    is_start = is;
  }
  with_start ss is_name are None is = rw (is_name, are.none_refused, is) refl

  with_sessions : (r : Result Sessions ReadError) → name ≡ text_of MemoryName → AreSessions sessions r
      → AreParts (Some (name, sessions, rest)) (joined_of (Some (Ok (tt {0}))) (Some r) (Some (table_or (start_of rest))))
  with_sessions (Ok ss) is_name are = with_start ss is_name are (start_of rest) refl
  with_sessions (Err error) is_name bad = rw (is_name, bad) refl

with_name : (name : List ℕ) (sessions rest : List Data) (r : Result Sessions ReadError) (b : Bool) → pointwise nat_eq name (text_of MemoryName) ≡ b → AreSessions sessions r
    → AreParts (Some (name, sessions, rest)) (joined_of (Some (name_or name)) (Some r) (Some (table_or (start_of rest))))
with_name name sessions rest r true same are =
    let is_name : name ≡ text_of MemoryName = same_text name (text_of MemoryName) (sym same) in
    rw is_name (with_sessions (text_of MemoryName) sessions rest r refl are)
with_name name sessions rest r false same are = rw same refl

-- ---- a list that begins with these two, and what stands after them

misshapen : (name : Option (Result (Unit {0}) ReadError)) (sessions : Option (Result Sessions ReadError)) (found : Found) → found ≡ None
    → AreParts found (joined_of {T = List (ℕ × ℕ)} name sessions None)
misshapen None sessions found none = rw none refl
misshapen (Some name) None found none = rw none refl
misshapen (Some name) (Some sessions) found none = rw none refl

module _ (n ss : Data) where
  named : (rest : List Data) (name : Option (List ℕ)) (sessions : Option (Result Sessions ReadError)) → as_str n ≡ name → IsSessionList (elements ss) sessions
      → AreParts (named_parts n ss rest) (joined_of (option_map name_or name) sessions (Some (table_or (start_of rest))))
  named rest None sessions is_name are = rw is_name refl
  named rest (Some name) None is_name none = rw (is_name, none) refl
  named rest (Some name) (Some r) is_name are =
      rw (is_name, are.1) (with_name name are.0 rest r (pointwise nat_eq name (text_of MemoryName)) refl are.2)

  with_one : (t : Data) (sessions : Option (Result Sessions ReadError)) → IsSessionList (elements ss) sessions → (ds : Option (List Data)) → elements t ≡ ds
      → AreParts (parts_among (n ∷ ss ∷ t ∷ [])) (joined_of (name_read n) sessions (start_read (t ∷ [])))
  with_one t sessions are None is = rw is (misshapen (name_read n) sessions None refl)
  with_one t sessions are (Some ds) is = rw is (rw is at (named (t ∷ []) (as_str n) sessions refl are))

  pub all_parts : (rest : List Data) (sessions : Option (Result Sessions ReadError)) → IsSessionList (elements ss) sessions
      → AreParts (parts_among (n ∷ ss ∷ rest)) (joined_of (name_read n) sessions (start_read rest))
  all_parts [] sessions are = named [] (as_str n) sessions refl are
  all_parts (t ∷ []) sessions are = with_one t sessions are (elements t) refl
  all_parts (t ∷ d ∷ ds) sessions are = misshapen (name_read n) sessions None refl

-- How operations are spelled: a list of a word, the key where the object is keyed, the arguments, and the return or `"?"`.
use Rattle.std.specs.Prelude.{ℕ, ◌^◌, nat_lt, nat_le, List, [], ◌∷◌, ◌++◌, length, map, Bool, true, false, ◌&&◌, Option, Some, None, option_map, option_and_then, if◌then◌else◌}
use Rattle.serde_json.specs.Data.{Data, null, number, string, unsigned}
use Rattle.serde_json.specs.Find.{as_str}
use Rattle.model_objects.specs.declared.keyed.KeyedCall.{KeyedCall}
use Rattle.model_objects.specs.declared.table.TheConstants.{MAX_ENTRIES}
use Rattle.json_histories.specs.Json.{list, elements, whole_number, unknown, is_unknown}

-- a key is a whole number below 2 ^ 32
abbrev pub key_at : Data → Option ℕ
key_at d = option_and_then (λ n. if nat_lt n (2 ^ 32) then Some n else None) (whole_number d)

-- `"?"` alone
abbrev pub is_unknown_alone : List Data → Bool
is_unknown_alone [] = false
is_unknown_alone (d ∷ []) = is_unknown d
is_unknown_alone (d ∷ e ∷ ds) = false

-- a word and the rest
abbrev pub word_rest : List Data → Option (List ℕ × List Data)
word_rest [] = None
word_rest (w ∷ rest) = option_map (λ (word : List ℕ). (word, rest)) (as_str w)

-- a word, a key and the rest
abbrev pub word_key_rest : List Data → Option (List ℕ × ℕ × List Data)
word_key_rest [] = None
word_key_rest (w ∷ []) = None
word_key_rest (w ∷ k ∷ rest) = option_and_then (λ (word : List ℕ). option_map (λ (key : ℕ). (word, key, rest)) (key_at k)) (as_str w)

module _ {C R : Type 0} where
  -- the arguments, and the return or `"?"`
  abbrev pub rest_form : (C → List Data) → (R → List Data) → C → Option R → List Data
  rest_form arguments ret_form c None = arguments c ++ unknown ∷ []
  rest_form arguments ret_form c (Some r) = arguments c ++ ret_form r

  abbrev pub plain_form : (C → List ℕ) → (C → List Data) → (R → List Data) → C → Option R → Data
  plain_form word arguments ret_form c r = list (string (word c) ∷ rest_form arguments ret_form c r)

  abbrev pub keyed_form : (C → List ℕ) → (C → List Data) → (R → List Data) → KeyedCall C → Option R → Data
  keyed_form word arguments ret_form c r = list (string (word c.call) ∷ number (unsigned c.key) ∷ rest_form arguments ret_form c.call r)

  -- the return behind a call's arguments
  abbrev pub return_at : (C → List Data → Option R) → C → List Data → Option (C × Option R)
  return_at ret_at c ds = if is_unknown_alone ds then Some (c, None) else option_map (λ (r : R). (c, Some r)) (ret_at c ds)

  -- the call and the return that a word and the rest spell
  abbrev pub spelled_at : (List ℕ → List Data → Option (C × List Data)) → (C → List Data → Option R) → List ℕ → List Data → Option (C × Option R)
  spelled_at call_at ret_at word ds = option_and_then (λ (p : C × List Data). return_at ret_at p.0 p.1) (call_at word ds)

  abbrev pub plain_at : (List ℕ → List Data → Option (C × List Data)) → (C → List Data → Option R) → Data → Option (C × Option R)
  plain_at call_at ret_at d =
      option_and_then (λ (p : List ℕ × List Data). spelled_at call_at ret_at p.0 p.1) (option_and_then word_rest (elements d))

  abbrev pub keyed_parts_at : (List ℕ → List Data → Option (C × List Data)) → (C → List Data → Option R) → List ℕ × ℕ × List Data → Option (KeyedCall C × Option R)
  keyed_parts_at call_at ret_at p = option_map (λ (e : C × Option R). (record { key = p.1; call = e.0 }, e.1)) (spelled_at call_at ret_at p.0 p.2)

  abbrev pub keyed_at : (List ℕ → List Data → Option (C × List Data)) → (C → List Data → Option R) → Data → Option (KeyedCall C × Option R)
  keyed_at call_at ret_at d = option_and_then (keyed_parts_at call_at ret_at) (option_and_then word_key_rest (elements d))

-- a whole number first, and what stands behind it
abbrev pub first_number : List Data → Option (ℕ × List Data)
first_number [] = None
first_number (d ∷ ds) = option_map (λ (n : ℕ). (n, ds)) (whole_number d)

-- a call that takes a number, and what stands behind
abbrev pub call_with : {C : Type 0} → (ℕ → C) → List Data → Option (C × List Data)
call_with call ds = option_map (λ (p : ℕ × List Data). (call p.0, p.1)) (first_number ds)

module _ {S : Type 0} where
  -- without keys the start is the plain one, of which nothing is written
  abbrev pub plain_start_form : S → List Data
  plain_start_form start = []

  abbrev pub plain_start_at : S → List Data → Option S
  plain_start_at plain [] = Some plain
  plain_start_at plain (d ∷ ds) = None

-- an object that has no start but the plain one: its table of initial values has no entry
abbrev pub no_start_form : Unit {0} → Data
no_start_form start = null

abbrev pub no_start_at : Data → Option (Unit {0})
no_start_at d = None

-- the elements of a list of 1 to 4,096
abbrev pub table_elements : Data → Option (List Data)
table_elements d = option_and_then (λ (ds : List Data). if nat_lt 0 (length ds) && nat_le (length ds) MAX_ENTRIES then Some ds else None) (elements d)

-- a key that is above the one before it, where there is one
abbrev pub is_above : Option ℕ → ℕ → Bool
is_above None key = true
is_above (Some before) key = nat_lt before key

module _ {S : Type 0} where
  -- a table of initial values: a list of a key and a start for each entry
  abbrev pub entry_form : (S → Data) → ℕ × S → Data
  entry_form start_form e = list (number (unsigned e.0) ∷ start_form e.1 ∷ [])

  -- nothing where there are no initial values, else the table
  abbrev pub table_form : (S → Data) → List (ℕ × S) → List Data
  table_form start_form [] = []
  table_form start_form (e ∷ es) = list (map (entry_form start_form) (e ∷ es)) ∷ []

  abbrev pub entry_parts_at : (Data → Option S) → List Data → Option (ℕ × S)
  entry_parts_at start_at [] = None
  entry_parts_at start_at (k ∷ []) = None
  entry_parts_at start_at (k ∷ s ∷ []) = option_and_then (λ (key : ℕ). option_map (λ (start : S). (key, start)) (start_at s)) (key_at k)
  entry_parts_at start_at (k ∷ s ∷ d ∷ ds) = None

  abbrev pub entry_at : (Data → Option S) → Data → Option (ℕ × S)
  entry_at start_at d = option_and_then (entry_parts_at start_at) (elements d)

  -- entries whose keys rise, from above a key
  abbrev pub entries_at : (Data → Option S) → Option ℕ → List Data → Option (List (ℕ × S))
  entries_at start_at before [] = Some []
  entries_at start_at before (d ∷ ds) =
      option_and_then (λ (e : ℕ × S). if is_above before e.0 then option_map (λ (es : List (ℕ × S)). e ∷ es) (entries_at start_at (Some e.0) ds) else None) (entry_at start_at d)

  abbrev pub table_at : (Data → Option S) → List Data → Option (List (ℕ × S))
  table_at start_at [] = Some []
  table_at start_at (d ∷ []) = option_and_then (entries_at start_at None) (table_elements d)
  table_at start_at (d ∷ e ∷ ds) = None

-- Tables of names, and the sets of texts that keep them.
use Rattle.std.proofs.Common.{◌≡◌, ℕ, zero, suc, ◌+◌, ◌<◌, Bool, true, false, cond, ◌||◌, List, [], ◌∷◌, ◌++◌, length, map, None, Some, Global, refl, sym, ap, ◌∙◌, arith, if◌then◌else◌, get_or}
use Rattle.std.specs.Prelude.{String, not, string_bytes, nat_lt}
use Rattle.std.specs.List.{list_any, position, position_or_len}
use Rattle.std.proofs.lemmas.List.{append-nil}
use Rattle.std.proofs.lemmas.List.Recursion.{is_position_or_len}
use Rattle.log_reader.specs.Names.{Name, number_in, same_name, with_name}

-- ---- the first place of a list that passes

module _ {X Y : Type 0} (f : X → Y) (p : Y → Bool) where
  one_more : (b : Bool) (n : ℕ) → cond (not b) (1 + n) 0 ≡ cond b 0 (1 + n)
  one_more true n = refl
  one_more false n = refl

  pub number-map : (xs : List X) → position_or_len p (map f xs) ≡ position_or_len (λ x. p (f x)) xs
  number-map = is_position_or_len (λ xs. position_or_len p (map f xs)) (λ x. p (f x)) refl (λ x xs. one_more (p (f x)) (position_or_len p (map f xs)))

  pub any-map : (xs : List X) → list_any p (map f xs) ≡ list_any (λ x. p (f x)) xs
  any-map [] = refl
  any-map (x ∷ xs) = ap (λ b. p (f x) || b) (any-map xs)

  pub map-push : (xs : List X) (x : X) → map f (xs ++ x ∷ []) ≡ map f xs ++ f x ∷ []
  map-push [] x = refl
  map-push (y ∷ xs) x = ap (λ l. f y ∷ l) (map-push xs x)

module _ {X : Type 0} (p : X → Bool) where
  placed_by : (xs : List X) (n i : ℕ) (b : Bool) → nat_lt n (length xs) ≡ b → cond b (Some n) None ≡ Some i → n ≡ i
  placed_by xs n i true low is = cc
  placed_by xs n i false low is = absurd cc

  pub placed : (xs : List X) (i : ℕ) → position p xs ≡ Some i → position_or_len p xs ≡ i
  placed xs i is = placed_by xs (position_or_len p xs) i (nat_lt (position_or_len p xs) (length xs)) refl is

  or_true : (b c : Bool) → c ≡ true → (b || c) ≡ true
  or_true true c is = refl
  or_true false c is = is

  pub any_at : (xs : List X) (i : ℕ) (d : X) → i < length xs → p (get_or xs i d) ≡ true → list_any p xs ≡ true
  any_at [] i d low passes = absurd (omega arith)
  any_at (x ∷ xs) zero d low passes = rw passes refl
  any_at (x ∷ xs) (suc i) d low passes = or_true (p x) (list_any p xs) (any_at xs i d (omega arith) passes)

-- ---- tables

-- a name that is met leaves those before it
grows_by : (b : Bool) (table : List Name) (name : Name) → (more : List Name) × ((if b then table else table ++ name ∷ []) ≡ table ++ more)
grows_by true table name = ([], sym (append-nil table))
grows_by false table name = (name ∷ [], refl)

pub with_name-grows : (table : List Name) (name : Name) → (more : List Name) × (with_name table name ≡ table ++ more)
with_name-grows table name = grows_by (list_any (same_name name) table) table name

module _ (keys : List (String Global)) (name : Name) where
  abbrev bytes : List Name
  bytes = map (string_bytes {Z = Global}) keys

  abbrev is_it : String Global → Bool
  is_it k = same_name name (string_bytes k)

  pub number_found : (i : ℕ) → position is_it keys ≡ Some i → i ≡ number_in bytes name
  number_found i is = sym (number-map string_bytes (same_name name) keys ∙ placed is_it keys i is)

  pub number_inserted : (i : ℕ) → i ≡ position_or_len is_it keys → i ≡ number_in bytes name
  number_inserted i is = is ∙ sym (number-map string_bytes (same_name name) keys)

  stays_by : (b : Bool) → b ≡ true → bytes ≡ (if b then bytes else bytes ++ name ∷ [])
  stays_by true is = refl
  stays_by false is = absurd cc

  pub table_stays : list_any is_it keys ≡ true → bytes ≡ with_name bytes name
  table_stays there = stays_by (list_any (same_name name) bytes) (any-map string_bytes (same_name name) keys ∙ there)

-- a text that was put into a set is in the table
module _ (keys : List (String Global)) (k : String Global) where
  pushed_by : (b c : Bool) → b ≡ c → map (string_bytes {Z = Global}) (if b then keys else keys ++ k ∷ []) ≡ (if c then bytes keys (string_bytes k) else bytes keys (string_bytes k) ++ string_bytes k ∷ [])
  pushed_by true true same = refl
  pushed_by true false same = absurd cc
  pushed_by false true same = absurd cc
  pushed_by false false same = map-push string_bytes (same_name (string_bytes k)) keys k

  pub table_inserted : (new : List (String Global)) (name : Name) → new ≡ (if list_any (is_it keys (string_bytes k)) keys then keys else keys ++ k ∷ []) → string_bytes k ≡ name
      → map (string_bytes {Z = Global}) new ≡ with_name (map (string_bytes {Z = Global}) keys) name
  table_inserted new name is same =
      let table : List Name = map (string_bytes {Z = Global}) keys in
      ap (map (string_bytes {Z = Global})) is
      ∙ pushed_by (list_any (is_it keys (string_bytes k)) keys) (list_any (same_name (string_bytes k)) table) (sym (any-map string_bytes (same_name (string_bytes k)) keys))
      ∙ ap (with_name table) same

-- What a keyed object answers: at each key, what one object answers after the calls with that key.
use Rattle.std.specs.Prelude.{◌≡◌, ℕ, ◌==◌, ◌&&◌, Bool, List, [], map, filter, MatchOption}
use Rattle.model_objects.specs.declared.keyed.KeyedCall.{KeyedCall}
use Rattle.model_objects.specs.Table.{value_at, start_at}

module _ {C : Type 0} where
  -- the calls with a key, in order
  abbrev pub calls_at : ℕ → List (KeyedCall C) → List C
  calls_at key calls = map (λ c. c.call) (filter (λ c. c.key == key) calls)

module _ {S C R : Type 0} where
  -- what the object at the key answers, from its start and after its calls
  abbrev pub answer : S → (S → List C → C → R) → List (ℕ × S) → List (KeyedCall C) → KeyedCall C → R
  answer plain inner start calls c = inner (start_at plain start c.key) (calls_at c.key calls) c.call

  -- an answer at a key depends only on the start at that key and on the calls with that key
  abbrev pub DependsOnItsKey : S → (List (ℕ × S) → List (KeyedCall C) → KeyedCall C → R) → Type 0
  DependsOnItsKey plain answers =
      (s t : List (ℕ × S)) (before after : List (KeyedCall C)) (c : KeyedCall C)
      → start_at plain s c.key ≡ start_at plain t c.key
      → calls_at c.key before ≡ calls_at c.key after
      → answers s before c ≡ answers t after c

-- a call depends on calls with its key alone
abbrev pub depends : {C : Type 0} → (C → C → Bool) → KeyedCall C → KeyedCall C → Bool
depends inner c other = (other.key == c.key) && inner c.call other.call

-- a call settles answers at its key alone
abbrev pub settles : {C : Type 0} → (C → C → Bool) → KeyedCall C → KeyedCall C → Bool
settles inner c other = (other.key == c.key) && inner c.call other.call

module _ {S C O : Type 0} where
  -- a table of starts and a list of states represent a start and calls: the table is the start, and the state at a key
  -- represents the start and the calls at that key, of which there are none where there is no state
  pub record Stands (plain : S) (stands : O → S → List C → Type 0)
      (state : List (ℕ × S) × List (ℕ × O)) (start : List (ℕ × S)) (calls : List (KeyedCall C)) : Type 0 where
    pub start_kept : state.0 ≡ start
    pub each_key : (key : ℕ) → MatchOption (value_at state.1 key) (calls_at key calls ≡ [])
        (λ o. stands o (start_at plain start key) (calls_at key calls))

-- What a set with adds and removes answers: whether the last add or remove of an element is an add.
use Rattle.std.specs.Prelude.{◌≡◌, ℕ, ◌==◌, List, filter, unwrap_or, option_map, Bool, true, false, Option, None}
use Rattle.std.specs.List.{last_or}
use Rattle.std.specs.Ordering.{nat_cmp}
use Rattle.std.specs.BTreeSet.{BTreeSet, contains}
use Rattle.model_objects.specs.declared.add_remove_set.SetCall.{SetCall}
use Rattle.model_objects.specs.declared.add_remove_set.SetCall.TheVariants.{Add, Remove, Has}
use Rattle.model_objects.specs.declared.add_remove_set.SetRet.{SetRet}
use Rattle.model_objects.specs.declared.add_remove_set.SetRet.TheVariants.{Done, Has as HasAnswer}

-- whether the call adds or removes the element
abbrev pub changes : ℕ → SetCall → Bool
changes element (Add e) = e == element
changes element (Remove e) = e == element
changes element (Has e) = false

-- the last add or remove of the element
abbrev pub last_change : ℕ → List SetCall → Option SetCall
last_change element calls = last_or None (filter (changes element) calls)

abbrev pub is_add : SetCall → Bool
is_add (Add e) = true
is_add (Remove e) = false
is_add (Has e) = false

-- whether there was an add or a remove of the element, and the last one is an add
abbrev pub has : ℕ → List SetCall → Bool
has element calls = unwrap_or (option_map is_add (last_change element calls)) false

abbrev pub answer : Unit {0} → List SetCall → SetCall → SetRet
answer start calls (Add e) = Done
answer start calls (Remove e) = Done
answer start calls (Has e) = HasAnswer (has e calls)

-- the set has the elements that it has after the calls
abbrev pub HoldsAfter : BTreeSet ℕ → List SetCall → Type 0
HoldsAfter set calls = (e : ℕ) → contains nat_cmp set e ≡ has e calls

abbrev pub is_has : SetCall → Bool
is_has (Add e) = false
is_has (Remove e) = false
is_has (Has e) = true

-- a has depends on the adds and removes of its element before it
abbrev pub depends : SetCall → SetCall → Bool
depends (Add e) other = false
depends (Remove e) other = false
depends (Has e) other = changes e other

-- an add or a remove of its element settles the answer to a has behind it
abbrev pub settles : SetCall → SetCall → Bool
settles call other = depends call other

-- an add or a remove answers Done, and a has whether the element is there
abbrev pub matches : SetCall → SetRet → Bool
matches (Add e) Done = true
matches (Add e) (HasAnswer b) = false
matches (Remove e) Done = true
matches (Remove e) (HasAnswer b) = false
matches (Has e) Done = false
matches (Has e) (HasAnswer b) = true

-- What a counter answers: the number of increments, at most the greatest u64.
use Rattle.std.specs.Prelude.{◌≡◌, ◌-◌, ◌^◌, min, ℕ, List, ◌++◌, Bool, true, false, count_by}
use Rattle.model_objects.specs.declared.counter.CounterCall.{CounterCall}
use Rattle.model_objects.specs.declared.counter.CounterCall.TheVariants.{Increment, Get}
use Rattle.model_objects.specs.declared.counter.CounterRet.{CounterRet}
use Rattle.model_objects.specs.declared.counter.CounterRet.TheVariants.{Done, Value}

-- the greatest u64
abbrev pub GREATEST : ℕ
GREATEST = 2 ^ 64 - 1

abbrev pub is_increment : CounterCall → Bool
is_increment Increment = true
is_increment Get = false

-- how many of the calls are increments
abbrev pub increments : List CounterCall → ℕ
increments calls = count_by is_increment calls

-- the count that a u64 can hold
abbrev pub count_of : List CounterCall → ℕ
count_of calls = min (increments calls) GREATEST

abbrev pub answer : Unit {0} → List CounterCall → CounterCall → CounterRet
answer start calls Increment = Done
answer start calls Get = Value (count_of calls)

abbrev pub is_get : CounterCall → Bool
is_get Increment = false
is_get Get = true

-- a get depends on the increments before it
abbrev pub depends : CounterCall → CounterCall → Bool
depends Increment other = false
depends Get other = is_increment other

-- each increment counts, so none settles an answer
abbrev pub settles : CounterCall → CounterCall → Bool
settles call other = false

-- an increment answers Done, and a get a value
abbrev pub matches : CounterCall → CounterRet → Bool
matches Increment Done = true
matches Increment (Value n) = false
matches Get Done = false
matches Get (Value n) = true

-- once a get answers the greatest u64, each later one does
abbrev pub StaysFull : (Unit {0} → List CounterCall → CounterCall → CounterRet) → Type 0
StaysFull answers = (calls more : List CounterCall) → answers tt calls Get ≡ Value GREATEST → answers tt (calls ++ more) Get ≡ Value GREATEST

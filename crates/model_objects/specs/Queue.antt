-- What a queue answers: a pop gives the item that was pushed first among those that are left.
use Rattle.std.specs.Prelude.{ℕ, List, [], ◌∷◌, ◌++◌, drop, slice_get, fold, Bool, true, false}
use Rattle.model_objects.specs.declared.queue.QueueCall.{QueueCall}
use Rattle.model_objects.specs.declared.queue.QueueCall.TheVariants.{Push, Pop}
use Rattle.model_objects.specs.declared.queue.QueueRet.{QueueRet}
use Rattle.model_objects.specs.declared.queue.QueueRet.TheVariants.{Done, Popped}

-- a push adds at the end, and a pop takes the first item away, if there is one
abbrev pub after_call : List ℕ → QueueCall → List ℕ
after_call items (Push v) = items ++ v ∷ []
after_call items Pop = drop 1 items

-- the items that the calls leave, where there are none before them
abbrev pub left : List QueueCall → List ℕ
left calls = fold after_call [] calls

abbrev pub answer : Unit {0} → List QueueCall → QueueCall → QueueRet
answer start calls (Push v) = Done
answer start calls Pop = Popped (slice_get (left calls) 0)

-- no call leaves each later answer as it is
abbrev pub is_query : QueueCall → Bool
is_query call = false

-- a pop depends on each call before it
abbrev pub depends : QueueCall → QueueCall → Bool
depends (Push v) other = false
depends Pop other = true

-- each item that is left counts, so no call settles an answer
abbrev pub settles : QueueCall → QueueCall → Bool
settles call other = false

-- a push answers Done, and a pop what was popped
abbrev pub matches : QueueCall → QueueRet → Bool
matches (Push v) Done = true
matches (Push v) (Popped item) = false
matches Pop Done = false
matches Pop (Popped item) = true

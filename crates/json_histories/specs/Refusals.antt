-- The refusals of a reader: their numbers, and what a reader owes.
use Rattle.std.specs.Prelude.{◌≡◌, ℕ, ⊤, Option, Some}
use Rattle.json_histories.specs.declared.read_error.ReadError.{ReadError}
use Rattle.json_histories.specs.declared.read_error.ReadError.TheVariants.{NotJson, BadShape, UnknownObject, BadOp, ReturnAfterUnknown, TooManySessions, TooManyOps, Memory, BadInitial}

abbrev pub number_of : ReadError → ℕ
number_of NotJson = 1
number_of BadShape = 2
number_of UnknownObject = 3
number_of (BadOp op) = 4
number_of (ReturnAfterUnknown op) = 5
number_of TooManySessions = 6
number_of TooManyOps = 7
number_of Memory = 8
number_of BadInitial = 29

-- an error is this first refusal, unless memory ran out; a value is JSON
abbrev pub IsFirst : Option ReadError → ReadError → Type 0
IsFirst first NotJson = ⊥
IsFirst first BadShape = first ≡ Some BadShape
IsFirst first UnknownObject = first ≡ Some UnknownObject
IsFirst first (BadOp op) = first ≡ Some (BadOp op)
IsFirst first (ReturnAfterUnknown op) = first ≡ Some (ReturnAfterUnknown op)
IsFirst first TooManySessions = first ≡ Some TooManySessions
IsFirst first TooManyOps = first ≡ Some TooManyOps
IsFirst first Memory = ⊤
IsFirst first BadInitial = first ≡ Some BadInitial

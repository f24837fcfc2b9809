-- What a register answers: a read gives the value that was written last.
use Rattle.std.specs.Prelude.{ℕ, List, [], ◌∷◌, Bool, true, false}
use Rattle.model_objects.specs.declared.register.RegisterCall.{RegisterCall}
use Rattle.model_objects.specs.declared.register.RegisterCall.TheVariants.{Write, Read}
use Rattle.model_objects.specs.declared.register.RegisterRet.{RegisterRet}
use Rattle.model_objects.specs.declared.register.RegisterRet.TheVariants.{Done, Value}

-- the value of the last write, or the start
abbrev pub last_written : ℕ → List RegisterCall → ℕ
last_written start [] = start
last_written start (Write v ∷ calls) = last_written v calls
last_written start (Read ∷ calls) = last_written start calls

abbrev pub answer : ℕ → List RegisterCall → RegisterCall → RegisterRet
answer start calls (Write v) = Done
answer start calls Read = Value (last_written start calls)

abbrev pub is_read : RegisterCall → Bool
is_read (Write v) = false
is_read Read = true

-- a read depends on the writes before it
abbrev pub depends : RegisterCall → RegisterCall → Bool
depends (Write v) other = false
depends Read (Write u) = true
depends Read Read = false

-- a write settles the answer to a read behind it
abbrev pub settles : RegisterCall → RegisterCall → Bool
settles call other = depends call other

-- a write answers Done, and a read a value
abbrev pub matches : RegisterCall → RegisterRet → Bool
matches (Write v) Done = true
matches (Write v) (Value n) = false
matches Read Done = false
matches Read (Value n) = true

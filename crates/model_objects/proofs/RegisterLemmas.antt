-- What a register holds after one more call.
use Rattle.std.specs.Prelude.{◌≡◌, ℕ, List, [], ◌∷◌, ◌++◌, refl}
use Rattle.model_objects.specs.Register.{last_written}
use Rattle.model_objects.specs.declared.register.RegisterCall.{RegisterCall}
use Rattle.model_objects.specs.declared.register.RegisterCall.TheVariants.{Write, Read}

pub last_written-push : (start : ℕ) (calls : List RegisterCall) (v : ℕ) → last_written start (calls ++ Write v ∷ []) ≡ v
last_written-push start [] v = refl
last_written-push start (Write u ∷ calls) v = last_written-push u calls v
last_written-push start (Read ∷ calls) v = last_written-push start calls v

pub last_written-read : (start : ℕ) (calls : List RegisterCall) → last_written start (calls ++ Read ∷ []) ≡ last_written start calls
last_written-read start [] = refl
last_written-read start (Write u ∷ calls) = last_written-read u calls
last_written-read start (Read ∷ calls) = last_written-read start calls

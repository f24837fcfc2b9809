-- What a run takes from its reader and gives to its writer, where these tell their bytes.
use Rattle.std.specs.Prelude.{◌≡◌, ℕ, ◌+◌, ◌<◌, List, ◌++◌, length, Option}
use Rattle.std.specs.Io.KnownBytes.{Consumes}

-- the reader gave some bytes, which stood at its front
abbrev pub Gives : Option (List ℕ) → Option (List ℕ) → Type 0
Gives old new = (bytes : List ℕ) × Consumes old new bytes

-- the reader gave some bytes, which now stand behind those that were there
abbrev pub MovesTo : Option (List ℕ) → Option (List ℕ) → List ℕ → List ℕ → Type 0
MovesTo old new held_before held = (bytes : List ℕ) × Consumes old new bytes × (held ≡ held_before ++ bytes)

-- the reader gave some bytes, which with those that were held are more than `most`
abbrev pub GivesPast : Option (List ℕ) → Option (List ℕ) → List ℕ → ℕ → Type 0
GivesPast old new held most = (bytes : List ℕ) × Consumes old new bytes × (most < length held + length bytes)

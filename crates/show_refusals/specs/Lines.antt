-- Lines of printable ASCII.
use Rattle.std.specs.Prelude.{◌≡◌, ◌++◌, ℕ, List, Bool, true, ◌&&◌, nat_le}
use Rattle.std.specs.List.{list_all}

-- a byte is a printable character of ASCII, or a space
abbrev pub is_plain : ℕ → Bool
is_plain b = nat_le 32 b && nat_le b 126

-- each byte is: so there is no line feed, and nothing that a terminal takes as an order
abbrev pub IsPlain : List ℕ → Type 0
IsPlain line = list_all is_plain line ≡ true

abbrev pub BeginsWith : List ℕ → List ℕ → Type 0
BeginsWith front line = (rest : List ℕ) × (line ≡ front ++ rest)

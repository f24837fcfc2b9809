-- Texts that disturb no terminal.
use Rattle.std.specs.Prelude.{◌≡◌, ◌<◌, ◌≤◌, ℕ, List, encode_utf8_all}
use Rattle.std.specs.List.{All}

-- no control character, and none that turns the direction of a text or ends a line: U+200E and U+200F, U+2028 to U+202E, U+2066 to U+2069
pub record IsPlain (c : ℕ) : Type 0 where
  pub no_control : 32 ≤ c
  pub no_later_control : 127 ≤ c → 159 < c
  pub no_mark : 8206 ≤ c → 8207 < c
  pub no_line_or_embedding : 8232 ≤ c → 8238 < c
  pub no_isolate : 8294 ≤ c → 8297 < c

-- the text of such characters
abbrev pub IsShown : List ℕ → Type 0
IsShown bytes = (cs : List ℕ) × (bytes ≡ encode_utf8_all cs) × All IsPlain cs

abbrev pub StaysShown : List ℕ → List ℕ → Type 0
StaysShown old new = IsShown old → IsShown new

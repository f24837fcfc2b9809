-- The JSON values whose numbers fit 64 bits, as all do that `serde_json` reads.
use Rattle.std.specs.Prelude.{⊤, ◌<◌, ◌^◌, suc, pos, negsuc}
use Rattle.serde_json.specs.Data.{Data, number, unsigned, negative}

abbrev pub FitsWord : Data → Type 0
FitsWord (number (unsigned n)) = n < 2 ^ 64
FitsWord (number (negative (pos n))) = ⊥
FitsWord (number (negative (negsuc m))) = suc m < 2 ^ 64
FitsWord d = ⊤

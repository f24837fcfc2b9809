-- Lists of four elements that say an event.
use Rattle.std.proofs.Common.{◌≡◌, ◌<◌, ◌≤◌, List, [], ◌∷◌, length, map, get_or, refl, arith}
use Rattle.serde_json.specs.Data.{Data}
use Rattle.log_reader.specs.Forms.{called_in, said_in}

pub said_with_note : {V : Type 0} (view : V → Data) (vs : List V) (word client more : V) → word ≡ get_or vs 0 word → client ≡ get_or vs 1 client → more ≡ get_or vs 2 more
    → 4 ≤ length vs → length vs < 5 → called_in (view word) (view client) (view more) ≡ said_in (map view vs)
said_with_note view [] word client more first second third some few = absurd (omega arith)
said_with_note view (a ∷ []) word client more first second third some few = absurd (omega arith)
said_with_note view (a ∷ b ∷ []) word client more first second third some few = absurd (omega arith)
said_with_note view (a ∷ b ∷ d ∷ []) word client more first second third some few = absurd (omega arith)
said_with_note view (a ∷ b ∷ d ∷ n ∷ []) word client more first second third some few = rw (first, second, third) refl
said_with_note view (a ∷ b ∷ d ∷ n ∷ e ∷ vs) word client more first second third some few = absurd (omega arith)

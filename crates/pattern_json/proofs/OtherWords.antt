-- Lists that begin with different words.
use Rattle.std.proofs.Common.{◌≡◌, ◌∙◌, ℕ, List, ◌∷◌, true, false, sym, ap}
use Rattle.std.specs.Prelude.{◌≢◌, nat_eq}
use Rattle.std.specs.Cmp.Lexicographic.{pointwise}
use Rattle.serde_json.specs.Data.{Data, string}

pub other_word : (v w : List ℕ) (ds es : List Data) → pointwise nat_eq v v ≡ true → pointwise nat_eq v w ≡ false → string v ∷ ds ≢ string w ∷ es
other_word v w ds es self other same =
    let text : v ≡ w = cc in let bad : true ≡ false = sym self ∙ ap (λ (t : List ℕ). pointwise nat_eq v t) text ∙ other in absurd cc

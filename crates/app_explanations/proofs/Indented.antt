-- Lines behind two spaces, one after the other.
use Rattle.std.proofs.Common.{◌≡◌, ◌+◌, ◌≤◌, ℕ, List, [], ◌∷◌, ◌++◌, length-append, arith, refl, ◌∙◌}
use Rattle.std.proofs.lemmas.List.{flat_map_more}
use Rattle.std.proofs.lemmas.List.Elements.{All-append, All-cons, All-nil}
use Rattle.std.specs.List.{flat_map}
use Rattle.std.specs.Str.Iter.{LacksByte}
use Rattle.app_explanations.specs.CoresInWords.{indented}
use Rattle.app_explanations.specs.Steps.ShortTexts.{IsIndentedUpTo}

last_behind : (lines : List (List ℕ)) (line : List ℕ) → flat_map indented lines ++ indented line ≡ flat_map indented (lines ++ (line ∷ []))
last_behind lines line = flat_map_more indented [] lines line

same_behind : (text line : List ℕ) (lines : List (List ℕ)) → text ≡ flat_map indented lines → text ++ indented line ≡ flat_map indented lines ++ indented line
same_behind text line lines e = rw e refl

-- one line more
pub one_line_more : (text line new : List ℕ) (n : ℕ) → new ≡ text ++ indented line → IsIndentedUpTo n text → LacksByte 0x0A line
    → IsIndentedUpTo (n + 1) new
one_line_more text line new n same is one =
    let few = is.1 in (
      is.0 ++ (line ∷ []),
      omega (arith, length-append is.0 (line ∷ [])),
      (
        All-append (LacksByte 0x0A) is.0 (line ∷ []) is.2.0 (All-cons (LacksByte 0x0A) line [] one (All-nil (LacksByte 0x0A))),
        same ∙ same_behind text line is.0 is.2.1 ∙ last_behind is.0 line,
      ),
    )

-- lines left out
pub up_to_more : (text : List ℕ) (n m : ℕ) → n ≤ m → IsIndentedUpTo n text → IsIndentedUpTo m text
up_to_more text n m more is = (is.0, omega (arith, is.1), is.2)

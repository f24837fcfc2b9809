-- The elements of a list that were taken towards a claim.
use Rattle.std.specs.Prelude.{◌≡◌, ◌≢◌, List, [], ◌∷◌}
use Rattle.serde_json.specs.Data.{Data}
use Rattle.pattern_json.specs.PatternForm.{form_of as pattern_form}
use Rattle.cert_check.specs.CriterionNames.{name_of}
use Rattle.json_histories.specs.Json.{list}
use Rattle.json_histories.specs.Reads.{IsRead}
use Rattle.pattern_json.specs.declared.claim_parts.ClaimParts.{ClaimParts}
use Rattle.pattern_json.specs.declared.claim_parts.ClaimParts.TheVariants.{Nothing, History, Named, Whole}
use Rattle.pattern_json.specs.declared.violation.Violation.{Violation}
use Rattle.pattern_json.specs.Words.{word_form}

-- the elements are not three
abbrev pub IsNotThree : List Data → Type 0
IsNotThree ds = (h c p : Data) → ds ≢ h ∷ c ∷ p ∷ []

module _ {H : Type 0} (made_of : H → Data → Type 0) where
  abbrev pub IsClaimTaken : ClaimParts H → List Data → Type 0
  IsClaimTaken Nothing ds = ds ≡ []
  IsClaimTaken (History history) ds = (h : Data) × (ds ≡ h ∷ []) × made_of history h
  IsClaimTaken (Named history criterion) ds = (h : Data) × (c : Data) × (ds ≡ h ∷ c ∷ []) × made_of history h × IsRead (word_form name_of) c criterion
  IsClaimTaken (Whole history criterion pattern) ds =
      (h : Data) × (c : Data) × (p : Data) × (ds ≡ h ∷ c ∷ p ∷ []) × made_of history h × IsRead (word_form name_of) c criterion × IsRead pattern_form p pattern

  -- the value is a list of three, of which this was made
  abbrev pub IsThree : Data → H → Violation → Type 0
  IsThree d history violation =
      (h : Data) × (c : Data) × (p : Data) × (d ≡ list (h ∷ c ∷ p ∷ [])) × made_of history h × IsRead (word_form name_of) c violation.criterion × IsRead pattern_form p violation.pattern

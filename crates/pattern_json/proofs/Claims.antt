-- Why a text is refused as a claim.
use Rattle.std.proofs.Common.{◌≡◌, ℕ, List, [], ◌∷◌, Some, refl}
use Rattle.std.specs.Prelude.{◌≢◌}
use Rattle.serde_json.specs.Data.{Data, null, boolean, number, string, array, object, no_items, item}
use Rattle.json_bounded.specs.Text.{IsJson}
use Rattle.json_histories.specs.declared.read_error.ReadError.TheVariants as errors
use Rattle.json_histories.specs.Json.{elements, list}
use Rattle.pattern_json.specs.ClaimForm.{claim_refusal, IsClaimRefused}

no_claim : (d : Data) → ((h c p : Data) → d ≢ list (h ∷ c ∷ p ∷ [])) → claim_refusal (elements d) ≡ Some errors.BadShape
no_claim null none = refl
no_claim (boolean b) none = refl
no_claim (number n) none = refl
no_claim (string s) none = refl
no_claim (array no_items) none = refl
no_claim (array (item h no_items)) none = refl
no_claim (array (item h (item c no_items))) none = refl
no_claim (array (item h (item c (item p no_items)))) none = absurd (none h c p refl)
no_claim (array (item h (item c (item p (item d ds))))) none = refl
no_claim (object ms) none = refl

pub refused_shape : (text : List ℕ) (d : Data) → IsJson text d → ((h c p : Data) → d ≢ list (h ∷ c ∷ p ∷ [])) → IsClaimRefused text errors.BadShape
refused_shape text d json none = (d, json, no_claim d none)

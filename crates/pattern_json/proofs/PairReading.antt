-- The elements of a pair, one after the other.
use Rattle.std.proofs.Common.{◌≡◌, ℕ, List, [], ◌∷◌, ◌++◌, true, Some, Result, Ok, Err, ap, subst, ◌∙◌}
use Rattle.std.specs.Prelude.{IfOk}
use Rattle.serde_json.specs.Data.{Data}
use Rattle.json_histories.specs.declared.any_history.AnyHistory.{AnyHistory}
use Rattle.json_histories.specs.declared.read_error.ReadError.{ReadError}
use Rattle.json_histories.specs.AnyForm.{form_of, IsJson}
use Rattle.json_histories.specs.Json.{elements, list}
use Rattle.json_histories.specs.Laws.Json.{list_from_elements}
use Rattle.json_tokens.specs.Histories.{IsHistoryIn}
use Rattle.pattern_json.specs.declared.found.FoundCertificate.{FoundCertificate}
use Rattle.pattern_json.specs.declared.certified_history.PairParts.{PairParts}
use Rattle.pattern_json.specs.declared.certified_history.PairParts.TheVariants.{Begun, History, Both}
use Rattle.pattern_json.specs.Found.{IsFoundIn}
use Rattle.pattern_json.specs.Pairs.{pair_form}
use Rattle.pattern_json.specs.Steps.PairParts.{AreNoPair, ArePair, ArePairParts, joined_of, pair_by}
use Rattle.pattern_json.proofs.CertificateForms.{IsTakenOf, list_taken}

pub joined_pair : (x y : Data) (history : Result AnyHistory ReadError) (found : FoundCertificate) → IsHistoryIn x history → IsFoundIn y found → ArePair x y (joined_of history found)
joined_pair x y (Ok h) found is there = (is, there)
joined_pair x y (Err e) found first there = first

pub pair_more : (ds : List Data) (y : Data) (history : Result AnyHistory ReadError) (found : FoundCertificate) → ArePairParts (History history) ds → IsFoundIn y found
    → ArePairParts (Both (joined_of history found)) (ds ++ y ∷ [])
pair_more ds y history found so_far there =
    (so_far.0, y, ap (λ (es : List Data). es ++ y ∷ []) so_far.1, joined_pair so_far.0 y history found so_far.2 there)

-- ---- the whole list

abbrev IsPairIn : List ℕ → AnyHistory × FoundCertificate → Type 0
IsPairIn text pair = (d : Data) × IsJson text (pair_form (form_of pair.0) d) × IsFoundIn d pair.1

two : (text : List ℕ) (d : Data) (ds : List Data) (p : PairParts) → IsJson text d → elements d ≡ Some ds → ArePairParts p ds → IfOk (pair_by p) (IsPairIn text)
two text d ds Begun json has are = tt
two text d ds (History read) json has are = tt
two text d ds (Both (Ok pair)) json has are =
    let is : d ≡ pair_form (form_of pair.0) are.1 =
    list_from_elements d ds has ∙ ap list are.2 ∙ ap (λ (x : Data). pair_form x are.1) are.3.0.0 in
    (are.1, subst (IsJson text) is json, are.3.1)
two text d ds (Both (Err e)) json has are = tt

pub pair_there : (text : List ℕ) (d : Data) (p : PairParts) → IsJson text d → IsTakenOf (ArePairParts p) AreNoPair true (elements d) → IfOk (pair_by p) (IsPairIn text)
pair_there text d p json taken =
    let are = list_taken (ArePairParts p) AreNoPair d taken in two text d are.0 p json are.1 are.2

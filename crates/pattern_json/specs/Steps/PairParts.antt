-- What is read of the elements of a pair.
use Rattle.std.specs.Prelude.{◌≡◌, List, [], ◌∷◌, ◌++◌, Option, Some, Result, Ok, Err, MatchOption, MatchResult}
use Rattle.serde_json.specs.Data.{Data}
use Rattle.json_histories.specs.declared.any_history.AnyHistory.{AnyHistory}
use Rattle.json_histories.specs.declared.read_error.ReadError.{ReadError}
use Rattle.json_histories.specs.declared.read_error.ReadError.TheVariants.{BadShape}
use Rattle.json_histories.specs.AnyForm.{first_refusal, form_of, IsAnyHistory}
use Rattle.json_histories.specs.Refusals.{IsFirst}
use Rattle.json_tokens.specs.Histories.{IsHistoryIn}
use Rattle.pattern_json.specs.declared.found.FoundCertificate.{FoundCertificate}
use Rattle.pattern_json.specs.declared.certified_history.PairParts.{PairParts}
use Rattle.pattern_json.specs.declared.certified_history.PairParts.TheVariants.{Begun, History, Both}
use Rattle.pattern_json.specs.Found.{IsFoundIn}
use Rattle.pattern_json.specs.Pairs.{first_of_pair}

-- the history and what was found after it, or the first refusal of the history
abbrev pub ArePair : Data → Data → Result (AnyHistory × FoundCertificate) ReadError → Type 0
ArePair x y read = MatchResult read (λ pair. ((x ≡ form_of pair.0) × IsAnyHistory pair.0) × IsFoundIn y pair.1) (IsFirst (first_refusal x))

abbrev pub joined_of : Result AnyHistory ReadError → FoundCertificate → Result (AnyHistory × FoundCertificate) ReadError
joined_of (Ok history) found = Ok (history, found)
joined_of (Err error) found = Err error

-- these elements are read as these
abbrev pub ArePairParts : PairParts → List Data → Type 0
ArePairParts Begun ds = ds ≡ []
ArePairParts (History read) ds = (x : Data) × (ds ≡ x ∷ []) × IsHistoryIn x read
ArePairParts (Both read) ds = (x : Data) × (y : Data) × (ds ≡ x ∷ y ∷ []) × ArePair x y read

-- they are not two
abbrev pub AreNoPair : List Data → Type 0
AreNoPair ds = first_of_pair ds ≡ Some BadShape

-- one element more gives these, or no pair goes on so
abbrev pub IsNextPairPart : Option PairParts → List Data → Data → Type 0
IsNextPairPart next ds d = MatchOption next ((more : List Data) → AreNoPair (ds ++ d ∷ more)) (λ p. ArePairParts p (ds ++ d ∷ []))

-- the pair of the elements of a whole list
abbrev pub pair_by : PairParts → Result (AnyHistory × FoundCertificate) ReadError
pair_by Begun = Err BadShape
pair_by (History read) = Err BadShape
pair_by (Both pair) = pair

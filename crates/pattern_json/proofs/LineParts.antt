-- The parts of lines: which words they begin with, and what comes after each.
use Rattle.std.proofs.Common.{◌≡◌, ℕ, List, [], ◌∷◌, refl}
use Rattle.std.specs.Prelude.{◌≢◌, codes}
use Rattle.serde_json.specs.Data.{Data, string}
use Rattle.model_history.specs.declared.op_id.OpId.{OpId}
use Rattle.json_histories.specs.Json.{list}
use Rattle.json_histories.specs.Reads.{number_form}
use Rattle.pattern_check.specs.declared.derivation.Line.{Line}
use Rattle.pattern_check.specs.declared.derivation.Line.TheVariants.{Co, Tr, Rf}
use Rattle.pattern_json.specs.PatternForm.{line_form, op_form, path_form}
use Rattle.pattern_json.proofs.OtherWords.{other_word}
use Rattle.pattern_json.specs.Steps.Taken.{both, line_parts}

pub line_list : (l : Line) → list (line_parts l) ≡ line_form l
line_list (Co above below) = refl
line_list (Tr i j) = refl
line_list (Rf i r) = refl

module _ (es : List Data) where
  pub no_causal_line : ((x : List OpId × List OpId) → es ≢ both path_form path_form x) → (l : Line) → string (codes "co") ∷ es ≢ line_parts l
  no_causal_line none (Co above below) same = let rest : es ≡ path_form above ∷ path_form below ∷ [] = cc in none (above, below) rest
  no_causal_line none (Tr i j) same = absurd (other_word (codes "co") (codes "tr") es _ refl refl same)
  no_causal_line none (Rf i r) same = absurd (other_word (codes "co") (codes "rf") es _ refl refl same)

  pub no_joining_line : ((x : ℕ × ℕ) → es ≢ both number_form number_form x) → (l : Line) → string (codes "tr") ∷ es ≢ line_parts l
  no_joining_line none (Co above below) same = absurd (other_word (codes "tr") (codes "co") es _ refl refl same)
  no_joining_line none (Tr i j) same = let rest : es ≡ number_form i ∷ number_form j ∷ [] = cc in none (i, j) rest
  no_joining_line none (Rf i r) same = absurd (other_word (codes "tr") (codes "rf") es _ refl refl same)

  pub no_rival_line : ((x : ℕ × OpId) → es ≢ both number_form op_form x) → (l : Line) → string (codes "rf") ∷ es ≢ line_parts l
  no_rival_line none (Co above below) same = absurd (other_word (codes "rf") (codes "co") es _ refl refl same)
  no_rival_line none (Tr i j) same = absurd (other_word (codes "rf") (codes "tr") es _ refl refl same)
  no_rival_line none (Rf i r) same = let rest : es ≡ number_form i ∷ op_form r ∷ [] = cc in none (i, r) rest

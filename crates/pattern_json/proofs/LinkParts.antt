-- The parts of links: which words they begin with, and what comes after each.
use Rattle.std.proofs.Common.{◌≡◌, List, [], ◌∷◌, refl}
use Rattle.std.specs.Prelude.{◌≢◌, codes}
use Rattle.serde_json.specs.Data.{Data, string}
use Rattle.model_history.specs.declared.op_id.OpId.{OpId}
use Rattle.json_histories.specs.Json.{list}
use Rattle.pattern_check.specs.declared.link.Link.{Link}
use Rattle.pattern_check.specs.declared.link.Link.TheVariants.{Co, Cf}
use Rattle.pattern_json.specs.PatternForm.{link_form, op_form, path_form}
use Rattle.pattern_json.proofs.OtherWords.{other_word}
use Rattle.pattern_json.specs.Steps.Taken.{both, link_parts}

pub link_list : (l : Link) → list (link_parts l) ≡ link_form l
link_list (Co a b) = refl
link_list (Cf path b) = refl

module _ (es : List Data) where
  pub no_edge : ((x : OpId × OpId) → es ≢ both op_form op_form x) → (l : Link) → string (codes "co") ∷ es ≢ link_parts l
  no_edge none (Co a b) same = let rest : es ≡ op_form a ∷ op_form b ∷ [] = cc in none (a, b) rest
  no_edge none (Cf path b) same = absurd (other_word (codes "co") (codes "cf") es _ refl refl same)

  pub no_conflict : ((x : List OpId × OpId) → es ≢ both path_form op_form x) → (l : Link) → string (codes "cf") ∷ es ≢ link_parts l
  no_conflict none (Co a b) same = absurd (other_word (codes "cf") (codes "co") es _ refl refl same)
  no_conflict none (Cf path b) same = let rest : es ≡ path_form path ∷ op_form b ∷ [] = cc in none (path, b) rest

-- The parts of patterns: which names they begin with, and what comes after each.
use Rattle.std.proofs.Common.{◌≡◌, List, [], ◌∷◌, refl}
use Rattle.std.specs.Prelude.{◌≢◌}
use Rattle.serde_json.specs.Data.{Data, string}
use Rattle.model_history.specs.declared.op_id.OpId.{OpId}
use Rattle.json_histories.specs.Json.{list}
use Rattle.pattern_check.specs.declared.derivation.Line.{Line}
use Rattle.pattern_check.specs.declared.kind.Kind.{Kind}
use Rattle.pattern_check.specs.declared.kind.Kind.TheVariants as kinds
use Rattle.pattern_check.specs.declared.link.Link.{Link}
use Rattle.pattern_check.specs.declared.pattern.Pattern.{Pattern}
use Rattle.pattern_check.specs.declared.pattern.Pattern.TheVariants.{CyclicCO, ThinAirRead, WriteCOInitRead, WriteCORead, WriteHBInitRead, CyclicHB, CyclicCF}
use Rattle.pattern_check.specs.KindNames.{kind_name}
use Rattle.pattern_json.specs.PatternForm.{form_of, lines_form, links_form, op_form, path_form}
use Rattle.pattern_check.specs.Patterns.{kind_of}
use Rattle.pattern_json.proofs.OtherWords.{other_word}
use Rattle.pattern_json.specs.Steps.PatternTaken.{pattern_parts, shown_parts}
use Rattle.pattern_json.specs.Steps.Taken.{both, one}

pub pattern_list : (p : Pattern) → list (pattern_parts p) ≡ form_of p
pattern_list (CyclicCO path) = refl
pattern_list (ThinAirRead r) = refl
pattern_list (WriteCOInitRead path) = refl
pattern_list (WriteCORead above below) = refl
pattern_list (WriteHBInitRead o lines) = refl
pattern_list (CyclicHB o lines) = refl
pattern_list (CyclicCF links) = refl

module _ (es : List Data) where
  -- a list that begins with the name of this kind is that of a pattern of it alone
  abbrev IsNoPattern : Kind → Type 0
  IsNoPattern k = (p : Pattern) → string (kind_name k) ∷ es ≢ pattern_parts p

  pub no_causal_cycle : ((x : List OpId) → es ≢ one path_form x) → IsNoPattern kinds.CyclicCO
  no_causal_cycle none (CyclicCO path) same = let rest : es ≡ path_form path ∷ [] = cc in none path rest
  no_causal_cycle none p same = absurd (other_word (kind_name kinds.CyclicCO) (kind_name (kind_of p)) es (shown_parts p) refl refl same)

  pub no_thin_air_read : ((x : OpId) → es ≢ one op_form x) → IsNoPattern kinds.ThinAirRead
  no_thin_air_read none (ThinAirRead r) same = let rest : es ≡ op_form r ∷ [] = cc in none r rest
  no_thin_air_read none p same = absurd (other_word (kind_name kinds.ThinAirRead) (kind_name (kind_of p)) es (shown_parts p) refl refl same)

  pub no_initial_read : ((x : List OpId) → es ≢ one path_form x) → IsNoPattern kinds.WriteCOInitRead
  no_initial_read none (WriteCOInitRead path) same = let rest : es ≡ path_form path ∷ [] = cc in none path rest
  no_initial_read none p same = absurd (other_word (kind_name kinds.WriteCOInitRead) (kind_name (kind_of p)) es (shown_parts p) refl refl same)

  pub no_overwritten_read : ((x : List OpId × List OpId) → es ≢ both path_form path_form x) → IsNoPattern kinds.WriteCORead
  no_overwritten_read none (WriteCORead above below) same = let rest : es ≡ path_form above ∷ path_form below ∷ [] = cc in none (above, below) rest
  no_overwritten_read none p same = absurd (other_word (kind_name kinds.WriteCORead) (kind_name (kind_of p)) es (shown_parts p) refl refl same)

  pub no_derived_read : ((x : OpId × List Line) → es ≢ both op_form lines_form x) → IsNoPattern kinds.WriteHBInitRead
  no_derived_read none (WriteHBInitRead o lines) same = let rest : es ≡ op_form o ∷ lines_form lines ∷ [] = cc in none (o, lines) rest
  no_derived_read none p same = absurd (other_word (kind_name kinds.WriteHBInitRead) (kind_name (kind_of p)) es (shown_parts p) refl refl same)

  pub no_derived_cycle : ((x : OpId × List Line) → es ≢ both op_form lines_form x) → IsNoPattern kinds.CyclicHB
  no_derived_cycle none (CyclicHB o lines) same = let rest : es ≡ op_form o ∷ lines_form lines ∷ [] = cc in none (o, lines) rest
  no_derived_cycle none p same = absurd (other_word (kind_name kinds.CyclicHB) (kind_name (kind_of p)) es (shown_parts p) refl refl same)

  pub no_conflict_cycle : ((x : List Link) → es ≢ one links_form x) → IsNoPattern kinds.CyclicCF
  no_conflict_cycle none (CyclicCF links) same = let rest : es ≡ links_form links ∷ [] = cc in none links rest
  no_conflict_cycle none p same = absurd (other_word (kind_name kinds.CyclicCF) (kind_name (kind_of p)) es (shown_parts p) refl refl same)

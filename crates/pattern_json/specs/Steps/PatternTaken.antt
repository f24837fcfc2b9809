-- The elements of the list that a pattern is.
use Rattle.std.specs.Prelude.{List, [], ◌∷◌}
use Rattle.serde_json.specs.Data.{Data}
use Rattle.pattern_check.specs.declared.pattern.Pattern.{Pattern}
use Rattle.pattern_check.specs.declared.pattern.Pattern.TheVariants as patterns
use Rattle.pattern_check.specs.KindNames.{kind_name}
use Rattle.pattern_json.specs.PatternForm.{lines_form, links_form, op_form, path_form}
use Rattle.pattern_check.specs.Patterns.{kind_of}
use Rattle.pattern_json.specs.Steps.Taken.{opened_parts}

-- what shows a pattern
abbrev pub shown_parts : Pattern → List Data
shown_parts (patterns.CyclicCO path) = path_form path ∷ []
shown_parts (patterns.ThinAirRead r) = op_form r ∷ []
shown_parts (patterns.WriteCOInitRead path) = path_form path ∷ []
shown_parts (patterns.WriteCORead above below) = path_form above ∷ path_form below ∷ []
shown_parts (patterns.WriteHBInitRead o lines) = op_form o ∷ lines_form lines ∷ []
shown_parts (patterns.CyclicHB o lines) = op_form o ∷ lines_form lines ∷ []
shown_parts (patterns.CyclicCF links) = links_form links ∷ []

abbrev pub pattern_parts : Pattern → List Data
pattern_parts = opened_parts kind_name kind_of shown_parts

-- The JSON form of a pattern: a list of the name of its kind and what shows it.
use Rattle.std.specs.Prelude.{List, [], ◌∷◌, codes}
use Rattle.serde_json.specs.Data.{Data}
use Rattle.model_history.specs.declared.op_id.OpId.{OpId}
use Rattle.json_histories.specs.Json.{list}
use Rattle.json_histories.specs.Reads.{number_form, list_form, worded}
use Rattle.pattern_check.specs.declared.derivation.Line.{Line}
use Rattle.pattern_check.specs.declared.derivation.Line.TheVariants as line
use Rattle.pattern_check.specs.declared.kind.Kind.TheVariants as kinds
use Rattle.pattern_check.specs.declared.link.Link.{Link}
use Rattle.pattern_check.specs.declared.link.Link.TheVariants.{Co, Cf}
use Rattle.pattern_check.specs.declared.pattern.Pattern.{Pattern}
use Rattle.pattern_check.specs.declared.pattern.Pattern.TheVariants.{CyclicCO, ThinAirRead, WriteCOInitRead, WriteCORead, WriteHBInitRead, CyclicHB, CyclicCF}
use Rattle.pattern_check.specs.KindNames.{kind_name}

-- an operation: its session and its index
abbrev pub op_form : OpId → Data
op_form o = list (number_form o.session ∷ number_form o.index ∷ [])

-- a path: its operations
abbrev pub path_form : List OpId → Data
path_form = list_form op_form

-- a link: an edge with its two operations, or a conflict with its path and the write that it goes to
abbrev pub link_form : Link → Data
link_form (Co a b) = worded (codes "co") (op_form a ∷ op_form b ∷ [])
link_form (Cf path b) = worded (codes "cf") (path_form path ∷ op_form b ∷ [])

abbrev pub links_form : List Link → Data
links_form = list_form link_form

-- a line of a derivation: two paths, the numbers of two lines, or the number of a line and a read
abbrev pub line_form : Line → Data
line_form (line.Co first second) = worded (codes "co") (path_form first ∷ path_form second ∷ [])
line_form (line.Tr i j) = worded (codes "tr") (number_form i ∷ number_form j ∷ [])
line_form (line.Rf i r) = worded (codes "rf") (number_form i ∷ op_form r ∷ [])

abbrev pub lines_form : List Line → Data
lines_form = list_form line_form

-- a pattern: the name of its kind and what shows it
abbrev pub form_of : Pattern → Data
form_of (CyclicCO path) = worded (kind_name kinds.CyclicCO) (path_form path ∷ [])
form_of (ThinAirRead r) = worded (kind_name kinds.ThinAirRead) (op_form r ∷ [])
form_of (WriteCOInitRead path) = worded (kind_name kinds.WriteCOInitRead) (path_form path ∷ [])
form_of (WriteCORead first second) = worded (kind_name kinds.WriteCORead) (path_form first ∷ path_form second ∷ [])
form_of (WriteHBInitRead o lines) = worded (kind_name kinds.WriteHBInitRead) (op_form o ∷ lines_form lines ∷ [])
form_of (CyclicHB o lines) = worded (kind_name kinds.CyclicHB) (op_form o ∷ lines_form lines ∷ [])
form_of (CyclicCF links) = worded (kind_name kinds.CyclicCF) (links_form links ∷ [])

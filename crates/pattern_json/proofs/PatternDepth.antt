-- The form of a pattern nests little, and has no float: what is written of it is read back.
use Rattle.std.proofs.Common.{◌≡◌, ◌≤◌, ℕ, false, List, [], ◌∷◌, map, refl, arith}
use Rattle.serde_json.specs.Data.{Data, depth, items_depth}
use Rattle.serde_json.specs.View.{items_of}
use Rattle.serde_json.specs.Written.{has_float, items_have_float}
use Rattle.model_history.specs.declared.op_id.OpId.{OpId}
use Rattle.pattern_check.specs.declared.derivation.Line.{Line}
use Rattle.pattern_check.specs.declared.derivation.Line.TheVariants as line
use Rattle.pattern_check.specs.declared.link.Link.{Link}
use Rattle.pattern_check.specs.declared.link.Link.TheVariants.{Co, Cf}
use Rattle.pattern_check.specs.declared.pattern.Pattern.{Pattern}
use Rattle.pattern_check.specs.declared.pattern.Pattern.TheVariants.{CyclicCO, ThinAirRead, WriteCOInitRead, WriteCORead, WriteHBInitRead, CyclicHB, CyclicCF}
use Rattle.pattern_json.specs.PatternForm.{form_of, line_form, link_form, op_form}

-- how deep the elements of a list nest
abbrev pub deepest : List Data → ℕ
deepest ds = items_depth (items_of ds)

pub deepest-map : {A : Type 0} (f : A → Data) (n : ℕ) → ((x : A) → depth (f x) ≤ n) → (xs : List A) → deepest (map f xs) ≤ n
deepest-map f n each [] = omega arith
deepest-map f n each (x ∷ xs) =
    let here = each x in
    let more = deepest-map f n each xs in
    omega arith

op_depth : (o : OpId) → depth (op_form o) ≤ 1
op_depth o = omega arith

ops_depth : (path : List OpId) → deepest (map op_form path) ≤ 1
ops_depth path = deepest-map op_form 1 op_depth path

link_depth : (link : Link) → depth (link_form link) ≤ 3
link_depth (Co a b) = omega arith
link_depth (Cf path b) = let ops = ops_depth path in omega arith

line_depth : (l : Line) → depth (line_form l) ≤ 3
line_depth (line.Co first second) =
    let above = ops_depth first in
    let below = ops_depth second in
    omega arith
line_depth (line.Tr i j) = omega arith
line_depth (line.Rf i r) = omega arith

lines_depth : (lines : List Line) → deepest (map line_form lines) ≤ 3
lines_depth lines = deepest-map line_form 3 line_depth lines

-- the form of a pattern nests to five lists at most
pub pattern_depth : (pattern : Pattern) → depth (form_of pattern) ≤ 5
pattern_depth (CyclicCO path) = let ops = ops_depth path in omega arith
pattern_depth (ThinAirRead r) = omega arith
pattern_depth (WriteCOInitRead path) = let ops = ops_depth path in omega arith
pattern_depth (WriteCORead first second) =
    let above = ops_depth first in
    let below = ops_depth second in
    omega arith
pattern_depth (WriteHBInitRead o lines) = let deep = lines_depth lines in omega arith
pattern_depth (CyclicHB o lines) = let deep = lines_depth lines in omega arith
pattern_depth (CyclicCF links) = let deep = deepest-map link_form 3 link_depth links in omega arith

-- a list of what has no float has none
pub no_float-map : {A : Type 0} (f : A → Data) → ((x : A) → has_float (f x) ≡ false) → (xs : List A) → items_have_float (items_of (map f xs)) ≡ false
no_float-map f each [] = refl
no_float-map f each (x ∷ xs) = rw (each x, no_float-map f each xs) refl

ops_have_no_float : (path : List OpId) → items_have_float (items_of (map op_form path)) ≡ false
ops_have_no_float path = no_float-map op_form (λ o. refl) path

link_has_no_float : (link : Link) → has_float (link_form link) ≡ false
link_has_no_float (Co a b) = refl
link_has_no_float (Cf path b) = rw (ops_have_no_float path) refl

line_has_no_float : (l : Line) → has_float (line_form l) ≡ false
line_has_no_float (line.Co first second) = rw (ops_have_no_float first, ops_have_no_float second) refl
line_has_no_float (line.Tr i j) = refl
line_has_no_float (line.Rf i r) = refl

lines_have_no_float : (lines : List Line) → items_have_float (items_of (map line_form lines)) ≡ false
lines_have_no_float lines = no_float-map line_form line_has_no_float lines

pub pattern_has_no_float : (pattern : Pattern) → has_float (form_of pattern) ≡ false
pattern_has_no_float (CyclicCO path) = rw (ops_have_no_float path) refl
pattern_has_no_float (ThinAirRead r) = refl
pattern_has_no_float (WriteCOInitRead path) = rw (ops_have_no_float path) refl
pattern_has_no_float (WriteCORead first second) = rw (ops_have_no_float first, ops_have_no_float second) refl
pattern_has_no_float (WriteHBInitRead o lines) = rw (lines_have_no_float lines) refl
pattern_has_no_float (CyclicHB o lines) = rw (lines_have_no_float lines) refl
pattern_has_no_float (CyclicCF links) = rw (no_float-map link_form link_has_no_float links) refl

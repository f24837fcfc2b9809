-- A value is the form of one pattern.
use Rattle.std.proofs.Common.{◌≡◌, ℕ, Bool, true, false, List, [], ◌∷◌, map, Option, Some, refl, ap, sym, ◌∙◌}
use Rattle.std.specs.Prelude.{codes, nat_eq, if◌then◌else◌}
use Rattle.std.specs.Cmp.Lexicographic.{pointwise}
use Rattle.std.proofs.lemmas.Option.{same_Some}
use Rattle.serde_json.specs.Data.{Data}
use Rattle.model_history.specs.declared.op_id.OpId.{OpId}
use Rattle.json_histories.specs.Json.{elements, whole_number}
use Rattle.json_histories.specs.Laws.Json.{elements-list}
use Rattle.json_histories.specs.Reads.{list_form, number_form, worded}
use Rattle.json_histories.proofs.ReadForms.{one_word}
use Rattle.pattern_check.specs.declared.derivation.Line.{Line}
use Rattle.pattern_check.specs.declared.derivation.Line.TheVariants as line
use Rattle.pattern_check.specs.declared.kind.Kind.{Kind}
use Rattle.pattern_check.specs.declared.kind.Kind.TheVariants as kinds
use Rattle.pattern_check.specs.declared.link.Link.{Link}
use Rattle.pattern_check.specs.declared.link.Link.TheVariants.{Co, Cf}
use Rattle.pattern_check.specs.declared.pattern.Pattern.{Pattern}
use Rattle.pattern_check.specs.declared.pattern.Pattern.TheVariants.{CyclicCO, ThinAirRead, WriteCOInitRead, WriteCORead, WriteHBInitRead, CyclicHB, CyclicCF}
use Rattle.pattern_check.specs.KindNames.{kind_name}
use Rattle.pattern_check.specs.Patterns.{kind_of}
use Rattle.pattern_json.specs.PatternForm.{op_form, path_form, link_form, links_form, line_form, lines_form, form_of}

-- two lists of two elements
both_of_two : (a b x y : Data) → a ∷ x ∷ [] ≡ b ∷ y ∷ [] → (a ≡ b) × (x ≡ y)
both_of_two a b x y same = let first : a ≡ b = cc in let second : x ≡ y = cc in (first, second)

one_of_one : (a b : Data) → a ∷ [] ≡ b ∷ [] → a ≡ b
one_of_one a b same = cc

-- ---- numbers and lists

one_number : (m n : ℕ) → number_form m ≡ number_form n → m ≡ n
one_number m n same = same_Some m n (ap whole_number same)

module _ {A : Type 0} (form : A → Data) (one : (a b : A) → form a ≡ form b → a ≡ b) where
  same_elements : (xs ys : List A) → map form xs ≡ map form ys → xs ≡ ys
  same_elements [] [] same = refl
  same_elements [] (y ∷ ys) same = absurd cc
  same_elements (x ∷ xs) [] same = absurd cc
  same_elements (x ∷ xs) (y ∷ ys) same =
      let first : form x ≡ form y = cc in
      let rest : map form xs ≡ map form ys = cc in
      rw (one x y first, same_elements xs ys rest) refl

  one_list : (xs ys : List A) → list_form form xs ≡ list_form form ys → xs ≡ ys
  one_list xs ys same = same_elements xs ys (same_Some _ _ (sym (elements-list (map form xs)) ∙ ap elements same ∙ elements-list (map form ys)))

-- ---- operations and paths

one_op : (a b : OpId) → op_form a ≡ op_form b → a ≡ b
one_op a b same =
    let numbers =
    both_of_two (number_form a.session) (number_form b.session) (number_form a.index) (number_form b.index)
    (same_Some _ _ (sym (elements-list (number_form a.session ∷ number_form a.index ∷ [])) ∙ ap elements same ∙ elements-list (number_form b.session ∷ number_form b.index ∷ []))) in
    rw (one_number a.session b.session numbers.0, one_number a.index b.index numbers.1) refl

one_path : (p q : List OpId) → path_form p ≡ path_form q → p ≡ q
one_path = one_list op_form one_op

-- ---- links and lines

one_link : (a b : Link) → link_form a ≡ link_form b → a ≡ b
one_link (Co a b) (Co c d) same =
    let parts = both_of_two (op_form a) (op_form c) (op_form b) (op_form d) (one_word (codes "co") (codes "co") (op_form a ∷ op_form b ∷ []) (op_form c ∷ op_form d ∷ []) same).1 in
    rw (one_op a c parts.0, one_op b d parts.1) refl
one_link (Cf p b) (Cf q d) same =
    let parts = both_of_two (path_form p) (path_form q) (op_form b) (op_form d) (one_word (codes "cf") (codes "cf") (path_form p ∷ op_form b ∷ []) (path_form q ∷ op_form d ∷ []) same).1 in
    rw (one_path p q parts.0, one_op b d parts.1) refl
one_link (Co a b) (Cf q d) same =
    let e : ◌≡◌ {A = Bool} true false = ap (pointwise nat_eq (codes "co")) (one_word (codes "co") (codes "cf") (op_form a ∷ op_form b ∷ []) (path_form q ∷ op_form d ∷ []) same).0 in absurd cc
one_link (Cf p b) (Co c d) same =
    let e : ◌≡◌ {A = Bool} true false = ap (pointwise nat_eq (codes "cf")) (one_word (codes "cf") (codes "co") (path_form p ∷ op_form b ∷ []) (op_form c ∷ op_form d ∷ []) same).0 in absurd cc

one_line : (a b : Line) → line_form a ≡ line_form b → a ≡ b
one_line (line.Co p q) (line.Co r s) same =
    let parts = both_of_two (path_form p) (path_form r) (path_form q) (path_form s) (one_word (codes "co") (codes "co") (path_form p ∷ path_form q ∷ []) (path_form r ∷ path_form s ∷ []) same).1 in
    rw (one_path p r parts.0, one_path q s parts.1) refl
one_line (line.Tr i j) (line.Tr k l) same =
    let parts = both_of_two (number_form i) (number_form k) (number_form j) (number_form l) (one_word (codes "tr") (codes "tr") (number_form i ∷ number_form j ∷ []) (number_form k ∷ number_form l ∷ []) same).1 in
    rw (one_number i k parts.0, one_number j l parts.1) refl
one_line (line.Rf i r) (line.Rf j s) same =
    let parts = both_of_two (number_form i) (number_form j) (op_form r) (op_form s) (one_word (codes "rf") (codes "rf") (number_form i ∷ op_form r ∷ []) (number_form j ∷ op_form s ∷ []) same).1 in
    rw (one_number i j parts.0, one_op r s parts.1) refl
one_line (line.Co p q) (line.Tr k l) same =
    let e : ◌≡◌ {A = Bool} true false = ap (pointwise nat_eq (codes "co")) (one_word (codes "co") (codes "tr") (path_form p ∷ path_form q ∷ []) (number_form k ∷ number_form l ∷ []) same).0 in absurd cc
one_line (line.Co p q) (line.Rf j s) same =
    let e : ◌≡◌ {A = Bool} true false = ap (pointwise nat_eq (codes "co")) (one_word (codes "co") (codes "rf") (path_form p ∷ path_form q ∷ []) (number_form j ∷ op_form s ∷ []) same).0 in absurd cc
one_line (line.Tr i j) (line.Co r s) same =
    let e : ◌≡◌ {A = Bool} true false = ap (pointwise nat_eq (codes "tr")) (one_word (codes "tr") (codes "co") (number_form i ∷ number_form j ∷ []) (path_form r ∷ path_form s ∷ []) same).0 in absurd cc
one_line (line.Tr i j) (line.Rf k s) same =
    let e : ◌≡◌ {A = Bool} true false = ap (pointwise nat_eq (codes "tr")) (one_word (codes "tr") (codes "rf") (number_form i ∷ number_form j ∷ []) (number_form k ∷ op_form s ∷ []) same).0 in absurd cc
one_line (line.Rf i r) (line.Co p q) same =
    let e : ◌≡◌ {A = Bool} true false = ap (pointwise nat_eq (codes "rf")) (one_word (codes "rf") (codes "co") (number_form i ∷ op_form r ∷ []) (path_form p ∷ path_form q ∷ []) same).0 in absurd cc
one_line (line.Rf i r) (line.Tr k l) same =
    let e : ◌≡◌ {A = Bool} true false = ap (pointwise nat_eq (codes "rf")) (one_word (codes "rf") (codes "tr") (number_form i ∷ op_form r ∷ []) (number_form k ∷ number_form l ∷ []) same).0 in absurd cc

-- ---- patterns

-- a kind by its name
abbrev kind_at : List ℕ → Option Kind
kind_at word =
    if pointwise nat_eq word (codes "CyclicCO") then Some kinds.CyclicCO
    else (if pointwise nat_eq word (codes "ThinAirRead") then Some kinds.ThinAirRead
    else (if pointwise nat_eq word (codes "WriteCOInitRead") then Some kinds.WriteCOInitRead
    else (if pointwise nat_eq word (codes "WriteCORead") then Some kinds.WriteCORead
    else (if pointwise nat_eq word (codes "WriteHBInitRead") then Some kinds.WriteHBInitRead
    else (if pointwise nat_eq word (codes "CyclicHB") then Some kinds.CyclicHB
    else Some kinds.CyclicCF)))))

at_name : (kind : Kind) → kind_at (kind_name kind) ≡ Some kind
at_name kinds.CyclicCO = refl
at_name kinds.ThinAirRead = refl
at_name kinds.WriteCOInitRead = refl
at_name kinds.WriteCORead = refl
at_name kinds.WriteHBInitRead = refl
at_name kinds.CyclicHB = refl
at_name kinds.CyclicCF = refl

one_kind : (a b : Kind) → kind_name a ≡ kind_name b → a ≡ b
one_kind a b same = same_Some a b (sym (at_name a) ∙ ap kind_at same ∙ at_name b)

-- what shows a pattern, behind the name of its kind
abbrev shown_form : Pattern → List Data
shown_form (CyclicCO path) = path_form path ∷ []
shown_form (ThinAirRead r) = op_form r ∷ []
shown_form (WriteCOInitRead path) = path_form path ∷ []
shown_form (WriteCORead first second) = path_form first ∷ path_form second ∷ []
shown_form (WriteHBInitRead o lines) = op_form o ∷ lines_form lines ∷ []
shown_form (CyclicHB o lines) = op_form o ∷ lines_form lines ∷ []
shown_form (CyclicCF links) = links_form links ∷ []

has_parts : (pattern : Pattern) → form_of pattern ≡ worded (kind_name (kind_of pattern)) (shown_form pattern)
has_parts (CyclicCO path) = refl
has_parts (ThinAirRead r) = refl
has_parts (WriteCOInitRead path) = refl
has_parts (WriteCORead first second) = refl
has_parts (WriteHBInitRead o lines) = refl
has_parts (CyclicHB o lines) = refl
has_parts (CyclicCF links) = refl

one_of_parts : (p q : Pattern) → kind_of p ≡ kind_of q → shown_form p ≡ shown_form q → p ≡ q
one_of_parts (CyclicCO p) (CyclicCO q) kinds_same same = ap CyclicCO (one_path p q (one_of_one (path_form p) (path_form q) same))
one_of_parts (ThinAirRead r) (ThinAirRead s) kinds_same same = ap ThinAirRead (one_op r s (one_of_one (op_form r) (op_form s) same))
one_of_parts (WriteCOInitRead p) (WriteCOInitRead q) kinds_same same = ap WriteCOInitRead (one_path p q (one_of_one (path_form p) (path_form q) same))
one_of_parts (WriteCORead p q) (WriteCORead r s) kinds_same same =
    let parts = both_of_two (path_form p) (path_form r) (path_form q) (path_form s) same in
    rw (one_path p r parts.0, one_path q s parts.1) refl
one_of_parts (WriteHBInitRead o l) (WriteHBInitRead p m) kinds_same same =
    let parts = both_of_two (op_form o) (op_form p) (lines_form l) (lines_form m) same in
    rw (one_op o p parts.0, one_list line_form one_line l m parts.1) refl
one_of_parts (CyclicHB o l) (CyclicHB p m) kinds_same same =
    let parts = both_of_two (op_form o) (op_form p) (lines_form l) (lines_form m) same in
    rw (one_op o p parts.0, one_list line_form one_line l m parts.1) refl
one_of_parts (CyclicCF l) (CyclicCF m) kinds_same same = ap CyclicCF (one_list link_form one_link l m (one_of_one (links_form l) (links_form m) same))
one_of_parts p q kinds_same same = absurd cc

pub one_pattern : (p q : Pattern) → form_of p ≡ form_of q → p ≡ q
one_pattern p q same =
    let parts =
    one_word (kind_name (kind_of p)) (kind_name (kind_of q)) (shown_form p) (shown_form q) (sym (has_parts p) ∙ same ∙ has_parts q) in
    one_of_parts p q (one_kind (kind_of p) (kind_of q) parts.0) parts.1

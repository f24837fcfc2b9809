-- Contents one after the other, and elements from their pieces.
use Rattle.std.proofs.Common.{◌≡◌, ◌++◌, ◌∙◌, ap, sym, refl, ℕ, List, [], ◌∷◌, codes, append_assoc, append-nil, subst, IsTrue, encode_utf8_all, Result, Ok, Err, OnOk, if◌then◌else◌}
use Rattle.std.specs.Result.{is_ok}
use lib.Utf8.{encode}
use Rattle.show_pictures.specs.Markup.{AreAttributes, IsContent, IsSvgElement, escaped_text, no_attribute, attribute, no_content, characters, element, empty_element, is_one_of, is_value, attribute_names, element_names}
use Rattle.show_pictures.specs.Steps.Drawing.{AppendsContent, AppendsMeasures, BeginsContent, EndsPath, IsWithin}
use Rattle.show_pictures.proofs.Values.{measure_is_value}

-- texts that are appended one after the other
pub two : (p q r a b : List ℕ) → q ≡ p ++ a → r ≡ q ++ b → r ≡ p ++ (a ++ b)
two p q r a b first second = second ∙ ap (λ (l : List ℕ). l ++ b) first ∙ append_assoc p a b

pub three : (p q r s a b c : List ℕ) → q ≡ p ++ a → r ≡ q ++ b → s ≡ r ++ c → s ≡ p ++ (a ++ (b ++ c))
three p q r s a b c first second third = two p q s a (b ++ c) first (two q r s b c second third)

-- a last `push_str`, whose result is returned
pub pushed : {T E : Type 0} (r : Result T E) (x y z : List ℕ) → x ≡ (if is_ok r then y else z) → OnOk r (x ≡ y)
pushed (Ok v) x y z is = is
pushed (Err e) x y z is = tt

content-append : {a b : List ℕ} → IsContent a → IsContent b → IsContent (a ++ b)
content-append no_content more = more
content-append {b = b} (characters words rest next) more =
    subst IsContent (sym (append_assoc (encode_utf8_all (escaped_text words)) rest b)) (characters words (rest ++ b) (content-append next more))
content-append {b = b} (element name attributes content rest is_name are_attributes within next) more =
    subst IsContent (simp append_assoc refl) (element name attributes content (rest ++ b) is_name are_attributes within (content-append next more))
content-append {b = b} (empty_element name attributes rest is_name are_attributes next) more =
    subst IsContent (simp append_assoc refl) (empty_element name attributes (rest ++ b) is_name are_attributes (content-append next more))

pub nothing_appended : (a : List ℕ) → AppendsContent a a
nothing_appended a = record { added = []; is = sym (append-nil a); content = no_content }

pub appended_then : (a b c : List ℕ) → AppendsContent a b → AppendsContent b c → AppendsContent a c
appended_then a b c first second = record {
  added = first.added ++ second.added;
  is = two a b c first.added second.added first.is second.is;
  content = content-append first.content second.content;
}

-- a line's end, and an escaped text
pub line_end : (rest : List ℕ) → IsContent rest → IsContent (10 ∷ rest)
unfolding encode
line_end rest next = characters (10 ∷ []) rest next

pub written_text : (w words : List ℕ) → w ≡ encode_utf8_all (escaped_text words) → IsContent w
written_text w words is = subst IsContent (append-nil (encode_utf8_all (escaped_text words)) ∙ sym is) (characters words [] no_content)

-- attributes, and what comes after them
pub data AttributesThen : List ℕ → List ℕ → Type 0 where
  at_end : (end : List ℕ) → AttributesThen end end
  attribute_then : (name value rest end : List ℕ) → IsTrue (is_one_of attribute_names name) → IsTrue (is_value value) → AttributesThen rest end
      → AttributesThen (codes " " ++ (name ++ (codes "=\"" ++ (value ++ (codes "\"" ++ rest))))) end

in_two_parts : (name value attributes end : List ℕ)
    → codes " " ++ (name ++ (codes "=\"" ++ (value ++ (codes "\"" ++ (attributes ++ end)))))
    ≡ (codes " " ++ (name ++ (codes "=\"" ++ (value ++ (codes "\"" ++ attributes))))) ++ end
in_two_parts name value attributes end = simp append_assoc refl

pub attributes_of : {bytes end : List ℕ} → AttributesThen bytes end
    → (attributes : List ℕ) × AreAttributes attributes × (bytes ≡ attributes ++ end)
attributes_of (at_end end) = ([], no_attribute, refl)
attributes_of (attribute_then name value rest end is_name right_value more) =
    let parts = attributes_of more in (
      codes " " ++ (name ++ (codes "=\"" ++ (value ++ (codes "\"" ++ parts.0)))),
      attribute name value parts.0 is_name right_value parts.1,
      ap (λ (l : List ℕ). codes " " ++ (name ++ (codes "=\"" ++ (value ++ (codes "\"" ++ l))))) parts.2
          ∙ in_two_parts name value parts.0 end,
    )

pub more_attributes : {attributes rest end : List ℕ} → AreAttributes attributes → AttributesThen rest end → AttributesThen (attributes ++ rest) end
more_attributes no_attribute more = more
more_attributes {rest = rest} {end = end} (attribute name value attributes is_name right_value are) more =
    subst (λ (l : List ℕ). AttributesThen l end) (in_two_parts name value attributes rest)
    (attribute_then name value (attributes ++ rest) end is_name right_value (more_attributes are more))

-- an element with no content, and one with content
pub empty_tag : (name bytes rest : List ℕ) → IsTrue (is_one_of element_names name) → AttributesThen bytes (codes "/>" ++ rest) → IsContent rest
    → IsContent (codes "<" ++ (name ++ bytes))
empty_tag name bytes rest is_name attributes next =
    let parts = attributes_of attributes in
    subst (λ (l : List ℕ). IsContent (codes "<" ++ (name ++ l))) (sym parts.2) (empty_element name parts.0 rest is_name parts.1 next)

pub full_tag : (name bytes content rest : List ℕ) → IsTrue (is_one_of element_names name)
    → AttributesThen bytes (codes ">" ++ (content ++ (codes "</" ++ (name ++ (codes ">" ++ rest))))) → IsContent content → IsContent rest
    → IsContent (codes "<" ++ (name ++ bytes))
full_tag name bytes content rest is_name attributes within next =
    let parts = attributes_of attributes in
    subst (λ (l : List ℕ). IsContent (codes "<" ++ (name ++ l))) (sym parts.2) (element name parts.0 content rest is_name parts.1 within next)

-- a group of a class, and the definitions
pub group_appended : (a b c d class : List ℕ) → IsTrue (is_value class) → b ≡ a ++ (codes "<g class=\"" ++ (class ++ codes "\">\n"))
    → AppendsContent b c → d ≡ c ++ codes "</g>\n" → AppendsContent a d
group_appended a b c d class is_class first second third =
    let within = second.added in record {
      added = codes "<g class=\"" ++ (class ++ (codes "\">\n" ++ (within ++ codes "</g>\n")));
      is = three a b c d (codes "<g class=\"" ++ (class ++ codes "\">\n")) within (codes "</g>\n") first second.is third
          ∙ ap (λ (l : List ℕ). a ++ (codes "<g class=\"" ++ l)) (append_assoc class (codes "\">\n") (within ++ codes "</g>\n"));
      content =
          full_tag (codes "g") _ (10 ∷ within) (codes "\n") refl (attribute_then (codes "class") class _ _ refl is_class (at_end _))
          (line_end within second.content) (line_end [] no_content);
    }

pub definitions_appended : (a b c d : List ℕ) → b ≡ a ++ codes "<defs>\n" → AppendsContent b c → d ≡ c ++ codes "</defs>\n" → AppendsContent a d
definitions_appended a b c d first second third = record {
  added = codes "<defs>\n" ++ (second.added ++ codes "</defs>\n");
  is = three a b c d (codes "<defs>\n") second.added (codes "</defs>\n") first second.is third;
  content = full_tag (codes "defs") _ (10 ∷ second.added) (codes "\n") refl (at_end _) (line_end second.added second.content) (line_end [] no_content);
}

-- a path of measures
pub path_appended : (a b c d : List ℕ) → b ≡ a ++ codes "<path d=\"" → AppendsMeasures b c → EndsPath c d → AppendsContent a d
path_appended a b c d first second third = record {
  added = codes "<path d=\"" ++ (second.added ++ (codes "\"" ++ (third.attributes ++ codes "/>\n")));
  is = three a b c d (codes "<path d=\"") second.added (codes "\"" ++ (third.attributes ++ codes "/>\n")) first second.is third.is;
  content =
      empty_tag (codes "path") _ (codes "\n") refl
      (attribute_then (codes "d") second.added _ _ refl (measure_is_value second.added second.measures)
      (more_attributes third.are_attributes (at_end _)))
      (line_end [] no_content);
}

-- the whole
pub within_tag : (a b c : List ℕ) → a ≡ [] → BeginsContent a b → AppendsContent b c → IsWithin c
within_tag a b c empty first second = record {
  attributes = first.attributes;
  content = 10 ∷ second.added;
  are_attributes = first.are_attributes;
  is_content = line_end second.added second.content;
  is = second.is ∙ ap (λ (l : List ℕ). l ++ second.added) (first.is ∙ ap (λ (l : List ℕ). l ++ (first.attributes ++ codes ">\n")) empty)
      ∙ append_assoc first.attributes (codes ">\n") second.added;
}

pub svg_element : (within svg : List ℕ) → svg ≡ codes "<svg" ++ within ++ codes "</svg>\n" → IsWithin within → IsSvgElement svg
svg_element within svg is parts = record {
  attributes = parts.attributes;
  content = parts.content;
  are_attributes = parts.are_attributes;
  is_content = parts.is_content;
  is = is ∙ ap (λ (l : List ℕ). codes "<svg" ++ (l ++ codes "</svg>\n")) parts.is
      ∙ ap (λ (l : List ℕ). codes "<svg" ++ l) (append_assoc parts.attributes (codes ">" ++ parts.content) (codes "</svg>\n"));
}

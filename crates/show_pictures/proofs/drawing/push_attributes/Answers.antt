-- Attributes in two pieces, and the end of the line.
use Rattle.std.proofs.Common.{◌≡◌, ◌++◌, ◌∙◌, ap, subst, refl, List, [], ℕ, codes, decimal, append_assoc, IsTrue}
use Rattle.std.proofs.lemmas.Result.{on_ok_weaker}
use Rattle.show_pictures.specs.Markup.{AreAttributes, no_attribute, attribute, is_value}
use Rattle.show_pictures.specs.Steps.Drawing.{BeginsContent}
use Rattle.show_pictures.proofs.Contents.{two, pushed, at_end, attribute_then, attributes_of, more_attributes}
use Rattle.show_pictures.proofs.Values.{number_is_value, number_is_measure, measure_is_value, number_then}
use Rattle.show_pictures.proofs.drawing.push_attributes.Goals as goal

view : (w h : List ℕ) → IsTrue (is_value (codes "0 0 " ++ (w ++ (codes " " ++ h))))
    → AreAttributes (codes " viewBox=\"0 0 " ++ (w ++ (codes " " ++ (h ++ codes "\""))))
view w h is =
    subst (λ (l : List ℕ). AreAttributes (codes " viewBox=\"0 0 " ++ l)) (simp append_assoc refl)
    (attribute (codes "viewBox") (codes "0 0 " ++ (w ++ (codes " " ++ h))) [] refl is no_attribute)

begun : (a b d : List ℕ) (width height : ℕ)
    → b ≡ a ++ (codes " xmlns=\"http://www.w3.org/2000/svg\" width=\"" ++ (decimal width ++ (codes "\" height=\"" ++ (decimal height
    ++ (codes "\" viewBox=\"0 0 " ++ (decimal width ++ (codes " " ++ (decimal height ++ codes "\""))))))))
    → d ≡ b ++ codes " font-family=\"system-ui, -apple-system, 'Segoe UI', Roboto, Arial, sans-serif\">\n" → BeginsContent a d
begun a b d width height first second =
    let parts =
    attributes_of (more_attributes (attribute (codes "xmlns") (codes "http://www.w3.org/2000/svg") _ refl refl
    (attribute (codes "width") (decimal width) _ refl (number_is_value width)
    (attribute (codes "height") (decimal height) _ refl (number_is_value height)
    (view (decimal width) (decimal height)
    (measure_is_value (codes "0 0 " ++ (decimal width ++ (codes " " ++ decimal height))) (number_then width _ (number_is_measure height)))))))
    (attribute_then (codes "font-family") (codes "system-ui, -apple-system, 'Segoe UI', Roboto, Arial, sans-serif") (codes ">\n") (codes ">\n")
    refl refl (at_end _))) in record {
      attributes = parts.0;
      is = two a b d _ _ first second ∙ ap (λ (l : List ℕ). a ++ l) parts.2;
      are_attributes = parts.1;
    }

pub returns : goal.returns
returns c =
    on_ok_weaker c.push_str.result (begun _ _ _ c.width-width.result.0 c.height-height.result.0 c.in_ok-write.ensures.bytes) (pushed c.push_str.result _ _ _ c.push_str.ensures.bytes)

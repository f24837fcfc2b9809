-- Attributes in two pieces, and the end of the line.
use Rattle.std.proofs.Common.{◌≡◌, ◌++◌, ◌∙◌, ap, subst, refl, List, ℕ, codes, append_assoc, IsTrue}
use Rattle.std.proofs.lemmas.Result.{on_ok_weaker}
use Rattle.show_pictures.specs.Markup.{AreAttributes, is_value}
use Rattle.show_pictures.specs.Steps.Drawing.{EndsPath}
use Rattle.show_pictures.proofs.Contents.{two, AttributesThen, at_end, attribute_then, attributes_of, more_attributes}
use Rattle.show_pictures.proofs.drawing_edges.end_edge.Goals as goal

spread : (p c q e b : List ℕ) → (p ++ (c ++ (q ++ e))) ++ b ≡ p ++ (c ++ (q ++ (e ++ b)))
spread p c q e b = simp append_assoc refl

reference : (marker : List ℕ) → IsTrue (is_value (codes "url(#" ++ (marker ++ codes ")")))
    → AttributesThen (codes " marker-end=\"url(#" ++ (marker ++ codes ")\"/>\n")) (codes "/>\n")
reference marker is =
    subst (λ (l : List ℕ). AttributesThen (codes " marker-end=\"url(#" ++ l) (codes "/>\n")) (append_assoc marker (codes ")") (codes "\"/>\n"))
    (attribute_then (codes "marker-end") (codes "url(#" ++ (marker ++ codes ")")) _ _ refl is (at_end _))

ended : (a b d color dashes marker : List ℕ) → IsTrue (is_value color) → AreAttributes dashes
    → IsTrue (is_value (codes "url(#" ++ (marker ++ codes ")")))
    → b ≡ a ++ (codes "\" fill=\"none\" stroke=\"" ++ (color ++ (codes "\" stroke-width=\"2\"" ++ dashes)))
    → d ≡ b ++ (codes " marker-end=\"url(#" ++ (marker ++ codes ")\"/>\n")) → EndsPath a d
ended a b d color dashes marker is_color are_dashes is_marker first second =
    let parts =
    attributes_of (attribute_then (codes "fill") (codes "none") _ _ refl refl
    (attribute_then (codes "stroke") color _ _ refl is_color
    (attribute_then (codes "stroke-width") (codes "2") _ _ refl refl (more_attributes are_dashes (reference marker is_marker))))) in record {
      attributes = parts.0;
      is = two a b d _ _ first second
          ∙ ap (λ (l : List ℕ). a ++ l) (spread (codes "\" fill=\"none\" stroke=\"") color (codes "\" stroke-width=\"2\"") dashes _)
          ∙ ap (λ (l : List ℕ). a ++ (codes "\"" ++ l)) parts.2;
      are_attributes = parts.1;
    }

pub returns : goal.returns
returns c =
    on_ok_weaker c.writeln.result
    (ended _ _ _ c.color_of-color.result.now c.dashes_of-dashes.result.now c.marker_of-marker.result.now c.color_of-color.ensures
    c.dashes_of-dashes.ensures c.marker_of-marker.ensures.is_reference c.in_ok-write.ensures.bytes) c.writeln.ensures.bytes

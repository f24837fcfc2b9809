-- An element with a path in it.
use Rattle.std.proofs.Common.{◌++◌, ◌∙◌, ap, sym, refl, List, [], ℕ, codes, string_bytes, append_assoc}
use Rattle.std.proofs.lemmas.Result.{on_ok_weaker}
use Rattle.show_pictures.specs.Markup.{no_content}
use Rattle.show_pictures.proofs.Contents.{three, line_end, at_end, attribute_then, empty_tag, full_tag}
use Rattle.show_pictures.proofs.drawing_head.draw_marker.Goals as goal

pub returns : goal.returns
returns c =
    let id = c.marker_of-id.result.now in
    let color = c.color_of-color.result.now in
    let opening = codes "\" viewBox=\"0 0 10 10\" refX=\"9\" refY=\"5\"" in
    let units = codes " markerUnits=\"userSpaceOnUse\" markerWidth=\"12\" markerHeight=\"12\"" in
    let path = codes "<path d=\"M0 0L10 5L0 10Z\" fill=\"" ++ (color ++ codes "\"/>") in
    let ending = codes " orient=\"auto\">" ++ (path ++ codes "</marker>\n") in
    on_ok_weaker c.writeln.result (λ is. record {
      added = codes "<marker id=\"" ++ (id ++ (opening ++ (units ++ ending)));
      is = three _ _ _ _ _ units _ c.in_ok-write.ensures.bytes c.in_ok-push_str.ensures.bytes is
          ∙ ap (λ (l : List ℕ). string_bytes c.args.svg.now ++ (codes "<marker id=\"" ++ l)) (append_assoc id opening _)
          ∙ ap (λ (l : List ℕ). string_bytes c.args.svg.now ++ (codes "<marker id=\"" ++ (id ++ (opening ++ (units
          ++ (codes " orient=\"auto\"><path d=\"M0 0L10 5L0 10Z\" fill=\"" ++ l))))))
          (sym (append_assoc color (codes "\"/>") (codes "</marker>\n")));
      content =
          full_tag (codes "marker") _ path (codes "\n") refl
          (attribute_then (codes "id") id _ _ refl c.marker_of-id.ensures.is_name
          (attribute_then (codes "viewBox") (codes "0 0 10 10") _ _ refl refl
          (attribute_then (codes "refX") (codes "9") _ _ refl refl
          (attribute_then (codes "refY") (codes "5") _ _ refl refl
          (attribute_then (codes "markerUnits") (codes "userSpaceOnUse") _ _ refl refl
          (attribute_then (codes "markerWidth") (codes "12") _ _ refl refl
          (attribute_then (codes "markerHeight") (codes "12") _ _ refl refl
          (attribute_then (codes "orient") (codes "auto") _ _ refl refl (at_end _)))))))))
          (empty_tag (codes "path") _ [] refl
          (attribute_then (codes "d") (codes "M0 0L10 5L0 10Z") _ _ refl refl
          (attribute_then (codes "fill") color _ _ refl c.color_of-color.ensures (at_end _)))
          no_content)
          (line_end [] no_content);
    }) c.writeln.ensures.bytes

-- An element with no content, and the end of its line.
use Rattle.std.proofs.Common.{refl, [], codes}
use Rattle.std.proofs.lemmas.Result.{on_ok_weaker}
use Rattle.show_pictures.specs.Markup.{no_content}
use Rattle.show_pictures.proofs.Contents.{line_end, at_end, attribute_then, empty_tag}
use Rattle.show_pictures.proofs.Values.{number_is_value}
use Rattle.show_pictures.proofs.drawing_lanes.draw_gap_ground.Goals as goal

pub returns : goal.returns
returns c =
    on_ok_weaker c.writeln.result (λ is. record {
      added = _;
      is = is;
      content =
          empty_tag (codes "rect") _ (codes "\n") refl
          (attribute_then (codes "x") _ _ _ refl (number_is_value c.left-x.result.0)
          (attribute_then (codes "y") _ _ _ refl (number_is_value _)
          (attribute_then (codes "width") _ _ _ refl (number_is_value c.box_width-width.result.0)
          (attribute_then (codes "height") (codes "24") _ _ refl refl
          (attribute_then (codes "fill") (codes "#ffffff") _ _ refl refl (at_end _))))))
          (line_end [] no_content);
    }) c.writeln.ensures.bytes

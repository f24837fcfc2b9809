-- An element with no content in two pieces, and the end of its line.
use Rattle.std.proofs.Common.{refl, [], codes}
use Rattle.std.proofs.lemmas.Result.{on_ok_weaker}
use Rattle.show_pictures.specs.Markup.{no_attribute, attribute, no_content}
use Rattle.show_pictures.proofs.Contents.{two, line_end, at_end, attribute_then, more_attributes, empty_tag}
use Rattle.show_pictures.proofs.Values.{number_is_value}
use Rattle.show_pictures.proofs.drawing_lanes.draw_box.Goals as goal

pub returns : goal.returns
returns c =
    on_ok_weaker c.writeln.result (λ is. record {
      added = _;
      is = two _ _ _ _ _ c.in_ok-write.ensures.bytes is;
      content =
          empty_tag (codes "rect") _ (codes "\n") refl
          (more_attributes
          (attribute (codes "x") _ _ refl (number_is_value c.left-x.result.0)
          (attribute (codes "y") _ _ refl (number_is_value c.top-y.result.0)
          (attribute (codes "width") _ _ refl (number_is_value c.box_width-width.result.0)
          (attribute (codes "height") _ _ refl (number_is_value c.box_height-height.result.0) no_attribute))))
          (attribute_then (codes "rx") (codes "7") _ _ refl refl (more_attributes c.box_style-style.ensures (at_end _))))
          (line_end [] no_content);
    }) c.writeln.ensures.bytes

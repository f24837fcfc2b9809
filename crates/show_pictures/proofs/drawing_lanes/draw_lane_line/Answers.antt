-- A text, and a line in two pieces.
use Rattle.std.proofs.Common.{refl, [], codes}
use Rattle.std.proofs.lemmas.Result.{on_ok_weaker}
use Rattle.show_pictures.specs.Markup.{no_attribute, attribute, no_content}
use Rattle.show_pictures.proofs.Contents.{two, pushed, appended_then, line_end, at_end, attribute_then, more_attributes, empty_tag}
use Rattle.show_pictures.proofs.Values.{number_is_value}
use Rattle.show_pictures.proofs.drawing_lanes.draw_lane_line.Goals as goal

pub push_text-requires : goal.push_text-requires
push_text-requires c =
    attribute (codes "font-size") (codes "14") _ refl refl (attribute (codes "font-weight") (codes "600") _ refl refl (attribute (codes "fill") (codes "#374151") _ refl refl (attribute (codes "text-anchor") (codes "middle") _ refl refl no_attribute)))

pub returns : goal.returns
returns c =
    on_ok_weaker c.push_str.result (λ is. appended_then _ _ _ c.in_ok-push_text.ensures record {
      added = _;
      is = two _ _ _ _ _ c.in_ok-write.ensures.bytes is;
      content =
          empty_tag (codes "line") _ (codes "\n") refl
          (more_attributes
          (attribute (codes "x1") _ _ refl (number_is_value c.middle-x.result.0)
          (attribute (codes "y1") _ _ refl (number_is_value _)
          (attribute (codes "x2") _ _ refl (number_is_value c.middle-x.result.0)
          (attribute (codes "y2") _ _ refl (number_is_value c.lanes_bottom-to.result.0) no_attribute))))
          (attribute_then (codes "stroke") (codes "#d1d5db") _ _ refl refl
          (attribute_then (codes "stroke-width") (codes "2") _ _ refl refl (at_end _))))
          (line_end [] no_content);
    }) (pushed c.push_str.result _ _ _ c.push_str.ensures.bytes)

-- A ground and a text.
use Rattle.std.proofs.Common.{refl, codes}
use Rattle.std.proofs.lemmas.Result.{on_ok_weaker}
use Rattle.show_pictures.specs.Markup.{no_attribute, attribute}
use Rattle.show_pictures.proofs.Contents.{appended_then}
use Rattle.show_pictures.proofs.drawing_lanes.draw_gap.Goals as goal

pub push_text-requires : goal.push_text-requires
push_text-requires c =
    attribute (codes "font-size") (codes "13") _ refl refl (attribute (codes "font-style") (codes "italic") _ refl refl (attribute (codes "fill") (codes "#6b7280") _ refl refl (attribute (codes "text-anchor") (codes "middle") _ refl refl no_attribute)))

pub returns : goal.returns
returns c = on_ok_weaker c.push_text.result (appended_then _ _ _ c.in_ok-draw_gap_ground.ensures) c.push_text.ensures

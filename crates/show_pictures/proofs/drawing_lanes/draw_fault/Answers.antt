-- The style is attributes.
use Rattle.std.proofs.Common.{refl, codes}
use Rattle.show_pictures.specs.Markup.{no_attribute, attribute}
use Rattle.show_pictures.proofs.drawing_lanes.draw_fault.Goals as goal

pub push_text-requires : goal.push_text-requires
push_text-requires c = attribute (codes "font-size") (codes "11") _ refl refl (attribute (codes "font-weight") (codes "700") _ refl refl (attribute (codes "fill") (codes "#b91c1c") _ refl refl no_attribute))

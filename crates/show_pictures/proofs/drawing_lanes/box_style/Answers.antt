-- Each is attributes.
use Rattle.std.proofs.Common.{refl, codes}
use Rattle.show_pictures.specs.Markup.{no_attribute, attribute}
use Rattle.show_pictures.proofs.drawing_lanes.box_style.Goals as goal

pub returns-in-Wrong : goal.returns-in-Wrong
returns-in-Wrong c =
    attribute (codes "class") (codes "wrong") _ refl refl (attribute (codes "fill") (codes "#fee2e2") _ refl refl (attribute (codes "stroke") (codes "#b91c1c") _ refl refl (attribute (codes "stroke-width") (codes "4") _ refl refl no_attribute)))

pub returns-in-Marked : goal.returns-in-Marked
returns-in-Marked c =
    attribute (codes "class") (codes "marked") _ refl refl (attribute (codes "fill") (codes "#fff4d6") _ refl refl (attribute (codes "stroke") (codes "#c98a00") _ refl refl (attribute (codes "stroke-width") (codes "2") _ refl refl no_attribute)))

pub returns-in-Plain : goal.returns-in-Plain
returns-in-Plain c =
    attribute (codes "class") (codes "plain") _ refl refl (attribute (codes "fill") (codes "#f9fafb") _ refl refl (attribute (codes "stroke") (codes "#d1d5db") _ refl refl no_attribute))

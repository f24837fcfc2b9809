-- Each is attributes.
use Rattle.std.proofs.Common.{refl, codes}
use Rattle.show_pictures.specs.Markup.{no_attribute, attribute}
use Rattle.show_pictures.proofs.drawing_lanes.label_style.Goals as goal

pub returns-in-Wrong : goal.returns-in-Wrong
returns-in-Wrong c =
    attribute (codes "font-family") (codes "ui-monospace, Menlo, Consolas, monospace") _ refl refl (attribute (codes "font-size") (codes "14") _ refl refl (attribute (codes "font-weight") (codes "700") _ refl refl (attribute (codes "fill") (codes "#7f1d1d") _ refl refl no_attribute)))

pub returns-in-Marked : goal.returns-in-Marked
returns-in-Marked c =
    attribute (codes "font-family") (codes "ui-monospace, Menlo, Consolas, monospace") _ refl refl (attribute (codes "font-size") (codes "14") _ refl refl (attribute (codes "font-weight") (codes "600") _ refl refl (attribute (codes "fill") (codes "#111827") _ refl refl no_attribute)))

pub returns-in-Plain : goal.returns-in-Plain
returns-in-Plain c =
    attribute (codes "font-family") (codes "ui-monospace, Menlo, Consolas, monospace") _ refl refl (attribute (codes "font-size") (codes "14") _ refl refl (attribute (codes "fill") (codes "#4b5563") _ refl refl no_attribute))

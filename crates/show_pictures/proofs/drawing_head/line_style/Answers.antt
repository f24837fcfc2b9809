-- Both are attributes.
use Rattle.std.proofs.Common.{refl, codes}
use Rattle.show_pictures.specs.Markup.{no_attribute, attribute}
use Rattle.show_pictures.proofs.drawing_head.line_style.Goals as goal

pub returns-then-number-eq0 : goal.returns-then-number-eq0
returns-then-number-eq0 c = attribute (codes "font-size") (codes "18") _ refl refl (attribute (codes "font-weight") (codes "700") _ refl refl (attribute (codes "fill") (codes "#111827") _ refl refl no_attribute))

pub returns-else-number-eq0 : goal.returns-else-number-eq0
returns-else-number-eq0 c = attribute (codes "font-size") (codes "14") _ refl refl (attribute (codes "fill") (codes "#374151") _ refl refl no_attribute)

-- Each is attributes.
use Rattle.std.proofs.Common.{refl, codes}
use Rattle.show_pictures.specs.Markup.{no_attribute, attribute}
use Rattle.show_pictures.proofs.drawing_edges.dashes_of.Goals as goal

pub returns-in-ProgramOrder : goal.returns-in-ProgramOrder
returns-in-ProgramOrder c = no_attribute

pub returns-in-Conflict : goal.returns-in-Conflict
returns-in-Conflict c = attribute (codes "stroke-dasharray") (codes "8 4") _ refl refl no_attribute

pub returns-in-HappenedBefore : goal.returns-in-HappenedBefore
returns-in-HappenedBefore c = attribute (codes "stroke-dasharray") (codes "3 4") _ refl refl no_attribute

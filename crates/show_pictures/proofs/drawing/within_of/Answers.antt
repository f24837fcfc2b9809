-- Attributes and content.
use Rattle.show_pictures.proofs.Contents.{within_tag}
use Rattle.show_pictures.proofs.drawing.within_of.Goals as goal

pub returns : goal.returns
returns c = within_tag _ _ _ c.new-within.ensures.bytes c.in_ok-push_attributes.ensures c.in_ok-draw_scene.ensures

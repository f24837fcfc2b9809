-- One entry more.
use Rattle.show_pictures.proofs.Contents.{nothing_appended, appended_then}
use Rattle.show_pictures.proofs.drawing_lanes.draw_lane.Goals as goal

pub loop-place-init : goal.loop-place-init
loop-place-init c = nothing_appended _

pub loop-place-preserved : goal.loop-place-preserved
loop-place-preserved c = appended_then _ _ _ c.loop-place.invariant c.in_ok-draw_entry.ensures

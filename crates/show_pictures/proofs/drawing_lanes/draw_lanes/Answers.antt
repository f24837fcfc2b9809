-- One lane more.
use Rattle.show_pictures.proofs.Contents.{nothing_appended, appended_then}
use Rattle.show_pictures.proofs.drawing_lanes.draw_lanes.Goals as goal

pub loop-number-init : goal.loop-number-init
loop-number-init c = nothing_appended _

pub loop-number-preserved : goal.loop-number-preserved
loop-number-preserved c = appended_then _ _ _ c.loop-number.invariant c.in_ok-draw_lane.ensures

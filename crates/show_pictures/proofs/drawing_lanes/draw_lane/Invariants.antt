-- The content so far.
use Rattle.std.proofs.Common.{string_bytes}
use Rattle.show_pictures.specs.Steps.Drawing.{AppendsContent}
use Rattle.show_pictures.proofs.drawing_lanes.draw_lane.Given as goal

abbrev pub invariant-loop-place : goal.invariant-loop-place
invariant-loop-place l = AppendsContent (string_bytes l.initial.svg) (string_bytes l.svg)
